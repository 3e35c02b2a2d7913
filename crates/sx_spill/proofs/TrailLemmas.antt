-- Out along a chain, and back.
use Rattle.std.proofs.Common.{◌≡◌, inl, inr, ℕ, zero, suc, ◌+◌, ◌≤◌, Bool, true, false, cond, ◌||◌, List, [], ◌∷◌, ◌++◌, Option, Some, None, is_some, length, nat_eq, refl, sym, ap, subst, ◌∙◌, arith}
use Rattle.std.specs.Ordering.{nat_cmp, is_eq}
use Rattle.std.proofs.lemmas.Bool.Decides.{nat_tests}
use Rattle.sx_spill.specs.Chains.{link_of, trail_of, are_distinct}
use Rattle.sx_spill.specs.Marks.{Reaches, IsTrail, is_settled, IsPassed, IsNoted, IsKnown, IsOut, IsBack}
use Rattle.sx_spill.proofs.BoolLemmas.{no_both, is_false, or_left, or_one, same_true, true_same}
use Rattle.sx_spill.proofs.ListLemmas.{has, has_append, pushed, last_new, last_has, before_last, none_apart, first_apart}
use Rattle.sx_spill.proofs.ChainLemmas.{AreFew, look, absent, present, trail_none, trail_some, trail_zero, chain_few, reach_none, reach_some}

-- the two tests of equal pages
pub same_page : (a b : ℕ) → is_eq (nat_cmp a b) ≡ nat_eq a b
same_page a b = grind (arith, nat_tests)

-- ---- trails

pub trail_join : (view : ℕ → Option (List ℕ)) (from at to : ℕ) (first second : List ℕ) → IsTrail view from first at → IsTrail view at second to → IsTrail view from (first ++ second) to
trail_join view from at to [] second is other = subst (λ n. IsTrail view n second to) is other
trail_join view from at to (number ∷ first) second is other = (is.0, is.1, is.2, trail_join view (link_of is.1) at to first second is.3 other)

pub record IsJoined (view : ℕ → Option (List ℕ)) (from to : ℕ) (first second : List ℕ) : Type 0 where
  pub at : ℕ
  pub one : IsTrail view from first at
  pub other : IsTrail view at second to

pub trail_parts : (view : ℕ → Option (List ℕ)) (from to : ℕ) (first second : List ℕ) → IsTrail view from (first ++ second) to → IsJoined view from to first second
trail_parts view from to [] second is = record { at = from; one = refl; other = is }
trail_parts view from to (number ∷ first) second is =
    let rest = trail_parts view (link_of is.1) to first second is.3 in
    record { at = rest.at; one = (is.0, is.1, is.2, rest.one); other = rest.other }

-- the last page of a trail
pub record IsLast (view : ℕ → Option (List ℕ)) (from last to : ℕ) (trail : List ℕ) : Type 0 where
  pub rest : IsTrail view from trail last
  pub page : List ℕ
  pub found : view last ≡ Some page
  pub leads : to ≡ link_of page

pub trail_last : (view : ℕ → Option (List ℕ)) (from last to : ℕ) (trail : List ℕ) → IsTrail view from (trail ++ last ∷ []) to → IsLast view from last to trail
trail_last view from last to [] is = record { rest = is.0; page = is.1; found = is.2; leads = is.3 }
trail_last view from last to (number ∷ trail) is =
    let before = trail_last view (link_of is.1) last to trail is.3 in
    record { rest = (is.0, is.1, is.2, before.rest); page = before.page; found = before.found; leads = before.leads }

pub trail_more : (view : ℕ → Option (List ℕ)) (from at : ℕ) (trail : List ℕ) (page : List ℕ) → IsTrail view from trail at → view at ≡ Some page
    → IsTrail view from (trail ++ at ∷ []) (link_of page)
trail_more view from at [] page is found = (is, page, found, refl)
trail_more view from at (number ∷ trail) page is found = (is.0, is.1, is.2, trail_more view (link_of is.1) at trail page is.3 found)

pub trail_held : (view : ℕ → Option (List ℕ)) (from to q : ℕ) (trail : List ℕ) → IsTrail view from trail to → has trail q ≡ true → is_some (view q) ≡ true
trail_held view from to q [] is there = let clash : false ≡ true = there in absurd cc
trail_held view from to q (number ∷ trail) is there = held_case (nat_eq q number) refl (trail_held view (link_of is.1) to q trail is.3)
  where
    held_case : (b : Bool) → nat_eq q number ≡ b → (has trail q ≡ true → is_some (view q) ≡ true) → is_some (view q) ≡ true
    held_case true same rest = ap (λ k. is_some (view k)) (true_same q number same) ∙ ap is_some is.2
    held_case false other rest = rest (or_one (nat_eq q number) (has trail q) there other)

pub trail_few : (view : ℕ → Option (List ℕ)) (from to most : ℕ) (trail : List ℕ) → AreFew view most → IsTrail view from trail to → are_distinct trail ≡ true → length trail ≤ most
trail_few view from to most trail few is apart = few trail apart (λ q. trail_held view from to q trail is)

-- ---- what is noted

pub none_noted : (view : ℕ → Option (List ℕ)) (marks : ℕ → Option ℕ) → ((q : ℕ) → marks q ≡ None) → IsKnown view marks
none_noted view marks none = record {
  right = λ number len is. let clash : None ≡ Some (suc len) = sym (none number) ∙ is in absurd cc;
  half = λ number is. let clash : None ≡ Some 0 = sym (none number) ∙ is in absurd cc;
  there = λ number is. let clash : false ≡ true = is in absurd cc;
  closed = λ number page is found. let clash : false ≡ true = ap is_settled (sym (none number)) ∙ is in absurd cc;
}

-- a page on the trail isn't settled
pub on_trail : (view : ℕ → Option (List ℕ)) (trail : List ℕ) (marks : ℕ → Option ℕ) (q : ℕ) → IsNoted view trail marks → has trail q ≡ true → is_settled (marks q) ≡ false
on_trail view trail marks q noted there = ap is_settled (noted.there q there)

passed_settled : (view : ℕ → Option (List ℕ)) (marks : ℕ → Option ℕ) (at : ℕ) (page : List ℕ) → IsPassed view marks at → view at ≡ Some page → is_settled (marks at) ≡ true
passed_settled view marks at page passed found = elim passed [
  | inl settled ↦ settled
  | inr none ↦ let clash : Some page ≡ None = sym found ∙ none in absurd cc
]

-- the pages behind one that is passed are settled
pub trail_settled : (view : ℕ → Option (List ℕ)) (trail : List ℕ) (marks : ℕ → Option ℕ) (at n q : ℕ) → IsNoted view trail marks → IsPassed view marks at
    → has (trail_of view at n) q ≡ true → is_settled (marks q) ≡ true
trail_settled view trail marks at zero q noted passed is = let clash : false ≡ true = ap (λ t. has t q) (sym (trail_zero view at)) ∙ is in absurd cc
trail_settled view trail marks at (suc n) q noted passed is =
    elim (look view at) [
      | absent none ↦ let clash : false ≡ true = ap (λ t. has t q) (sym (trail_none view at (suc n) none)) ∙ is in absurd cc
      | present page found ↦
          let here = passed_settled view marks at page passed found in
          settled_case (link_of page) here (nat_eq q at) refl (ap (λ t. has t q) (sym (trail_some view at n page found)) ∙ is)
          (trail_settled view trail marks (link_of page) n q noted (noted.closed at page here found))
    ]
  where
    settled_case : (next : ℕ) → is_settled (marks at) ≡ true → (b : Bool) → nat_eq q at ≡ b → (nat_eq q at || has (trail_of view next n) q) ≡ true
        → (has (trail_of view next n) q ≡ true → is_settled (marks q) ≡ true) → is_settled (marks q) ≡ true
    settled_case next here true same there rest = ap (λ k. is_settled (marks k)) (true_same q at same) ∙ here
    settled_case next here false other there rest = rest (or_one (nat_eq q at) (has (trail_of view next n) q) there other)

-- ---- out

pub out_start : (view : ℕ → Option (List ℕ)) (link : ℕ) (trail : List ℕ) (marks : ℕ → Option ℕ) → trail ≡ [] → IsKnown view marks → IsOut view link link trail marks
out_start view link trail marks empty known =
    subst (λ t. IsOut view link link t marks) (sym empty) (record { leads = refl; apart = none_apart; noted = known })

-- one more mark
abbrev Puts : (ℕ → Option ℕ) → (ℕ → Option ℕ) → ℕ → ℕ → Type 0
Puts marks more at value = (q : ℕ) → more q ≡ cond (nat_eq at q) (Some value) (marks q)

put_here : (marks more : ℕ → Option ℕ) (at value q : ℕ) → Puts marks more at value → nat_eq at q ≡ true → more q ≡ Some value
put_here marks more at value q put same = put q ∙ ap (λ b. cond b (Some value) (marks q)) same

put_other : (marks more : ℕ → Option ℕ) (at value q : ℕ) → Puts marks more at value → nat_eq at q ≡ false → more q ≡ marks q
put_other marks more at value q put other = put q ∙ ap (λ b. cond b (Some value) (marks q)) other

new_page : (view : ℕ → Option (List ℕ)) (trail : List ℕ) (marks : ℕ → Option ℕ) (at : ℕ) → IsNoted view trail marks → marks at ≡ None → has trail at ≡ false
new_page view trail marks at noted none =
    is_false (has trail at) (λ (there : has trail at ≡ true). let clash : None ≡ Some 0 = sym none ∙ noted.there at there in cc)

out_noted : (view : ℕ → Option (List ℕ)) (at : ℕ) (trail : List ℕ) (marks more : ℕ → Option ℕ) → IsNoted view trail marks → marks at ≡ None → Puts marks more at 0
    → IsNoted view (trail ++ at ∷ []) more
out_noted view at trail marks more noted none put = record {
  right = λ number len is. right_case number len is (nat_eq at number) refl;
  half = λ number is. half_case number is (nat_eq at number) refl;
  there = λ number is. there_case number is (nat_eq at number) refl;
  closed = λ number page is found. closed_case number page is found (nat_eq at number) refl;
}
  where
    right_case : (number len : ℕ) → more number ≡ Some (suc len) → (b : Bool) → nat_eq at number ≡ b → Reaches view number (suc len)
    right_case number len is true same = let clash : Some 0 ≡ Some (suc len) = sym (put_here marks more at 0 number put same) ∙ is in absurd cc
    right_case number len is false other = noted.right number len (sym (put_other marks more at 0 number put other) ∙ is)

    half_case : (number : ℕ) → more number ≡ Some 0 → (b : Bool) → nat_eq at number ≡ b → has (trail ++ at ∷ []) number ≡ true
    half_case number is true same = ap (has (trail ++ at ∷ [])) (sym (true_same at number same)) ∙ last_has trail at
    half_case number is false other =
        has_append trail (at ∷ []) number
        ∙ or_left (has trail number) (has (at ∷ []) number) (noted.half number (sym (put_other marks more at 0 number put other) ∙ is))

    there_case : (number : ℕ) → has (trail ++ at ∷ []) number ≡ true → (b : Bool) → nat_eq at number ≡ b → more number ≡ Some 0
    there_case number is true same = put_here marks more at 0 number put same
    there_case number is false other = put_other marks more at 0 number put other ∙ noted.there number (before_last trail at number is other)

    settled_still : (q : ℕ) → is_settled (marks q) ≡ true → (b : Bool) → nat_eq at q ≡ b → is_settled (more q) ≡ true
    settled_still q is true same =
        let clash : false ≡ true = ap is_settled (sym none) ∙ ap (λ k. is_settled (marks k)) (true_same at q same) ∙ is in absurd cc
    settled_still q is false other = ap is_settled (put_other marks more at 0 q put other) ∙ is

    passed_still : (q : ℕ) → IsPassed view marks q → IsPassed view more q
    passed_still q passed = elim passed [
      | inl settled ↦ inl (settled_still q settled (nat_eq at q) refl)
      | inr gone ↦ inr gone
    ]

    closed_case : (number : ℕ) (page : List ℕ) → is_settled (more number) ≡ true → view number ≡ Some page → (b : Bool) → nat_eq at number ≡ b → IsPassed view more (link_of page)
    closed_case number page is found true same =
        let clash : false ≡ true = ap is_settled (sym (put_here marks more at 0 number put same)) ∙ is in absurd cc
    closed_case number page is found false other =
        passed_still (link_of page) (noted.closed number page (ap is_settled (sym (put_other marks more at 0 number put other)) ∙ is) found)

-- a page more
pub out_more : (view : ℕ → Option (List ℕ)) (link at next : ℕ) (trail new : List ℕ) (marks more : ℕ → Option ℕ) (page : List ℕ) → IsOut view link at trail marks
    → marks at ≡ None → view at ≡ Some page → new ≡ trail ++ at ∷ [] → ((q : ℕ) → more q ≡ cond (nat_eq at q) (Some 0) (marks q)) → next ≡ link_of page
    → IsOut view link next new more
out_more view link at next trail new marks more page out none found grown put leads =
    subst (λ n. IsOut view link n new more) (sym leads) (subst (λ t. IsOut view link (link_of page) t more) (sym grown) (record {
      leads = trail_more view link at trail page out.leads found;
      apart = pushed trail at out.apart (new_page view trail marks at out.noted none);
      noted = out_noted view at trail marks more out.noted none put;
    }))

-- the end of the way out: no page is there, or one of which it is known how many follow
pub back_from_none : (view : ℕ → Option (List ℕ)) (link at : ℕ) (trail : List ℕ) (marks : ℕ → Option ℕ) → IsOut view link at trail marks → view at ≡ None → IsBack view link at 0 trail marks
back_from_none view link at trail marks out none = record { out = out; passed = inr none; reaches = reach_none view at none }

pub back_from_known : (view : ℕ → Option (List ℕ)) (link at len : ℕ) (trail : List ℕ) (marks : ℕ → Option ℕ) → IsOut view link at trail marks → marks at ≡ Some len → (len ≡ 0 → ⊥) → IsBack view link at len trail marks
back_from_known view link at zero trail marks out is some = absurd (some refl)
back_from_known view link at (suc len) trail marks out is some = record { out = out; passed = inl (ap is_settled is); reaches = out.noted.right at len is }

-- ---- back

back_noted : (view : ℕ → Option (List ℕ)) (last len : ℕ) (trail : List ℕ) (marks more : ℕ → Option ℕ) (page : List ℕ) → are_distinct (trail ++ last ∷ []) ≡ true
    → IsNoted view (trail ++ last ∷ []) marks → view last ≡ Some page → IsPassed view marks (link_of page) → Reaches view last (suc len) → Puts marks more last (suc len)
    → IsNoted view trail more
back_noted view last len trail marks more page apart noted found passed reaches put = record {
  right = λ number n is. right_case number n is (nat_eq last number) refl;
  half = λ number is. half_case number is (nat_eq last number) refl;
  there = λ number is. there_case number is (nat_eq last number) refl;
  closed = λ number view' is there. closed_case number view' is there (nat_eq last number) refl;
}
  where
    right_case : (number n : ℕ) → more number ≡ Some (suc n) → (b : Bool) → nat_eq last number ≡ b → Reaches view number (suc n)
    right_case number n is true same =
        let one : Some (suc len) ≡ Some (suc n) = sym (put_here marks more last (suc len) number put same) ∙ is in
        let long : suc len ≡ suc n = cc in
        subst (λ k. Reaches view number k) long (subst (λ q. Reaches view q (suc len)) (true_same last number same) reaches)
    right_case number n is false other = noted.right number n (sym (put_other marks more last (suc len) number put other) ∙ is)

    half_case : (number : ℕ) → more number ≡ Some 0 → (b : Bool) → nat_eq last number ≡ b → has trail number ≡ true
    half_case number is true same = let clash : Some (suc len) ≡ Some 0 = sym (put_here marks more last (suc len) number put same) ∙ is in absurd cc
    half_case number is false other = before_last trail last number (noted.half number (sym (put_other marks more last (suc len) number put other) ∙ is)) other

    there_case : (number : ℕ) → has trail number ≡ true → (b : Bool) → nat_eq last number ≡ b → more number ≡ Some 0
    there_case number is true same =
        absurd (no_both (has trail last) (ap (has trail) (true_same last number same) ∙ is) (last_new trail last apart))
    there_case number is false other =
        put_other marks more last (suc len) number put other
        ∙ noted.there number (has_append trail (last ∷ []) number ∙ or_left (has trail number) (has (last ∷ []) number) is)

    settled_still : (q : ℕ) → is_settled (marks q) ≡ true → (b : Bool) → nat_eq last q ≡ b → is_settled (more q) ≡ true
    settled_still q is true same = ap is_settled (put_here marks more last (suc len) q put same)
    settled_still q is false other = ap is_settled (put_other marks more last (suc len) q put other) ∙ is

    passed_still : (q : ℕ) → IsPassed view marks q → IsPassed view more q
    passed_still q is = elim is [
      | inl settled ↦ inl (settled_still q settled (nat_eq last q) refl)
      | inr gone ↦ inr gone
    ]

    closed_case : (number : ℕ) (held : List ℕ) → is_settled (more number) ≡ true → view number ≡ Some held → (b : Bool) → nat_eq last number ≡ b → IsPassed view more (link_of held)
    closed_case number held is there true same =
        let both : Some page ≡ Some held = sym found ∙ ap view (true_same last number same) ∙ there in
        let one : page ≡ held = cc in
        subst (λ p. IsPassed view more (link_of p)) one (passed_still (link_of page) passed)
    closed_case number held is there false other =
        passed_still (link_of held) (noted.closed number held (ap is_settled (sym (put_other marks more last (suc len) number put other)) ∙ is) there)

-- how many follow from the page before
pub back_reach : (view : ℕ → Option (List ℕ)) (link at len last : ℕ) (trail all : List ℕ) (marks : ℕ → Option ℕ) → all ≡ trail ++ last ∷ [] → IsBack view link at len all marks
    → Reaches view last (len + 1)
back_reach view link at len last trail all marks popped back =
    let is = subst (λ t. IsBack view link at len t marks) popped back in
    let end = trail_last view link last at trail is.out.leads in
    reach_some view last len end.page end.found (subst (λ n. Reaches view n len) end.leads is.reaches)
    (is_false (has (trail_of view (link_of end.page) len) last)
    (λ (there : has (trail_of view (link_of end.page) len) last ≡ true).
    no_both (is_settled (marks last))
    (trail_settled view (trail ++ last ∷ []) marks (link_of end.page) len last is.out.noted (subst (IsPassed view marks) end.leads is.passed) there)
    (on_trail view (trail ++ last ∷ []) marks last is.out.noted (last_has trail last))))

pub back_few : (view : ℕ → Option (List ℕ)) (link at len last most : ℕ) (trail all : List ℕ) (marks : ℕ → Option ℕ) → AreFew view most → all ≡ trail ++ last ∷ []
    → IsBack view link at len all marks → len + 1 ≤ most
back_few view link at len last most trail all marks few popped back =
    chain_few view last (len + 1) most few (back_reach view link at len last trail all marks popped back).whole

-- a page less
pub back_more : (view : ℕ → Option (List ℕ)) (link at len more_len last : ℕ) (trail all : List ℕ) (marks more : ℕ → Option ℕ) → all ≡ trail ++ last ∷ []
    → IsBack view link at len all marks → more_len ≡ len + 1 → ((q : ℕ) → more q ≡ cond (nat_eq last q) (Some more_len) (marks q))
    → IsBack view link last more_len trail more
back_more view link at len more_len last trail all marks more popped back counted put =
    let is = subst (λ t. IsBack view link at len t marks) popped back in
    let end = trail_last view link last at trail is.out.leads in
    let long : more_len ≡ suc len = omega arith in
    let reaches = subst (Reaches view last) (sym counted) (back_reach view link at len last trail all marks popped back) in
    record {
      out = record {
        leads = end.rest;
        apart = first_apart trail (last ∷ []) is.out.apart;
        noted = back_noted view last len trail marks more end.page is.out.apart is.out.noted end.found (subst (IsPassed view marks) end.leads is.passed)
            (subst (Reaches view last) long reaches) (λ q. put q ∙ ap (λ n. cond (nat_eq last q) (Some n) (marks q)) long);
      };
      passed = inl (ap is_settled (put last ∙ ap (λ b. cond b (Some more_len) (marks last)) (same_true last last refl) ∙ ap Some long));
      reaches = reaches;
    }

pub back_end : (view : ℕ → Option (List ℕ)) (link at len : ℕ) (trail : List ℕ) (marks : ℕ → Option ℕ) → trail ≡ [] → IsBack view link at len trail marks → Reaches view link len
back_end view link at len trail marks empty back =
    let is = subst (λ t. IsBack view link at len t marks) empty back in
    subst (λ n. Reaches view n len) is.out.leads is.reaches

pub back_known : (view : ℕ → Option (List ℕ)) (link at len : ℕ) (trail : List ℕ) (marks : ℕ → Option ℕ) → trail ≡ [] → IsBack view link at len trail marks → IsKnown view marks
back_known view link at len trail marks empty back = subst (λ t. IsNoted view t marks) empty back.out.noted
