-- Out along a chain, and back.
use Rattle.std.proofs.Common.{◌≡◌, inl, inr, ℕ, ◌+◌, min, Bool, true, false, cond, ◌||◌, List, [], ◌∷◌, ◌++◌, Option, Some, None, is_some, length, nat_eq, refl, sym, ap, subst, ◌∙◌, arith, eqb-true, eq-eqb}
use Rattle.std.specs.Prelude.{◌⊎◌}
use Rattle.std.specs.List.{list_any, IsDistinct}
use Rattle.std.proofs.Math.Bool.{or-false}
use Rattle.std.proofs.lemmas.Cmp.{nat_eq_equiv}
use Rattle.std.proofs.lemmas.List.Folds.{list_any-append}
use Rattle.std.proofs.lemmas.Map.Keys.{IsDistinct-push}
use Rattle.std.specs.Ordering.{nat_cmp, is_eq}
use Rattle.std.proofs.lemmas.Bool.Decides.{nat_tests}
use Rattle.std.proofs.lemmas.Map.Views.{Contains-from_any}
use Rattle.sx_overflow.specs.Chains.{linked, link_of, chain_of, IsTrail}
use Rattle.sx_overflow.proofs.Lengths.{chain_next, chain_round}
use Rattle.sx_row.specs.Marks.{IsKnown, IsHalf}

-- how many pages follow one another from a number on
abbrev len_from : (ℕ → Option (List ℕ)) → ℕ → ℕ → ℕ
len_from view most number = length (chain_of view number most)

-- the two tests of equal pages
pub same_page : (a b : ℕ) → is_eq (nat_cmp a b) ≡ nat_eq a b
same_page a b = grind (arith, nat_tests)

run_round : (view : ℕ → Option (List ℕ)) (most from at : ℕ) (trail : List ℕ) → IsTrail view from trail at → list_any (nat_eq at) trail ≡ true
    → most ≡ len_from view most at
run_round view most from at trail is there =
    sym (chain_round view from at most trail is (Contains-from_any (λ x y same. eqb-true x y same) at trail there))

trail_more : (view : ℕ → Option (List ℕ)) (from at : ℕ) (trail : List ℕ) (page : List ℕ) → IsTrail view from trail at → linked view at ≡ Some page
    → IsTrail view from (trail ++ at ∷ []) (link_of page)
trail_more view from at [] page is found = (is, page, found, refl)
trail_more view from at (number ∷ trail) page is found = (is.0, is.1, is.2, trail_more view (link_of is.1) at trail page is.3 found)

-- the last page of a trail
pub record IsLast (view : ℕ → Option (List ℕ)) (from last to : ℕ) (trail : List ℕ) : Type 0 where
  pub rest : IsTrail view from trail last
  pub page : List ℕ
  pub found : linked view last ≡ Some page
  pub leads : to ≡ link_of page

pub trail_last : (view : ℕ → Option (List ℕ)) (from last to : ℕ) (trail : List ℕ) → IsTrail view from (trail ++ last ∷ []) to → IsLast view from last to trail
trail_last view from last to [] is = record { rest = is.0; page = is.1; found = is.2; leads = is.3 }
trail_last view from last to (number ∷ trail) is =
    let before = trail_last view (link_of is.1) last to trail is.3 in
    record { rest = (is.0, is.1, is.2, before.rest); page = before.page; found = before.found; leads = before.leads }

-- what is known on the way out
pub record IsGoing (view : ℕ → Option (List ℕ)) (most link at : ℕ) (trail : List ℕ) (marks : ℕ → Option ℕ) : Type 0 where
  pub is_trail : IsTrail view link trail at
  pub half : IsHalf view most trail marks
  pub there : (q : ℕ) → list_any (nat_eq q) trail ≡ true → is_some (marks q) ≡ true
  pub apart : IsDistinct nat_eq trail
  pub held : (q : ℕ) → list_any (nat_eq q) trail ≡ true → is_some (view q) ≡ true

no_numbers : IsDistinct nat_eq []
unfolding IsDistinct
no_numbers = tt

pub going_start : (view : ℕ → Option (List ℕ)) (most link : ℕ) (trail : List ℕ) (marks : ℕ → Option ℕ) → trail ≡ [] → IsKnown view most marks
    → IsGoing view most link link trail marks
going_start view most link trail marks empty known =
    subst (λ t. IsGoing view most link link t marks) (sym empty) (record {
      is_trail = refl;
      half = λ q len is. inl (known q len is);
      there = λ q none. let clash : false ≡ true = none in cc;
      apart = no_numbers;
      held = λ q none. let clash : false ≡ true = none in cc;
    })

-- a page that the marks knows
pub going_stop : (view : ℕ → Option (List ℕ)) (most link at len : ℕ) (trail : List ℕ) (marks : ℕ → Option ℕ) → IsGoing view most link at trail marks
    → marks at ≡ Some len → len ≡ len_from view most at
going_stop view most link at len trail marks going is =
    elim (going.half at len is) [
      | inl known ↦ known
      | inr round ↦ round.1 ∙ run_round view most link at trail going.is_trail round.0
    ]

some_new : (found : Option ℕ) → found ≡ None → is_some found ≡ true → ⊥
some_new None none there = let clash : false ≡ true = there in cc
some_new (Some n) none there = let clash : Some n ≡ None = none in cc

new_case : (view : ℕ → Option (List ℕ)) (most link at : ℕ) (trail : List ℕ) (marks : ℕ → Option ℕ) (b : Bool) → IsGoing view most link at trail marks
    → marks at ≡ None → list_any (nat_eq at) trail ≡ b → b ≡ false
new_case view most link at trail marks true going none is = absurd (some_new (marks at) none (going.there at is))
new_case view most link at trail marks false going none is = refl

has_more : (trail : List ℕ) (at q : ℕ) → list_any (nat_eq q) (trail ++ at ∷ []) ≡ (list_any (nat_eq q) trail || nat_eq q at)
has_more trail at q = list_any-append (nat_eq q) trail (at ∷ []) ∙ ap (λ b. list_any (nat_eq q) trail || b) (or-false (nat_eq q at))

or_left : (a b : Bool) → a ≡ true → (a || b) ≡ true
or_left true b is = refl
or_left false b is = let clash : false ≡ true = is in cc

or_right : (a b : Bool) → b ≡ true → (a || b) ≡ true
or_right true b is = refl
or_right false b is = is

or_one : (a b : Bool) → (a || b) ≡ true → b ≡ false → a ≡ true
or_one true b is other = refl
or_one false b is other = let clash : true ≡ false = sym is ∙ other in cc

turned : (p q : ℕ) → nat_eq p q ≡ true → nat_eq q p ≡ true
turned p q is = eq-eqb q p (sym (eqb-true p q is))

half_case : (view : ℕ → Option (List ℕ)) (most at q len : ℕ) (trail : List ℕ) (old : Option ℕ) (b : Bool) → nat_eq at q ≡ b
    → cond b (Some most) old ≡ Some len
    → (old ≡ Some len → (len ≡ len_from view most q) ⊎ ((list_any (nat_eq q) trail ≡ true) × (len ≡ most)))
    → (len ≡ len_from view most q) ⊎ ((list_any (nat_eq q) (trail ++ at ∷ []) ≡ true) × (len ≡ most))
half_case view most at q len trail old true same is rest =
    let one : len ≡ most = cc in
    inr (has_more trail at q ∙ or_right (list_any (nat_eq q) trail) (nat_eq q at) (turned at q same), one)
half_case view most at q len trail old false apart is rest =
    elim (rest is) [
      | inl known ↦ inl known
      | inr round ↦ inr (has_more trail at q ∙ or_left (list_any (nat_eq q) trail) (nat_eq q at) round.0, round.1)
    ]

there_case : (at most q : ℕ) (trail : List ℕ) (old : Option ℕ) (b c : Bool) → nat_eq at q ≡ b → nat_eq q at ≡ c → (list_any (nat_eq q) trail || c) ≡ true
    → (list_any (nat_eq q) trail ≡ true → is_some old ≡ true) → is_some (cond b (Some most) old) ≡ true
there_case at most q trail old true c same back is rest = refl
there_case at most q trail old false true same back is rest = let clash : true ≡ false = sym (turned q at back) ∙ same in cc
there_case at most q trail old false false same back is rest = rest (or_one (list_any (nat_eq q) trail) false is refl)

held_case : (view : ℕ → Option (List ℕ)) (at q : ℕ) (trail : List ℕ) (c : Bool) → nat_eq q at ≡ c → (list_any (nat_eq q) trail || c) ≡ true
    → is_some (view at) ≡ true → (list_any (nat_eq q) trail ≡ true → is_some (view q) ≡ true) → is_some (view q) ≡ true
held_case view at q trail true same is here rest = ap (λ n. is_some (view n)) (eqb-true q at same) ∙ here
held_case view at q trail false same is here rest = rest (or_one (list_any (nat_eq q) trail) false is refl)

linked_case : (view : ℕ → Option (List ℕ)) (at : ℕ) (page : List ℕ) (b : Bool) → (cond b None (view at)) ≡ Some page → is_some (view at) ≡ true
linked_case view at page true found = let clash : None ≡ Some page = found in absurd cc
linked_case view at page false found = ap is_some found

linked_held : (view : ℕ → Option (List ℕ)) (at : ℕ) (page : List ℕ) → linked view at ≡ Some page → is_some (view at) ≡ true
linked_held view at page found = linked_case view at page (nat_eq at 0) found

-- a page more
pub going_more : (view : ℕ → Option (List ℕ)) (most link at next : ℕ) (trail new : List ℕ) (marks more : ℕ → Option ℕ) (page : List ℕ)
    → IsGoing view most link at trail marks → marks at ≡ None → linked view at ≡ Some page → new ≡ trail ++ at ∷ []
    → ((q : ℕ) → more q ≡ cond (nat_eq at q) (Some most) (marks q))
    → next ≡ link_of page → IsGoing view most link next new more
going_more view most link at next trail new marks more page going none found pushed put leads =
    subst (λ n. IsGoing view most link n new more) (sym leads) (subst (λ t. IsGoing view most link (link_of page) t more) (sym pushed) (record {
      is_trail = trail_more view link at trail page going.is_trail found;
      half = λ q len is. half_case view most at q len trail (marks q) (nat_eq at q) refl (sym (put q) ∙ is) (λ old. going.half q len old);
      there = λ q is. ap is_some (put q) ∙ there_case at most q trail (marks q) (nat_eq at q) (nat_eq q at) refl refl (sym (has_more trail at q) ∙ is) (going.there q);
      apart = IsDistinct-push nat_eq_equiv trail at going.apart (new_case view most link at trail marks (list_any (nat_eq at) trail) going none refl);
      held = λ q is. held_case view at q trail (nat_eq q at) refl (sym (has_more trail at q) ∙ is) (linked_held view at page found) (going.held q);
    }))

-- ---- back

back_case : (view : ℕ → Option (List ℕ)) (most at q len here : ℕ) (trail : List ℕ) (old : Option ℕ) (b : Bool) → nat_eq at q ≡ b
    → cond b (Some here) old ≡ Some len → here ≡ len_from view most at
    → (old ≡ Some len → (len ≡ len_from view most q) ⊎ ((list_any (nat_eq q) (trail ++ at ∷ []) ≡ true) × (len ≡ most)))
    → (len ≡ len_from view most q) ⊎ ((list_any (nat_eq q) trail ≡ true) × (len ≡ most))
back_case view most at q len here trail old true same is right rest =
    let one : len ≡ here = cc in
    inl (one ∙ right ∙ ap (len_from view most) (eqb-true at q same))
back_case view most at q len here trail old false apart is right rest =
    elim (rest is) [
      | inl known ↦ inl known
      | inr round ↦ inr (or_one (list_any (nat_eq q) trail) (nat_eq q at) (sym (has_more trail at q) ∙ round.0) (other (nat_eq q at) refl), round.1)
    ]
  where
    other : (c : Bool) → nat_eq q at ≡ c → c ≡ false
    other true back = let clash : true ≡ false = sym (turned q at back) ∙ apart in cc
    other false back = refl

-- a page got its length
pub back_half : (view : ℕ → Option (List ℕ)) (most at here : ℕ) (trail all : List ℕ) (marks more : ℕ → Option ℕ) → all ≡ trail ++ at ∷ [] → IsHalf view most all marks
    → here ≡ len_from view most at → ((q : ℕ) → more q ≡ cond (nat_eq at q) (Some here) (marks q))
    → IsHalf view most trail more
back_half view most at here trail all marks more popped half right put q len is =
    back_case view most at q len here trail (marks q) (nat_eq at q) refl (sym (put q) ∙ is) right
    (λ old. subst (λ t. IsHalf view most t marks) popped half q len old)

-- the length from the page before
pub back_len : (view : ℕ → Option (List ℕ)) (most link last to len more : ℕ) (trail : List ℕ) → IsTrail view link (trail ++ last ∷ []) to → len ≡ len_from view most to
    → more ≡ min (len + 1) most → more ≡ len_from view most last
back_len view most link last to len more trail is right one =
    let end = trail_last view link last to trail is in
    one ∙ ap (λ n. min (n + 1) most) (right ∙ ap (len_from view most) end.leads) ∙ sym (chain_next view last most end.page end.found)

pub back_end : (view : ℕ → Option (List ℕ)) (most : ℕ) (trail : List ℕ) (marks : ℕ → Option ℕ) → trail ≡ [] → IsHalf view most trail marks → IsKnown view most marks
back_end view most trail marks empty half q len is =
    elim (subst (λ t. IsHalf view most t marks) empty half q len is) [
      | inl known ↦ known
      | inr round ↦ let clash : false ≡ true = round.0 in absurd cc
    ]
