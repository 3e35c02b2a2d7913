-- How many distinct pages follow one another, page by page.
use Rattle.std.proofs.Common.{◌≡◌, ℕ, zero, suc, ◌+◌, ◌<◌, ◌≤◌, ◌==◌, Bool, true, false, not, ◌&&◌, ◌||◌, List, [], ◌∷◌, Option, Some, None, is_some, length, nat_eq, refl, sym, ap, subst, ◌∙◌, arith, eqb-true}
use Rattle.std.specs.List.{list_any}
use Rattle.std.specs.Option.{option_map_or}
use Rattle.std.proofs.lemmas.Bool.Decides.{nat_tests}
use Rattle.sx_spill.specs.Chains.{link_of, trail_of, are_distinct, has_chain}
use Rattle.sx_spill.specs.Marks.{Reaches}
use Rattle.sx_spill.proofs.BoolLemmas.{and_left, and_right, and_both, and_turned, and_none, not_true, not_false, is_false, no_both, or_left, or_right, or_one, true_same}
use Rattle.sx_spill.proofs.ListLemmas.{has}

-- ---- so many pages of a chain

pub trail_none : (view : ℕ → Option (List ℕ)) (number n : ℕ) → view number ≡ None → trail_of view number n ≡ []
unfolding trail_of
trail_none view number zero none = refl
trail_none view number (suc n) none = ap (λ found. option_map_or (λ page. number ∷ trail_of view (link_of page) n) found []) none

pub trail_some : (view : ℕ → Option (List ℕ)) (number n : ℕ) (page : List ℕ) → view number ≡ Some page → trail_of view number (suc n) ≡ number ∷ trail_of view (link_of page) n
unfolding trail_of
trail_some view number n page found = ap (λ found. option_map_or (λ page. number ∷ trail_of view (link_of page) n) found []) found

pub trail_zero : (view : ℕ → Option (List ℕ)) (number : ℕ) → trail_of view number 0 ≡ []
unfolding trail_of
trail_zero view number = refl

-- ---- whether so many distinct ones follow

pub chain_zero : (view : ℕ → Option (List ℕ)) (number : ℕ) → has_chain view number 0 ≡ true
unfolding has_chain trail_of are_distinct
chain_zero view number = refl

same_suc : (a b : ℕ) → (suc a == suc b) ≡ (a == b)
same_suc a b = grind (arith, nat_tests)

none_some : (n : ℕ) → (0 == suc n) ≡ false
none_some n = grind (arith, nat_tests)

pub chain_none : (view : ℕ → Option (List ℕ)) (number n : ℕ) → view number ≡ None → has_chain view number (suc n) ≡ false
unfolding has_chain
chain_none view number n none =
    ap (λ t. (length t == suc n) && are_distinct t) (trail_none view number (suc n) none) ∙ ap (λ b. b && are_distinct []) (none_some n)

chain_case : (number n : ℕ) (trail : List ℕ) → ((length (number ∷ trail) == suc n) && are_distinct (number ∷ trail)) ≡ (not (has trail number) && ((length trail == n) && are_distinct trail))
unfolding are_distinct
chain_case number n trail =
    ap (λ b. b && (not (has trail number) && are_distinct trail)) (same_suc (length trail) n) ∙ and_turned (length trail == n) (not (has trail number)) (are_distinct trail)

pub chain_some : (view : ℕ → Option (List ℕ)) (number n : ℕ) (page : List ℕ) → view number ≡ Some page
    → has_chain view number (suc n) ≡ (not (has (trail_of view (link_of page) n) number) && has_chain view (link_of page) n)
unfolding has_chain
chain_some view number n page found =
    ap (λ t. (length t == suc n) && are_distinct t) (trail_some view number n page found) ∙ chain_case number n (trail_of view (link_of page) n)

-- a view, if there is one
pub data IsSeen (view : ℕ → Option (List ℕ)) (number : ℕ) : Type 0 where
  absent : (none : view number ≡ None) → IsSeen view number
  present : (page : List ℕ) → (found : view number ≡ Some page) → IsSeen view number

pub look : (view : ℕ → Option (List ℕ)) (number : ℕ) → IsSeen view number
look view number = look_case (view number) refl
  where
    look_case : (found : Option (List ℕ)) → view number ≡ found → IsSeen view number
    look_case None is = absent is
    look_case (Some page) is = present page is

-- a number of a shorter trail is one of a longer one
pub trail_longer : (view : ℕ → Option (List ℕ)) (number m n q : ℕ) → m ≤ n → has (trail_of view number m) q ≡ true → has (trail_of view number n) q ≡ true
trail_longer view number zero n q within is =
    let clash : false ≡ true = ap (λ t. has t q) (sym (trail_zero view number)) ∙ is in absurd cc
trail_longer view number (suc m) zero q within is = absurd (omega arith)
trail_longer view number (suc m) (suc n) q within is =
    elim (look view number) [
      | absent none ↦ let clash : false ≡ true = ap (λ t. has t q) (sym (trail_none view number (suc m) none)) ∙ is in absurd cc
      | present page found ↦
          ap (λ t. has t q) (trail_some view number n page found)
          ∙ longer_case (link_of page) (nat_eq q number) refl (ap (λ t. has t q) (sym (trail_some view number m page found)) ∙ is)
          (trail_longer view (link_of page) m n q (omega arith))
    ]
  where
    longer_case : (next : ℕ) (b : Bool) → nat_eq q number ≡ b → (nat_eq q number || has (trail_of view next m) q) ≡ true
        → (has (trail_of view next m) q ≡ true → has (trail_of view next n) q ≡ true) → (nat_eq q number || has (trail_of view next n) q) ≡ true
    longer_case next true same there rest = or_left (nat_eq q number) (has (trail_of view next n) q) same
    longer_case next false other there rest =
        or_right (nat_eq q number) (has (trail_of view next n) q) (rest (or_one (nat_eq q number) (has (trail_of view next m) q) there other))

-- where so many follow, so do fewer
pub chain_fewer : (view : ℕ → Option (List ℕ)) (number m n : ℕ) → m ≤ n → has_chain view number n ≡ true → has_chain view number m ≡ true
chain_fewer view number zero n within is = chain_zero view number
chain_fewer view number (suc m) zero within is = absurd (omega arith)
chain_fewer view number (suc m) (suc n) within is =
    elim (look view number) [
      | absent none ↦ absurd (no_both (has_chain view number (suc n)) is (chain_none view number n none))
      | present page found ↦
          let both = sym (chain_some view number n page found) ∙ is in
          let next = link_of page in
          chain_some view number m page found
          ∙ and_both (not (has (trail_of view next m) number)) (has_chain view next m)
          (not_false (has (trail_of view next m) number) (is_false (has (trail_of view next m) number)
          (λ (there : has (trail_of view next m) number ≡ true).
          no_both (has (trail_of view next n) number) (trail_longer view next m n number (omega arith) there)
          (not_true (has (trail_of view next n) number) (and_left (not (has (trail_of view next n) number)) (has_chain view next n) both)))))
          (chain_fewer view next m n (omega arith) (and_right (not (has (trail_of view next n) number)) (has_chain view next n) both))
    ]

-- the pages of a trail are there
pub trail_seen : (view : ℕ → Option (List ℕ)) (number n q : ℕ) → has (trail_of view number n) q ≡ true → is_some (view q) ≡ true
trail_seen view number zero q is = let clash : false ≡ true = ap (λ t. has t q) (sym (trail_zero view number)) ∙ is in absurd cc
trail_seen view number (suc n) q is =
    elim (look view number) [
      | absent none ↦ let clash : false ≡ true = ap (λ t. has t q) (sym (trail_none view number (suc n) none)) ∙ is in absurd cc
      | present page found ↦ seen_case page found (nat_eq q number) refl (ap (λ t. has t q) (sym (trail_some view number n page found)) ∙ is) (trail_seen view (link_of page) n q)
    ]
  where
    seen_case : (page : List ℕ) → view number ≡ Some page → (b : Bool) → nat_eq q number ≡ b → (nat_eq q number || has (trail_of view (link_of page) n) q) ≡ true
        → (has (trail_of view (link_of page) n) q ≡ true → is_some (view q) ≡ true) → is_some (view q) ≡ true
    seen_case page found true same there rest = ap (λ k. is_some (view k)) (true_same q number same) ∙ ap is_some found
    seen_case page found false other there rest = rest (or_one (nat_eq q number) (has (trail_of view (link_of page) n) q) there other)

-- as long as it is
pub chain_long : (view : ℕ → Option (List ℕ)) (number n : ℕ) → has_chain view number n ≡ true → length (trail_of view number n) ≡ n
unfolding has_chain
chain_long view number n is = eqb-true (length (trail_of view number n)) n (and_left (length (trail_of view number n) == n) (are_distinct (trail_of view number n)) is)

pub chain_apart : (view : ℕ → Option (List ℕ)) (number n : ℕ) → has_chain view number n ≡ true → are_distinct (trail_of view number n) ≡ true
unfolding has_chain
chain_apart view number n is = and_right (length (trail_of view number n) == n) (are_distinct (trail_of view number n)) is

-- no more follow than there are
abbrev pub AreFew : (ℕ → Option (List ℕ)) → ℕ → Type 0
AreFew view most = (numbers : List ℕ) → are_distinct numbers ≡ true → ((q : ℕ) → list_any (nat_eq q) numbers ≡ true → is_some (view q) ≡ true) → length numbers ≤ most

pub chain_few : (view : ℕ → Option (List ℕ)) (number n most : ℕ) → AreFew view most → has_chain view number n ≡ true → n ≤ most
chain_few view number n most few is =
    subst (λ k. k ≤ most) (chain_long view number n is) (few (trail_of view number n) (chain_apart view number n is) (λ q. trail_seen view number n q))

-- ---- how many follow and no more

pub reach_none : (view : ℕ → Option (List ℕ)) (number : ℕ) → view number ≡ None → Reaches view number 0
reach_none view number none = record { whole = chain_zero view number; end = chain_none view number 0 none }

pub reach_some : (view : ℕ → Option (List ℕ)) (number len : ℕ) (page : List ℕ) → view number ≡ Some page → Reaches view (link_of page) len
    → has (trail_of view (link_of page) len) number ≡ false → Reaches view number (len + 1)
reach_some view number len page found next new =
    let more : len + 1 ≡ suc len = omega arith in
    let past : len + 1 + 1 ≡ suc (len + 1) = omega arith in
    record {
      whole = ap (has_chain view number) more ∙ chain_some view number len page found
          ∙ and_both (not (has (trail_of view (link_of page) len) number)) (has_chain view (link_of page) len) (not_false (has (trail_of view (link_of page) len) number) new) next.whole;
      end = ap (has_chain view number) past ∙ chain_some view number (len + 1) page found
          ∙ and_none (not (has (trail_of view (link_of page) (len + 1)) number)) (has_chain view (link_of page) (len + 1)) next.end;
    }

pub by_reach : (view : ℕ → Option (List ℕ)) (number need len : ℕ) → Reaches view number len → need ≤ len → has_chain view number need ≡ true
by_reach view number need len reaches within = chain_fewer view number need len within reaches.whole

pub past_reach : (view : ℕ → Option (List ℕ)) (number need len : ℕ) → Reaches view number len → len < need → has_chain view number need ≡ false
past_reach view number need len reaches past =
    is_false (has_chain view number need)
    (λ (is : has_chain view number need ≡ true). no_both (has_chain view number (len + 1)) (chain_fewer view number (len + 1) need (omega arith) is) reaches.end)

pub past_most : (view : ℕ → Option (List ℕ)) (number need most : ℕ) → AreFew view most → most < need → has_chain view number need ≡ false
past_most view number need most few past =
    is_false (has_chain view number need) (λ (is : has_chain view number need ≡ true). let within = chain_few view number need most few is in absurd (omega (arith, within)))
