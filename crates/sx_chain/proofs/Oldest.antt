-- The oldest item of a number: the one that no item before it has.
use Rattle.std.proofs.Common.{◌≡◌, ℕ, zero, suc, ◌+◌, ◌<◌, Bool, true, false, cond, List, Option, Some, None, length, is_some, nat_eq, refl, sym, ap, ◌∙◌, arith, inl, inr, eq-or-lt_of_le, subst, slice_index}
use Rattle.std.proofs.lemmas.Bool.{eqb-true}
use Rattle.sx_base.specs.Places.{first_place, last_place}
use Rattle.sx_base.proofs.Places.{first_place-more, first_some, last_some, last_place_passes}
use Rattle.sx_chain.specs.Newest.{has_number}
use Rattle.sx_chain.specs.Heads.{place_below}
use Rattle.sx_chain.specs.Links.{IsFar}

none_of : (o : Option ℕ) → is_some o ≡ false → o ≡ None
none_of None is = refl
none_of (Some x) is = cc

-- where no place passes there is no first one
pub first_none : (test : ℕ → Bool) (n : ℕ) → last_place test n ≡ None → first_place test n ≡ None
first_none test n none = none_of (first_place test n) (first_some test n ∙ sym (last_some test n) ∙ ap is_some none)

one_more : (n : ℕ) → n + 1 ≡ suc n
one_more n = omega arith

-- a place that passes and has none before it is the first
pub first_is : (test : ℕ → Bool) (n place : ℕ) → place < n → test place ≡ true → last_place test place ≡ None → first_place test n ≡ Some place
first_is test zero place below passes none = absurd (omega arith)
first_is test (suc n) place below passes none =
    subst (λ m. first_place test m ≡ Some place) (one_more n)
    (first_place-more test n ∙
    elim (eq-or-lt_of_le below) [
      | inl top ↦
          let same : place ≡ n = omega arith in
          let here : test n ≡ true = ap test (sym same) ∙ passes in
          let before : first_place test n ≡ None = first_none test n (ap (last_place test) (sym same) ∙ none) in
          rw (before, here) (ap Some (sym same))
      | inr less ↦
          let rest = first_is test n place (omega arith) passes none in
          rw rest refl
    ])

-- the newest of a number stands in the list, and is an item of it
pub newest_there : (numbers : List ℕ) (number place : ℕ) (newest : Option ℕ) → newest ≡ last_place (has_number numbers number) (length numbers) → newest ≡ Some place
    → (place < length numbers) × (slice_index numbers place ≡ number)
newest_there numbers number place newest is found =
    let here = last_place_passes (has_number numbers number) (length numbers) place (sym is ∙ found) in
    (here.0, eqb-true _ _ here.1)

back_case : (numbers : List ℕ) (number end place far further : ℕ) (first : Bool) → nat_eq end 0 ≡ first → IsFar numbers number (place_below end) place far
    → cond first None (Some far) ≡ Some further → (further < place) × (slice_index numbers further ≡ number)
back_case numbers number end place far further true is back found = cc
back_case numbers number end place far further false is back found =
    let same : far ≡ further = cc in
    let known = rw is at back in
    rw (← same) (known.0, known.1)

-- the far item stands before, and is one of the same number
pub further_back : (numbers : List ℕ) (number end place far further : ℕ) → IsFar numbers number (place_below end) place far
    → cond (nat_eq end 0) None (Some far) ≡ Some further → (further < place) × (slice_index numbers further ≡ number)
further_back numbers number end place far further back found = back_case numbers number end place far further (nat_eq end 0) refl back found

end_case : (end far : ℕ) (first : Bool) → nat_eq end 0 ≡ first → cond first None (Some far) ≡ None → place_below end ≡ None
end_case end far true is none = rw is refl
end_case end far false is none = cc

-- where there is none, no item stands before
pub nothing_before : (end far : ℕ) → cond (nat_eq end 0) None (Some far) ≡ None → place_below end ≡ None
nothing_before end far none = end_case end far (nat_eq end 0) refl none
