-- Pages that differ are no more than are held.
use Rattle.std.proofs.Common.{◌≡◌, inl, inr, ℕ, zero, suc, ◌+◌, ◌<◌, ◌≤◌, Bool, true, false, if◌then◌else◌, ◌||◌, List, Option, Some, None, length, is_some, nat_eq, refl, sym, ap, subst, ◌∙◌, arith, eqb-true, eq-eqb, eq-or-lt_of_le}
use Rattle.std.specs.List.{list_any, IsDistinct, range_with_len}
use Rattle.std.proofs.lemmas.Bool.{cases_lt}
use Rattle.std.proofs.lemmas.Cmp.{nat_eq_equiv}
use Rattle.std.proofs.lemmas.Map.Made.{length-le_from_is_member, is_member-filter}
use Rattle.sx_base.specs.Held.{held_pages}
use Rattle.sx_base.specs.declared.moment.Moment.{Moment}
use Rattle.sx_images.specs.Images.{Table}
use Rattle.sx_moment.specs.Gathered.{Gathered, size_at}
use Rattle.sx_moment.specs.Views.{source_of, view_of}
use Rattle.sx_spill.specs.Chains.{are_distinct}
use Rattle.sx_spill.specs.Unused.{is_unused, image_at, unused_at}
use Rattle.sx_spill.proofs.ListLemmas.{distinct_is}

range_has : (a n q : ℕ) → a ≤ q → q < a + n → list_any (nat_eq q) (range_with_len a n) ≡ true
range_has a zero q low high = absurd (omega arith)
range_has a (suc n) q low high =
    elim (eq-or-lt_of_le low) [
      | inl here ↦ first (nat_eq q a) (eq-eqb q a (sym here))
      | inr above ↦ later (nat_eq q a) (range_has (a + 1) n q (omega arith) (omega arith))
    ]
  where
    first : (b : Bool) → b ≡ true → (b || list_any (nat_eq q) (range_with_len (a + 1) n)) ≡ true
    first true is = refl
    first false is = let clash : false ≡ true = is in cc

    later : (b : Bool) → list_any (nat_eq q) (range_with_len (a + 1) n) ≡ true → (b || list_any (nat_eq q) (range_with_len (a + 1) n)) ≡ true
    later true is = refl
    later false is = is

no_view : (found : Option (List ℕ)) → found ≡ None → is_some found ≡ true → ⊥
no_view None none there = let clash : false ≡ true = there in cc
no_view (Some page) none there = let clash : Some page ≡ None = none in cc

held_listed : (size : ℕ) (view : ℕ → Option (List ℕ)) (q : ℕ) → ((number : ℕ) → size < number → view number ≡ None) → view 0 ≡ None
    → is_some (view q) ≡ true → list_any (nat_eq q) (held_pages size view) ≡ true
unfolding held_pages
held_listed size view zero within from_one there = absurd (no_view (view 0) from_one there)
held_listed size view (suc q) within from_one there =
    elim (cases_lt size (suc q)) [
      | inl past ↦ absurd (no_view (view (suc q)) (within (suc q) past) there)
      | inr below ↦
          let range = range_has 1 size (suc q) (omega arith) (omega arith) in
          is_member-filter nat_eq_equiv (λ number. is_some (view number)) (suc q) (λ x same. ap (λ number. is_some (view number)) (eqb-true (suc q) x same)) (range_with_len 1 size)
          ∙ rw (range, there) refl
    ]

held_numbers_few : (size : ℕ) (view : ℕ → Option (List ℕ)) (pages : List ℕ) → ((number : ℕ) → size < number → view number ≡ None) → view 0 ≡ None
    → IsDistinct nat_eq pages → ((q : ℕ) → list_any (nat_eq q) pages ≡ true → is_some (view q) ≡ true)
    → length pages ≤ length (held_pages size view)
held_numbers_few size view pages within from_one apart held =
    length-le_from_is_member nat_eq_equiv pages (held_pages size view) apart (λ q there. held_listed size view q within from_one (held q there))

unused_seen : (b : Bool) (found : Option (List ℕ)) → is_some (if b then found else None) ≡ true → is_some found ≡ true
unused_seen true found is = is
unused_seen false found is = let clash : false ≡ true = is in absurd cc

-- an unused page has a view
page_seen : (case : Gathered) (moment : Moment) (images : Table) (owned : ℕ → ℕ → Bool) (usable q : ℕ) → is_some (unused_at case moment images owned usable q) ≡ true
    → is_some (view_of case moment q) ≡ true
unfolding unused_at
page_seen case moment images owned usable q is = unused_seen (is_unused owned usable (image_at images (source_of case moment q))) (view_of case moment q) is

-- unused pages that differ are no more than are held
pub unused_few : (case : Gathered) (moment : Moment) (images : Table) (owned : ℕ → ℕ → Bool) (usable size most : ℕ) (numbers : List ℕ) → size ≡ size_at case moment
    → ((number : ℕ) → size < number → view_of case moment number ≡ None) → view_of case moment 0 ≡ None → most ≡ length (held_pages (size_at case moment) (view_of case moment))
    → are_distinct numbers ≡ true → ((q : ℕ) → list_any (nat_eq q) numbers ≡ true → is_some (unused_at case moment images owned usable q) ≡ true) → length numbers ≤ most
unused_few case moment images owned usable size most numbers sized within from_one held apart seen =
    subst (λ n. length numbers ≤ n) (sym held)
    (held_numbers_few (size_at case moment) (view_of case moment) numbers
    (subst (λ n. (number : ℕ) → n < number → view_of case moment number ≡ None) sized within) from_one
    (distinct_is numbers apart) (λ q there. page_seen case moment images owned usable q (seen q there)))
