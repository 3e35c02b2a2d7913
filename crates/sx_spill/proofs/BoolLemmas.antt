-- Tests of two parts.
use Rattle.std.proofs.Common.{◌≡◌, ℕ, Bool, true, false, not, ◌&&◌, ◌||◌, nat_eq, refl, sym, ◌∙◌, eqb-true, eq-eqb}

pub and_left : (a b : Bool) → (a && b) ≡ true → a ≡ true
and_left true b is = refl
and_left false b is = is

pub and_right : (a b : Bool) → (a && b) ≡ true → b ≡ true
and_right true b is = is
and_right false b is = let clash : false ≡ true = is in cc

pub and_both : (a b : Bool) → a ≡ true → b ≡ true → (a && b) ≡ true
and_both true b one other = other
and_both false b one other = one

pub and_turned : (a b c : Bool) → (a && (b && c)) ≡ (b && (a && c))
and_turned true true c = refl
and_turned true false c = refl
and_turned false true c = refl
and_turned false false c = refl

pub and_none : (a b : Bool) → b ≡ false → (a && b) ≡ false
and_none true b is = is
and_none false b is = refl

pub not_true : (a : Bool) → not a ≡ true → a ≡ false
not_true true is = sym is
not_true false is = refl

pub not_false : (a : Bool) → a ≡ false → not a ≡ true
not_false true is = let clash : true ≡ false = is in cc
not_false false is = refl

pub is_false : (a : Bool) → (a ≡ true → ⊥) → a ≡ false
is_false true none = absurd (none refl)
is_false false none = refl

pub no_both : (a : Bool) → a ≡ true → a ≡ false → ⊥
no_both a is other = let clash : true ≡ false = sym is ∙ other in cc

pub or_left : (a b : Bool) → a ≡ true → (a || b) ≡ true
or_left true b is = refl
or_left false b is = let clash : false ≡ true = is in cc

pub or_right : (a b : Bool) → b ≡ true → (a || b) ≡ true
or_right true b is = refl
or_right false b is = is

pub or_one : (a b : Bool) → (a || b) ≡ true → a ≡ false → b ≡ true
or_one true b is other = let clash : true ≡ false = other in cc
or_one false b is other = is

pub or_first : (a b : Bool) → (a || b) ≡ false → a ≡ false
or_first true b is = is
or_first false b is = refl

pub or_second : (a b : Bool) → (a || b) ≡ false → b ≡ false
or_second true b is = let clash : true ≡ false = is in cc
or_second false b is = is

pub or_none : (a b : Bool) → a ≡ false → b ≡ false → (a || b) ≡ false
or_none true b one other = one
or_none false b one other = other

pub same_true : (a b : ℕ) → a ≡ b → nat_eq a b ≡ true
same_true a b is = eq-eqb a b is

pub true_same : (a b : ℕ) → nat_eq a b ≡ true → a ≡ b
true_same a b is = eqb-true a b is

pub turned : (a b : ℕ) → nat_eq a b ≡ nat_eq b a
turned a b = turned_case a b (nat_eq a b) refl (nat_eq b a) refl
  where
    turned_case : (a b : ℕ) (x : Bool) → nat_eq a b ≡ x → (y : Bool) → nat_eq b a ≡ y → nat_eq a b ≡ nat_eq b a
    turned_case a b true one true other = one ∙ sym other
    turned_case a b true one false other = absurd (no_both (nat_eq b a) (eq-eqb b a (sym (eqb-true a b one))) other)
    turned_case a b false one true other = absurd (no_both (nat_eq a b) (eq-eqb a b (sym (eqb-true b a other))) one)
    turned_case a b false one false other = one ∙ sym other
