-- What `parse` makes of the digits of a number.
use Rattle.std.proofs.Common.{◌≡◌, ℕ, ◌^◌, ◌<◌, ◌≤◌, Bool, true, false, ◌&&◌, List, [], ◌∷◌, length, None, Some, Result, Err, nat_le, if◌then◌else◌, arith, refl, ap, subst}
use Rattle.std.specs.List.{list_all}
use Rattle.std.proofs.lemmas.Bool.Decides.{nat_tests}
use Rattle.std.specs.Char.{is_ascii_digit}
use Rattle.std.specs.Str.{all_ascii_digits}
use Rattle.std.specs.Str.Parse.{ParsesUnsigned, digits_value}
use Rattle.std.proofs.lemmas.Str.Parse.{IsNumeralModel, numerals_by_value, tells_all_ascii_digits, parse_digits}
use Rattle.std.specs.Result.{OkIff}
use Rattle.sx_words.specs.Words.{is_number, number_of}

-- digits, byte by byte
pub digits_all : (text : List ℕ) → list_all is_ascii_digit text ≡ all_ascii_digits text
digits_all [] = refl
digits_all (byte ∷ text) = ap (λ b. is_ascii_digit byte && b) (digits_all text)

own : IsNumeralModel (λ ds. all_ascii_digits ds ≡ true) (digits_value 10)
own = numerals_by_value _ tells_all_ascii_digits

-- a number is made of digits, and isn't empty
digits_of_number : (text : List ℕ) → is_number text ≡ true → (all_ascii_digits text ≡ true) × (0 < length text)
digits_of_number [] is = cc
digits_of_number (byte ∷ text) is = (grind (arith, is), omega arith)

or_ge : (a b : ℕ) → (a < b → ⊥) → b ≤ a
or_ge a b never = omega arith

-- a number past the greatest isn't one
past_most : (fits : Bool) (number least most : ℕ) → most < number
    → None ≡ (if fits && nat_le least number && nat_le number most then Some number else None)
past_most false number least most past = refl
past_most true number least most past = grind (arith, nat_tests)

-- where none was read the number is too great
pub unread_is : {E : Type 0} (text : List ℕ) (r : Result ℕ E) (e : E) (least most : ℕ) → ParsesUnsigned 64 10 text r → r ≡ Err e → is_number text ≡ true → most < 2 ^ 64
    → None ≡ number_of least most text
unfolding number_of
unread_is text r e least most h is digits small =
    let given = parse_digits own 64 text r h (digits_of_number text digits).0 in
    let none : ¬ ((0 < length text) × (digits_value 10 text < 2 ^ 64)) =
    subst (λ (r : Result ℕ _). OkIff r ((0 < length text) × (digits_value 10 text < 2 ^ 64)) (digits_value 10 text)) is given in
    let there = (digits_of_number text digits).1 in
    let great : 2 ^ 64 ≤ digits_value 10 text = or_ge (digits_value 10 text) (2 ^ 64) (λ less. none (there, less)) in
    past_most (is_number text) (digits_value 10 text) least most (omega arith)
