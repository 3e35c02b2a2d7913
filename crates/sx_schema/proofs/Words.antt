-- Whether a text is the word of a table.
use Rattle.std.proofs.Common.{◌≡◌, ◌↔◌, Bool, true, false, IsTrue, List, ℕ, Option, Some, None, bytes_eq, codes, refl, sym, ap, ◌∙◌}
use Rattle.std.proofs.lemmas.Slice.Eq.{bytes_eq-Decides}
use Rattle.sx_schema.specs.Entries.{says_table}

some_same : (a b : List ℕ) → Some a ≡ Some b → a ≡ b
some_same a b is = cc

case : (word other : List ℕ) (result b : Bool) → bytes_eq word other ≡ b → (IsTrue result ↔ (Some word ≡ Some other)) → result ≡ b
case word other true true same is = refl
case word other true false same is =
    let clash : true ≡ false = sym ((bytes_eq-Decides word other).1 (some_same word other (is.0 refl))) ∙ same in cc
case word other false true same is =
    let clash : false ≡ true = is.1 (ap Some ((bytes_eq-Decides word other).0 same)) in cc
case word other false false same is = refl

none_case : (other : List ℕ) (result : Bool) → (IsTrue result ↔ (None ≡ Some other)) → result ≡ false
none_case other true is = let clash : None ≡ Some other = is.0 refl in absurd cc
none_case other false is = refl

-- it is the word exactly where it is spelled so
pub says_if : (result : Bool) (found : Option (List ℕ)) → (IsTrue result ↔ (found ≡ Some (codes "table"))) → result ≡ says_table found
says_if result None is = none_case (codes "table") result is
says_if result (Some word) is = case word (codes "table") result (bytes_eq word (codes "table")) refl is
