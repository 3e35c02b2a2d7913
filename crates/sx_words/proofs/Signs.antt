-- What stands behind a minus sign.
use Rattle.std.proofs.Common.{◌≡◌, ◌≢◌, ℕ, Bool, true, false, cond, List, [], ◌∷◌, ◌+◌, length, drop, Option, Some, None, Bor, refl, sym, ap, nat_eq, arith}
use Rattle.std.proofs.lemmas.Bool.Decides.{nat_tests}
use Rattle.std.specs.Prelude.{MatchOption}
use Rattle.std.specs.Option.{option_copied}
use Rattle.std.specs.Str.Pattern.{FindsCharPrefix}
use Rattle.std.proofs.lemmas.Str.Pattern.{strip_prefix_char}
use Rattle.std.proofs.Common.{lit<}
use Rattle.sx_words.specs.Words.{after_minus}

no_minus : (byte : ℕ) (digits : List ℕ) (b : Bool) → nat_eq byte 45 ≡ b → ((rest : List ℕ) → byte ∷ digits ≢ 45 ∷ rest) → None ≡ cond b (Some digits) None
no_minus byte digits true is never = let same : byte ≡ 45 = grind (arith, nat_tests, is) in absurd (never digits (ap (λ n. n ∷ digits) same))
no_minus byte digits false is never = refl

stripped : (text : List ℕ) (r : Option (Bor (List ℕ))) → MatchOption r ((rest : List ℕ) → text ≢ 45 ∷ rest) (λ x. text ≡ 45 ∷ x.now) → option_copied r ≡ after_minus text
stripped [] None never = refl
stripped (byte ∷ digits) None never = no_minus byte digits (nat_eq byte 45) refl never
stripped text (Some x) is = ap after_minus (sym is)

-- where a text begins with the sign, the rest stands behind it
pub minus_is : (text : List ℕ) (r : Option (Bor (List ℕ)))
    → MatchOption r (FindsCharPrefix 45 text None) (λ x. (n : ℕ) × FindsCharPrefix 45 text (Some n) × (x.now ≡ drop n text) × (length x.now + n ≡ length text))
    → option_copied r ≡ after_minus text
minus_is text r found = stripped text r (strip_prefix_char 45 text r found (lit< tt))
