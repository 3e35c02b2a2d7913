-- One more number of a range.
use Rattle.std.proofs.Common.{◌≡◌, ℕ, zero, suc, ◌+◌, ◌&&◌, Bool, List, [], ◌∷◌, ◌++◌, ap, ◌∙◌, arith}
use Rattle.std.proofs.Math.Bool.{and-true}
use Rattle.std.specs.List.{list_all, range_with_len}
use Rattle.std.proofs.lemmas.List.Folds.{list_all-append}

-- the last number of a range comes after the others
range_push : (from n last : ℕ) → from + n ≡ last → range_with_len from (suc n) ≡ range_with_len from n ++ last ∷ []
range_push from zero last e = let same : from ≡ last = omega arith in ap (λ (k : ℕ). k ∷ []) same
range_push from (suc n) last e = ap (λ (rest : List ℕ). from ∷ rest) (range_push (from + 1) n last (omega arith))

-- the numbers below n + 1
pub range_more : (n : ℕ) → range_with_len 0 (n + 1) ≡ range_with_len 0 n ++ n ∷ []
range_more n = let next : n + 1 ≡ suc n = omega arith in ap (λ (k : ℕ). range_with_len 0 k) next ∙ range_push 0 n n (omega arith)

-- a test of all numbers below n + 1
pub all_more : (p : ℕ → Bool) (n : ℕ) → list_all p (range_with_len 0 (n + 1)) ≡ (list_all p (range_with_len 0 n) && p n)
all_more p n =
    ap (λ (xs : List ℕ). list_all p xs) (range_more n)
    ∙ list_all-append p (range_with_len 0 n) (n ∷ [])
    ∙ ap (λ (b : Bool). list_all p (range_with_len 0 n) && b) (and-true (p n))
