-- One number more of a range, and one byte more of a sum.
use Rattle.std.proofs.Common.{◌≡◌, ℕ, zero, suc, ◌+◌, [], ◌∷◌, ◌++◌, sum_by, refl, ap, ◌∙◌, arith, add-zero, zero-add, one-add, add-one}
use Rattle.std.specs.List.{range_with_len}
use Rattle.std.proofs.lemmas.List.Sums.{sum_by-append}

range_next : (first n : ℕ) → range_with_len first (suc n) ≡ range_with_len first n ++ (first + n) ∷ []
range_next first zero = rw add-zero refl
range_next first (suc n) =
    let moved : first + 1 + n ≡ first + suc n = omega arith in
    rw (← moved) (ap (λ rest. first ∷ rest) (range_next (first + 1) n))

pub range_more : (first n : ℕ) → range_with_len first (n + 1) ≡ range_with_len first n ++ (first + n) ∷ []
range_more first n = rw add-one (range_next first n)

pub sample_more : (f : ℕ → ℕ) (n : ℕ) → sum_by f (range_with_len 1 (n + 1)) ≡ sum_by f (range_with_len 1 n) + f (n + 1)
sample_more f n =
    let next : 0 + f (1 + n) ≡ f (n + 1) = rw (zero-add, one-add, add-one) refl in
    ap (sum_by f) (range_more 1 n) ∙ sum_by-append f (range_with_len 1 n) ((1 + n) ∷ []) ∙ ap (λ last. sum_by f (range_with_len 1 n) + last) next
