-- Bytes that a loop puts piece by piece.
use Rattle.std.proofs.Common.{◌≡◌, ℕ, ◌+◌, ◌-◌, ◌*◌, ◌<◌, ◌≤◌, List, [], ◌∷◌, ◌++◌, append_assoc, append-nil, sym, ap, ◌∙◌, arith}
use Rattle.std.proofs.Math.Nat.{mul-le-mul_left}
use Rattle.std.specs.List.{flat_map, range_with_len}
use Rattle.std.proofs.lemmas.List.Concat.{flat_map-append}
use Rattle.sx_wal.proofs.Ranges.{range_more}

-- the pieces below n + 1
pub flat_more : (piece : ℕ → List ℕ) (n : ℕ) → flat_map piece (range_with_len 0 (n + 1)) ≡ flat_map piece (range_with_len 0 n) ++ piece n
flat_more piece n =
    ap (flat_map piece) (range_more n)
    ∙ flat_map-append piece (range_with_len 0 n) (n ∷ [])
    ∙ ap (λ last. flat_map piece (range_with_len 0 n) ++ last) (append-nil (piece n))

-- one piece more is put
pub piece_more : (piece : ℕ → List ℕ) (n : ℕ) (start was now : List ℕ) → was ≡ start ++ flat_map piece (range_with_len 0 n) → now ≡ was ++ piece n
    → now ≡ start ++ flat_map piece (range_with_len 0 (n + 1))
piece_more piece n start was now so_far put =
    put
    ∙ ap (λ front. front ++ piece n) so_far
    ∙ append_assoc start (flat_map piece (range_with_len 0 n)) (piece n)
    ∙ ap (λ pieces. start ++ pieces) (sym (flat_more piece n))

-- the place of one cell more
pub place_more : (size count i start : ℕ) → i < count → size * count ≤ 4096 → start + size * i ≡ 4096
    → (start - size + size * (i + 1) ≡ 4096) × (start - size ≡ 4096 - size * (i + 1))
place_more size count i start below fits place =
    let last : size * (i + 1) ≤ size * count = mul-le-mul_left size (omega arith) in
    let next : size * (i + 1) ≡ size * i + size = grind arith in
    (omega arith, omega arith)

-- a piece is put, and then what comes behind it
pub put_then : (start piece rest was now : List ℕ) → was ≡ start ++ piece → now ≡ was ++ rest → now ≡ start ++ (piece ++ rest)
put_then start piece rest was now first then = then ∙ ap (λ front. front ++ rest) first ∙ append_assoc start piece rest
