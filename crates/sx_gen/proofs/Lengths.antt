-- The lengths of pages and frames.
use Rattle.std.proofs.Common.{◌≡◌, ℕ, zero, suc, ◌+◌, ◌-◌, ◌*◌, ◌<◌, ◌≤◌, List, ◌++◌, length, take, drop, replicate, refl, arith, length-append, length-take, length-drop}
use Rattle.std.specs.Int.{w16, to_be_bytes}
use Rattle.std.specs.List.{flat_map, range_with_len}
use Rattle.std.proofs.lemmas.List.{length-replicate}
use Rattle.sx_gen.specs.Pages.{pointers, row_cell, rows_of_leaf, leaf_cells, leaf_page}

-- pieces of one length
pub flat_len : (piece : ℕ → List ℕ) (len from n : ℕ) → ((i : ℕ) → i < from + n → length (piece i) ≡ len) → length (flat_map piece (range_with_len from n)) ≡ n * len
flat_len piece len from zero each = omega arith
flat_len piece len from (suc n) each =
    let first = each from (omega arith) in
    let rest = flat_len piece len (from + 1) n (λ i below. each i (omega arith)) in
    let joined = length-append (piece from) (flat_map piece (range_with_len (from + 1) n)) in
    let more : suc n * len ≡ len + n * len = grind arith in
    omega arith

-- a row's cell has 19 bytes
row_cell_len : (letters : List ℕ) (row : ℕ) → 12 * (row + 1) ≤ length letters → length (row_cell letters row) ≡ 19
unfolding row_cell
row_cell_len letters row there =
    let behind = length-drop (12 * row) letters in
    let own : length (take 12 (drop (12 * row) letters)) ≡ 12 = omega (arith, length-take 12 (drop (12 * row) letters)) in
    omega (arith, own)

cells_len : (letters : List ℕ) (leaf : ℕ) → 240 * (leaf + 1) ≤ length letters → length (leaf_cells letters leaf) ≡ 380
unfolding leaf_cells
cells_len letters leaf there =
    flat_len (λ k. row_cell letters (rows_of_leaf * leaf + (19 - k))) 19 0 20
    (λ k below. row_cell_len letters (20 * leaf + (19 - k)) (omega arith))

pub pointers_len : (size count : ℕ) → length (pointers size count) ≡ count * 2
unfolding pointers
pointers_len size count = flat_len (λ i. to_be_bytes w16 (4096 - size * (i + 1))) 2 0 count (λ i below. refl)

-- three pieces
pub three_len : (first second third : List ℕ) (a b c : ℕ) → length first ≡ a → length second ≡ b → length third ≡ c → length (first ++ (second ++ third)) ≡ a + (b + c)
three_len first second third a b c is_a is_b is_c =
    let back = length-append second third in
    let all = length-append first (second ++ third) in
    omega arith

-- a leaf has 4096 bytes
pub leaf_page_len : (letters : List ℕ) (leaf count : ℕ) → count ≤ 20 → 240 * (leaf + 1) ≤ length letters → length (leaf_page letters leaf count) ≡ 4096
unfolding leaf_page
leaf_page_len letters leaf count few there =
    let all =
    three_len (pointers 19 count) (replicate {A = ℕ} (3708 - 2 * count) 0) (leaf_cells letters leaf) (count * 2) (3708 - 2 * count) 380
    (pointers_len 19 count) (length-replicate {A = ℕ} (3708 - 2 * count) 0) (cells_len letters leaf there) in
    omega (arith, all)
