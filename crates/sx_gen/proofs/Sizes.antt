-- The lengths of a drill's two files.
use Rattle.std.proofs.Common.{◌≡◌, ℕ, ◌+◌, ◌-◌, ◌*◌, ◌≤◌, List, ◌++◌, length, replicate, refl, arith, length-append}
use Rattle.std.specs.Int.{w16, to_be_bytes}
use Rattle.std.proofs.lemmas.List.{length-replicate}
use Rattle.sx_gen.specs.Draws.{letters}
use Rattle.sx_gen.specs.Pages.{page_head, pointers, file_header, header_start, schema_cell, first_page, inner_cell, inner_cells, inner_page, leaf_page, leaf_pages, rows_of_leaf, database_bytes}
use Rattle.sx_gen.proofs.Lengths.{flat_len, pointers_len, three_len, leaf_page_len}

-- the file's header and the schema's cell
header_len : (pages : ℕ) → length (file_header pages) ≡ 100
unfolding file_header header_start
header_len pages = refl

schema_len : length schema_cell ≡ 66
unfolding schema_cell
schema_len = refl

-- the pages above the leaves
first_len : (pages : ℕ) → length (first_page pages) ≡ 4096
unfolding first_page
first_len pages =
    let back = three_len (to_be_bytes w16 4030) (replicate {A = ℕ} 3920 0) schema_cell 2 3920 66 refl (length-replicate {A = ℕ} 3920 0) schema_len in
    let whole = length-append (file_header pages) (page_head 13 1 4030 ++ (to_be_bytes w16 4030 ++ (replicate 3920 0 ++ schema_cell))) in
    omega (arith, back, whole, header_len pages)

inner_cells_len : (count : ℕ) → length (inner_cells count) ≡ count * 6
unfolding inner_cells inner_cell
inner_cells_len count = flat_len (λ k. inner_cell (count - 1 - k)) 6 0 count (λ k below. refl)

inner_len : (leaves : ℕ) → leaves ≤ 400 → length (inner_page leaves) ≡ 4096
unfolding inner_page
inner_len leaves few =
    let cells = leaves - 1 in
    let back =
    three_len (pointers 6 cells) (replicate {A = ℕ} (4084 - 8 * cells) 0) (inner_cells cells) (cells * 2) (4084 - 8 * cells) (cells * 6)
    (pointers_len 6 cells) (length-replicate {A = ℕ} (4084 - 8 * cells) 0) (inner_cells_len cells) in
    omega (arith, back)

leaves_len : (letters : List ℕ) (leaves : ℕ) → length letters ≡ 240 * leaves → length (leaf_pages letters leaves) ≡ leaves * 4096
unfolding leaf_pages
leaves_len letters leaves whole =
    flat_len (λ leaf. leaf_page letters leaf rows_of_leaf) 4096 0 leaves
    (λ leaf below. leaf_page_len letters leaf 20 (omega arith) (omega arith))

-- the database has its pages
pub database_len : (letters : List ℕ) (leaves : ℕ) → leaves ≤ 400 → length letters ≡ 240 * leaves → length (database_bytes letters leaves) ≡ 4096 * (2 + leaves)
unfolding database_bytes
database_len letters leaves few whole =
    let all = three_len (first_page (2 + leaves)) (inner_page leaves) (leaf_pages letters leaves) 4096 4096 (leaves * 4096) (first_len (2 + leaves)) (inner_len leaves few) (leaves_len letters leaves whole) in
    omega (arith, all)
