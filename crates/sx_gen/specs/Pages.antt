-- The pages of a drill's database ("Database File Format"): a page with the file's header and one schema row, an
-- interior page of the table's tree, and its leaves of 20 rows. Pages have 4096 bytes. Cells fill a page from its end,
-- so that the last one stands first. Leaves and rows are numbered from 0, rows through all leaves.
use Rattle.std.specs.Prelude.{ℕ, ◌+◌, ◌-◌, ◌*◌, ◌/◌, ◌%◌, List, [], ◌∷◌, ◌++◌, take, drop, replicate, codes}
use Rattle.std.specs.Int.{w16, w32, to_be_bytes}
use Rattle.std.specs.List.{flat_map, range_with_len}
use Rattle.sx_gen.specs.Draws.{letters_of_row}

-- the bytes of words, one after the other
abbrev pub words_bytes : List ℕ → List ℕ
words_bytes words = flat_map (to_be_bytes w32) words

-- how many rows a leaf has at first
abbrev pub rows_of_leaf : ℕ
rows_of_leaf = 20

-- the first 8 bytes of a b-tree page without freeblocks: its kind, the count of its cells, where the first one begins
abbrev pub page_head : ℕ → ℕ → ℕ → List ℕ
page_head kind count content = kind ∷ 0 ∷ 0 ∷ (to_be_bytes w16 count ++ (to_be_bytes w16 content ++ 0 ∷ []))

-- the pointers to so many cells of one size, from the page's end on
unfoldable pub pointers : ℕ → ℕ → List ℕ
pointers size count = flat_map (λ i. to_be_bytes w16 (4096 - size * (i + 1))) (range_with_len 0 count)

-- a number from 128 to 16383 as a varint
abbrev pub varint_of_two : ℕ → List ℕ
varint_of_two number = (128 + number / 128) ∷ (number % 128) ∷ []

-- the rowid of a row
abbrev pub rowid_of : ℕ → ℕ
rowid_of row = 1000 + row

-- the letters of a row
abbrev pub row_letters : List ℕ → ℕ → List ℕ
row_letters letters row = take letters_of_row (drop (letters_of_row * row) letters)

-- a row's cell, 19 bytes: a payload of 16, its rowid, a record of NULL, an integer of 4 bytes and a text of 8
unfoldable pub row_cell : List ℕ → ℕ → List ℕ
row_cell letters row = (16 ∷ varint_of_two (rowid_of row)) ++ ((4 ∷ 0 ∷ 4 ∷ 29 ∷ []) ++ row_letters letters row)

-- the cells of a leaf's rows, the last row first
unfoldable pub leaf_cells : List ℕ → ℕ → List ℕ
leaf_cells letters leaf = flat_map (λ k. row_cell letters (rows_of_leaf * leaf + (19 - k))) (range_with_len 0 rows_of_leaf)

-- a leaf whose first rows are left, so many of them; the bytes of the others stay
unfoldable pub leaf_page : List ℕ → ℕ → ℕ → List ℕ
leaf_page letters leaf count =
    page_head 13 count (4096 - 19 * count)
    ++ (pointers 19 count ++ (replicate (3708 - 2 * count) 0 ++ leaf_cells letters leaf))

-- the interior page's cell for a leaf: its page number and its greatest rowid
unfoldable pub inner_cell : ℕ → List ℕ
inner_cell leaf = to_be_bytes w32 (3 + leaf) ++ varint_of_two (rowid_of (rows_of_leaf * leaf + 19))

-- the interior page's cells for so many leaves, the last one first
unfoldable pub inner_cells : ℕ → List ℕ
inner_cells count = flat_map (λ k. inner_cell (count - 1 - k)) (range_with_len 0 count)

-- the interior page: a cell for each leaf but the last, which is the right-most child
unfoldable pub inner_page : ℕ → List ℕ
inner_page leaves =
    page_head 5 (leaves - 1) (4096 - 6 * (leaves - 1))
    ++ (words_bytes ((2 + leaves) ∷ [])
    ++ (pointers 6 (leaves - 1)
    ++ (replicate (4084 - 8 * (leaves - 1)) 0 ++ inner_cells (leaves - 1))))

-- the words of the file's header from byte 24 on: change counter, pages, freelist, schema cookie, schema format 4,
-- encoding UTF-8, and the change counter again
abbrev pub header_words : ℕ → List ℕ
header_words pages =
    2 ∷ pages ∷ 0 ∷ 0 ∷ 1 ∷ 4 ∷ 0 ∷ 0 ∷ 1 ∷ 0 ∷ 0 ∷ 0 ∷ 0 ∷ 0 ∷ 0 ∷ 0 ∷ 0 ∷ 2 ∷ 0 ∷ []

-- the first 24 bytes of the file's header: the format's name, pages of 4096 bytes, no reserved bytes
unfoldable pub header_start : List ℕ
header_start = codes "SQLite format 3" ++ 0 ∷ 16 ∷ 0 ∷ 1 ∷ 1 ∷ 0 ∷ 64 ∷ 32 ∷ 32 ∷ []

-- the file's header, 100 bytes
unfoldable pub file_header : ℕ → List ℕ
file_header pages = header_start ++ words_bytes (header_words pages)

-- the cell of the schema's one row: a table t on page 2
unfoldable pub schema_cell : List ℕ
schema_cell =
    64 ∷ 1 ∷ 6 ∷ 23 ∷ 15 ∷ 15 ∷ 1 ∷ 113
    ∷ (codes "tablett" ++ 2 ∷ codes "CREATE TABLE t(a INTEGER PRIMARY KEY,b INT,c TEXT)")

-- page 1
unfoldable pub first_page : ℕ → List ℕ
first_page pages =
    file_header pages ++ (page_head 13 1 4030 ++ (to_be_bytes w16 4030 ++ (replicate 3920 0 ++ schema_cell)))

-- all leaves with all their rows
unfoldable pub leaf_pages : List ℕ → ℕ → List ℕ
leaf_pages letters leaves = flat_map (λ leaf. leaf_page letters leaf rows_of_leaf) (range_with_len 0 leaves)

-- the database
unfoldable pub database_bytes : List ℕ → ℕ → List ℕ
database_bytes letters leaves = first_page (2 + leaves) ++ (inner_page leaves ++ leaf_pages letters leaves)
