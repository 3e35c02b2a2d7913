-- A drill's write-ahead log ("WAL-mode File Format"): a frame for each commit, the newest state of the leaf that it
-- takes. Each commit drops the last row of its leaf, unless that is the only one. Commits and leaves are numbered from 0.
use Rattle.std.specs.Prelude.{ℕ, ◌+◌, ◌-◌, ◌%◌, ◌^◌, max, true, List, [], ◌∷◌, ◌++◌, length, take, slice_index, nat_eq}
use Rattle.std.specs.List.{flat_map, range_with_len, count_by}
use Rattle.sx_wal.specs.Checksum.{Sums, sums_of}
use Rattle.sx_gen.specs.Pages.{words_bytes, leaf_page, rows_of_leaf}

-- how many rows a leaf has left once these leaves were taken: one less for each time, and always one
unfoldable pub rows_left : List ℕ → ℕ → ℕ
rows_left taken leaf = max 1 (rows_of_leaf - count_by (nat_eq leaf) taken)

-- the first 24 bytes of the log's header: the magic of high bytes first, the version, the size of pages, the checkpoint
-- number 0 and the two salts
unfoldable pub log_start : ℕ → List ℕ
log_start seed = words_bytes (0x377f0683 ∷ 3007000 ∷ 4096 ∷ 0 ∷ 0x01020304 ∷ (seed % 2 ^ 32) ∷ [])

-- the page of commit k
unfoldable pub commit_page : List ℕ → List ℕ → ℕ → List ℕ
commit_page letters taken k =
    let leaf = slice_index taken k in leaf_page letters leaf (rows_left (take (k + 1) taken) leaf)

-- the first 8 bytes of the frame of commit k: the number of its page, and the size of the database in pages
abbrev pub frame_start : ℕ → List ℕ → ℕ → List ℕ
frame_start leaves taken k = words_bytes ((3 + slice_index taken k) ∷ (2 + leaves) ∷ [])

-- what the checksum covers of the frame of commit k
abbrev pub summed_bytes : List ℕ → ℕ → List ℕ → ℕ → List ℕ
summed_bytes letters leaves taken k = frame_start leaves taken k ++ commit_page letters taken k

-- the sums over the log's first 24 bytes and what they cover of the first n frames
unfoldable pub sums_through : ℕ → List ℕ → ℕ → List ℕ → ℕ → Sums
sums_through seed letters leaves taken n =
    sums_of true (0, 0) (log_start seed ++ flat_map (summed_bytes letters leaves taken) (range_with_len 0 n))

-- the words of a frame's header behind the first two: the salts and the sums through it
abbrev pub frame_rest : ℕ → Sums → List ℕ
frame_rest seed sums = words_bytes (0x01020304 ∷ (seed % 2 ^ 32) ∷ sums.0 ∷ sums.1 ∷ [])

-- the frame of commit k
unfoldable pub commit_frame : ℕ → List ℕ → ℕ → List ℕ → ℕ → List ℕ
commit_frame seed letters leaves taken k =
    frame_start leaves taken k
    ++ (frame_rest seed (sums_through seed letters leaves taken (k + 1)) ++ commit_page letters taken k)

-- the log's header: its first 24 bytes, and the sums over them
unfoldable pub log_head : ℕ → List ℕ
log_head seed =
    let sums = sums_of true (0, 0) (log_start seed) in log_start seed ++ words_bytes (sums.0 ∷ sums.1 ∷ [])

-- the log
unfoldable pub log_bytes : ℕ → List ℕ → ℕ → List ℕ → List ℕ
log_bytes seed letters leaves taken =
    log_head seed ++ flat_map (commit_frame seed letters leaves taken) (range_with_len 0 (length taken))
