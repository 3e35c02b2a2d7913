-- The sums through a frame, from those through the frame before it.
use Rattle.std.proofs.Common.{◌≡◌, ℕ, ◌+◌, ◌*◌, ◌%◌, ◌<◌, ◌≤◌, true, List, [], ◌∷◌, ◌++◌, length, take, slice_index, append_assoc, append-nil, refl, sym, ap, ◌∙◌, arith}
use Rattle.std.specs.List.{flat_map, range_with_len}
use Rattle.sx_wal.specs.Checksum.{Sums, sums_of}
use Rattle.sx_wal.proofs.ChecksumLemmas.{sums-append}
use Rattle.sx_gen.specs.Pages.{words_bytes}
use Rattle.sx_gen.specs.Log.{rows_left, log_start, log_head, log_bytes, commit_page, frame_start, frame_rest, summed_bytes, sums_through, commit_frame}
use Rattle.sx_gen.proofs.Lists.{flat_more}
use Rattle.sx_gen.proofs.Lengths.{flat_len, leaf_page_len}

-- never more rows are left than a leaf has at first
left_few : (taken : List ℕ) (leaf : ℕ) → rows_left taken leaf ≤ 20
unfolding rows_left
left_few taken leaf = omega arith

-- what the checksum covers of a frame has 4104 bytes
summed_len : (letters : List ℕ) (leaves : ℕ) (taken : List ℕ) (k : ℕ) → length letters ≡ 240 * leaves → slice_index taken k < leaves → length (summed_bytes letters leaves taken k) ≡ 4104
unfolding commit_page
summed_len letters leaves taken k whole there =
    let leaf = slice_index taken k in
    let page = leaf_page_len letters leaf (rows_left (take (k + 1) taken) leaf) (left_few (take (k + 1) taken) leaf) (omega arith) in
    omega (arith, page)

-- the header's first 24 bytes and whole frames are pairs of words
pairs : (seed : ℕ) (letters : List ℕ) (leaves : ℕ) (taken : List ℕ) (n : ℕ) → length letters ≡ 240 * leaves → ((k : ℕ) → k < length taken → slice_index taken k < leaves) → n ≤ length taken
    → length (log_start seed ++ flat_map (summed_bytes letters leaves taken) (range_with_len 0 n)) % 8 ≡ 0
unfolding log_start
pairs seed letters leaves taken n whole there within =
    let frames = flat_len (summed_bytes letters leaves taken) 4104 0 n (λ k below. summed_len letters leaves taken k whole (there k (omega arith))) in
    let all : length (log_start seed ++ flat_map (summed_bytes letters leaves taken) (range_with_len 0 n)) ≡ 24 + n * 4104 = omega (arith, frames) in
    omega arith

-- the sums through one frame more
pub sums_more : (seed : ℕ) (letters : List ℕ) (leaves : ℕ) (taken : List ℕ) (n : ℕ) (before head after : Sums) (start page : List ℕ) → length letters ≡ 240 * leaves
    → ((k : ℕ) → k < length taken → slice_index taken k < leaves) → n ≤ length taken → before ≡ sums_through seed letters leaves taken n → start ≡ frame_start leaves taken n → page ≡ commit_page letters taken n
    → head ≡ sums_of true before start → after ≡ sums_of true head page → after ≡ sums_through seed letters leaves taken (n + 1)
unfolding sums_through
sums_more seed letters leaves taken n before head after start page whole there within so_far is_start is_page is_head is_after =
    let front = flat_map (summed_bytes letters leaves taken) (range_with_len 0 n) in
    let first = frame_start leaves taken n in
    let content = commit_page letters taken n in
    let through = sums_of true (0, 0) (log_start seed ++ front) in
    let from : after ≡ sums_of true (sums_of true through first) content =
    is_after
    ∙ ap (λ s. sums_of true s page) (is_head ∙ ap (λ s. sums_of true s start) so_far)
    ∙ ap (λ bytes. sums_of true (sums_of true through bytes) page) is_start
    ∙ ap (λ bytes. sums_of true (sums_of true through first) bytes) is_page in
    from
    ∙ sym (sums-append true through first content refl)
    ∙ sym (sums-append true (0, 0) (log_start seed ++ front) (first ++ content) (pairs seed letters leaves taken n whole there within))
    ∙ ap (sums_of true (0, 0)) (append_assoc (log_start seed) front (first ++ content) ∙ ap (λ bytes. log_start seed ++ bytes) (sym (flat_more (summed_bytes letters leaves taken) n)))

-- before the first frame
pub sums_first : (seed : ℕ) (letters : List ℕ) (leaves : ℕ) (taken start : List ℕ) (through : Sums) → start ≡ log_start seed → through ≡ sums_of true (0, 0) start → through ≡ sums_through seed letters leaves taken 0
unfolding sums_through
sums_first seed letters leaves taken start through is_start is =
    is ∙ ap (sums_of true (0, 0)) (is_start ∙ sym (append-nil (log_start seed)))

pub head_first : (seed : ℕ) (start now : List ℕ) (through : Sums) → start ≡ log_start seed → through ≡ sums_of true (0, 0) start → now ≡ start ++ words_bytes (through.0 ∷ through.1 ∷ []) → now ≡ log_head seed ++ []
unfolding log_head
head_first seed start now through is_start is put =
    put
    ∙ ap (λ (s : Sums). start ++ words_bytes (s.0 ∷ s.1 ∷ [])) is
    ∙ ap (λ bytes. bytes ++ words_bytes ((sums_of true (0, 0) bytes).0 ∷ (sums_of true (0, 0) bytes).1 ∷ [])) is_start
    ∙ sym (append-nil (log_head seed))

-- the frame that is put
pub frame_put : (seed : ℕ) (letters : List ℕ) (leaves : ℕ) (taken : List ℕ) (n : ℕ) (through : Sums) (was now start page : List ℕ) → start ≡ frame_start leaves taken n → page ≡ commit_page letters taken n
    → through ≡ sums_through seed letters leaves taken (n + 1) → now ≡ was ++ (start ++ (frame_rest seed through ++ page)) → now ≡ was ++ commit_frame seed letters leaves taken n
unfolding commit_frame
frame_put seed letters leaves taken n through was now start page is_start is_page is put =
    put
    ∙ ap (λ bytes. was ++ (bytes ++ (frame_rest seed through ++ page))) is_start
    ∙ ap (λ bytes. was ++ (frame_start leaves taken n ++ (frame_rest seed through ++ bytes))) is_page
    ∙ ap (λ (s : Sums). was ++ (frame_start leaves taken n ++ (frame_rest seed s ++ commit_page letters taken n))) is

-- a frame has 4120 bytes
frame_len : (seed : ℕ) (letters : List ℕ) (leaves : ℕ) (taken : List ℕ) (k : ℕ) → length letters ≡ 240 * leaves → slice_index taken k < leaves → length (commit_frame seed letters leaves taken k) ≡ 4120
unfolding commit_frame commit_page
frame_len seed letters leaves taken k whole there =
    let leaf = slice_index taken k in
    let page = leaf_page_len letters leaf (rows_left (take (k + 1) taken) leaf) (left_few (take (k + 1) taken) leaf) (omega arith) in
    omega (arith, page)

-- the log has its header and a frame for each commit
pub log_len : (seed : ℕ) (letters : List ℕ) (leaves : ℕ) (taken : List ℕ) → length letters ≡ 240 * leaves → ((k : ℕ) → k < length taken → slice_index taken k < leaves)
    → length (log_bytes seed letters leaves taken) ≡ 32 + 4120 * length taken
unfolding log_bytes log_head log_start
log_len seed letters leaves taken whole there =
    let frames = flat_len (commit_frame seed letters leaves taken) 4120 0 (length taken) (λ k below. frame_len seed letters leaves taken k whole (there k (omega arith))) in
    omega (arith, frames)
