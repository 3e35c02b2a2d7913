-- Where frames stand, and how the sums go from frame to frame.
use Rattle.std.proofs.Common.{◌≡◌, ℕ, ◌+◌, ◌-◌, ◌*◌, ◌/◌, ◌%◌, ◌<◌, ◌≤◌, Bool, List, length, take, drop, sym, ap, ◌∙◌, arith, length-drop, length-take}
use Rattle.std.proofs.Math.Nat.{div-add-mod', mul-le-mul_right}
use Rattle.sx_bytes.specs.PageSize.{IsPageSize}
use Rattle.sx_bytes.proofs.PageSizeLemmas.{size_mod_512}
use Rattle.sx_wal.specs.Checksum.{Sums, sums_of}
use Rattle.sx_wal.specs.Frames.{frame_len, frame_at, whole_frames, covered}
use Rattle.sx_wal.proofs.ChecksumLemmas.{sums-append}

-- a whole frame ends within the log
pub frame_within : (page_size : ℕ) (bytes : List ℕ) (i : ℕ) → 32 ≤ length bytes → i < whole_frames page_size bytes
    → frame_at page_size i + frame_len page_size ≤ length bytes
frame_within page_size bytes i header below =
    let whole = div-add-mod' (length bytes - 32) (24 + page_size) in
    let next : i + 1 ≤ (length bytes - 32) / (24 + page_size) = omega arith in
    let step : (i + 1) * (24 + page_size) ≤ (length bytes - 32) / (24 + page_size) * (24 + page_size) = mul-le-mul_right (24 + page_size) next in
    omega arith

-- a page is a whole number of pairs of words
pub whole_pairs : (page_size : ℕ) → IsPageSize page_size → page_size % 8 ≡ 0
whole_pairs page_size size = let multiple = size_mod_512 page_size size in omega arith

-- the sums over the two pieces of a frame, one after the other
pub frame_sums : (big order : Bool) (before : Sums) (page_size : ℕ) (bytes : List ℕ) (i at eight pages place : ℕ) (head through : Sums) → big ≡ order
    → at ≡ frame_at page_size i → at + 8 ≤ length bytes → eight ≡ 8 → pages ≡ page_size → place ≡ at + 24
    → head ≡ sums_of big before (take eight (drop at bytes)) → through ≡ sums_of big head (take pages (drop place bytes))
    → through ≡ sums_of order before (covered page_size bytes i)
unfolding covered
frame_sums big order before page_size bytes i at eight pages place head through is_order is_at within is_eight is_pages is_place is_head is_through =
    let start = take 8 (drop (frame_at page_size i) bytes) in
    let content = take page_size (drop (frame_at page_size i + 24) bytes) in
    let piece : take eight (drop at bytes) ≡ start =
    ap (λ (n : ℕ). take n (drop at bytes)) is_eight ∙ ap (λ (k : ℕ). take 8 (drop k bytes)) is_at in
    let page : take pages (drop place bytes) ≡ content =
    ap (λ (n : ℕ). take n (drop place bytes)) is_pages ∙ ap (λ (k : ℕ). take page_size (drop k bytes)) (is_place ∙ ap (λ (k : ℕ). k + 24) is_at) in
    let len : length start ≡ 8 = omega (arith, length-take 8 (drop (frame_at page_size i) bytes), length-drop (frame_at page_size i) bytes) in
    is_through
    ∙ ap (λ (s : Sums). sums_of big s (take pages (drop place bytes))) is_head
    ∙ ap (λ (front : List ℕ). sums_of big (sums_of big before front) (take pages (drop place bytes))) piece
    ∙ ap (λ (back : List ℕ). sums_of big (sums_of big before start) back) page
    ∙ sym (sums-append big before start content (ap (λ (n : ℕ). n % 8) len))
    ∙ ap (λ (b : Bool). sums_of b before (covered page_size bytes i)) is_order
