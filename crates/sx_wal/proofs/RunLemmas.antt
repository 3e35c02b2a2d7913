-- The carried sums are those over the whole prefix, computed anew.
use Rattle.std.proofs.Common.{◌≡◌, ℕ, zero, suc, ◌+◌, ◌%◌, ◌<◌, ◌≤◌, Bool, true, false, ◌&&◌, List, [], ◌++◌, length, take, drop, Option, Some, None, is_some, inl, inr, if◌then◌else◌, refl, sym, ap, ◌∙◌, arith, append-nil, length-append, length-drop, length-take}
use Rattle.std.proofs.Math.Bool.{and_assoc, and-true}
use Rattle.std.proofs.lemmas.Bool.{cases_eq, and_parts}
use Rattle.std.specs.List.{list_all, flat_map, range_with_len}
use Rattle.std.proofs.lemmas.List.{flat_map_more}
use Rattle.sx_bytes.specs.PageSize.{IsPageSize}
use Rattle.sx_wal.specs.Checksum.{Sums, sums_of}
use Rattle.sx_wal.specs.declared.state.WalState.{WalState}
use Rattle.sx_wal.specs.declared.state.WalState.TheVariants.{Good}
use Rattle.sx_wal.specs.State.{is_big, header_sums, state_of, is_good}
use Rattle.sx_wal.specs.Frames.{frame_len, frame_at, whole_frames, covered, running_sums, agrees, fits, first_fit}
use Rattle.sx_wal.specs.Walk.{run_of}
use Rattle.sx_wal.proofs.ChecksumLemmas.{sums-append}
use Rattle.sx_wal.proofs.FrameLemmas.{frame_within, whole_pairs}
use Rattle.sx_wal.proofs.Ranges.{range_more, all_more}

-- what the checksum covers up to frame n
abbrev prefix : ℕ → List ℕ → ℕ → List ℕ
prefix page_size bytes n = take 24 bytes ++ flat_map (covered page_size bytes) (range_with_len 0 n)

-- one frame more
prefix_more : (page_size : ℕ) (bytes : List ℕ) (n : ℕ) → prefix page_size bytes (n + 1) ≡ prefix page_size bytes n ++ covered page_size bytes n
prefix_more page_size bytes n =
    ap (λ (xs : List ℕ). take 24 bytes ++ flat_map (covered page_size bytes) xs) (range_more n)
    ∙ sym (flat_map_more (covered page_size bytes) (take 24 bytes) (range_with_len 0 n) n)

-- what the checksum covers of a whole frame
length-covered : (page_size : ℕ) (bytes : List ℕ) (i : ℕ) → frame_at page_size i + frame_len page_size ≤ length bytes → length (covered page_size bytes i) ≡ 8 + page_size
unfolding covered
length-covered page_size bytes i within =
    let front : length (take 8 (drop (frame_at page_size i) bytes)) ≡ 8 =
    omega (arith, length-take 8 (drop (frame_at page_size i) bytes), length-drop (frame_at page_size i) bytes) in
    let page : length (take page_size (drop (frame_at page_size i + 24) bytes)) ≡ page_size =
    omega (arith, length-take page_size (drop (frame_at page_size i + 24) bytes), length-drop (frame_at page_size i + 24) bytes) in
    length-append (take 8 (drop (frame_at page_size i) bytes)) (take page_size (drop (frame_at page_size i + 24) bytes)) ∙ omega arith

-- the prefix is a whole number of pairs
whole_prefix : (page_size : ℕ) (bytes : List ℕ) → IsPageSize page_size → 32 ≤ length bytes → (n : ℕ) → n ≤ whole_frames page_size bytes → length (prefix page_size bytes n) % 8 ≡ 0
whole_prefix page_size bytes size header zero below =
    let len : length (take 24 bytes ++ []) ≡ 24 = omega (arith, length-append (take 24 bytes) [], length-take 24 bytes) in
    ap (λ (k : ℕ). k % 8) len
whole_prefix page_size bytes size header (suc n) below =
    let next : suc n ≡ n + 1 = omega arith in
    let so_far = whole_prefix page_size bytes size header n (omega arith) in
    let pairs = whole_pairs page_size size in
    let one = length-covered page_size bytes n (frame_within page_size bytes n header (omega arith)) in
    let more : length (prefix page_size bytes (suc n)) ≡ length (prefix page_size bytes n) + length (covered page_size bytes n) =
    ap (λ (k : ℕ). length (prefix page_size bytes k)) next
    ∙ ap (λ (xs : List ℕ). length xs) (prefix_more page_size bytes n)
    ∙ length-append (prefix page_size bytes n) (covered page_size bytes n) in
    omega arith

-- the sums of one frame more
running_more : (page_size : ℕ) (bytes : List ℕ) → IsPageSize page_size → 32 ≤ length bytes → (n : ℕ) → n < whole_frames page_size bytes
    → running_sums page_size bytes (n + 1) ≡ sums_of (is_big bytes) (running_sums page_size bytes n) (covered page_size bytes n)
unfolding running_sums
running_more page_size bytes size header n below =
    ap (λ (xs : List ℕ). sums_of (is_big bytes) (0, 0) xs) (prefix_more page_size bytes n)
    ∙ sums-append (is_big bytes) (0, 0) (prefix page_size bytes n) (covered page_size bytes n) (whole_prefix page_size bytes size header n (omega arith))

-- one frame more fits
fit_more : (page_size : ℕ) (bytes : List ℕ) (n : ℕ) → first_fit page_size bytes (n + 1) ≡ (first_fit page_size bytes n && fits page_size bytes n)
unfolding first_fit
fit_more page_size bytes n =
    ap (λ (b : Bool). is_good (state_of bytes page_size) && b) (all_more (fits page_size bytes) n)
    ∙ sym (and_assoc (is_good (state_of bytes page_size)) (list_all (fits page_size bytes) (range_with_len 0 n)) (fits page_size bytes n))

-- where the first n frames fit, fewer do
pub fit_below : (page_size : ℕ) (bytes : List ℕ) (n k : ℕ) → k ≤ n → first_fit page_size bytes n ≡ true → first_fit page_size bytes k ≡ true
fit_below page_size bytes zero k below fit = let same : k ≡ zero = omega arith in ap (first_fit page_size bytes) same ∙ fit
fit_below page_size bytes (suc n) k below fit =
    elim (cases_eq k (suc n)) [
      | inl same ↦ ap (first_fit page_size bytes) same ∙ fit
      | inr less ↦
          let next : n + 1 ≡ suc n = omega arith in
          let parts = and_parts (first_fit page_size bytes n) (fits page_size bytes n) (sym (fit_more page_size bytes n) ∙ ap (first_fit page_size bytes) next ∙ fit) in
          fit_below page_size bytes n k (omega arith) parts.0
    ]

-- the sums are there exactly where the first n frames fit
pub some_where_fit : (page_size : ℕ) (bytes : List ℕ) (run : Option Sums) (n : ℕ) → run ≡ run_of page_size bytes n → is_some run ≡ first_fit page_size bytes n
unfolding run_of
some_where_fit page_size bytes run n carried = ap (λ (o : Option Sums). is_some o) carried ∙ some_if (first_fit page_size bytes n) (running_sums page_size bytes n)
  where
    some_if : (b : Bool) (s : Sums) → is_some (if b then Some s else None) ≡ b
    some_if true s = refl
    some_if false s = refl

-- the sums are there exactly where the frames fit
run_some : (b : Bool) (s before : Sums) → (if b then Some s else None) ≡ Some before → (b ≡ true) × (s ≡ before)
run_some true s before e = (refl, cc)
run_some false s before e = cc

-- any other state
pub not_good : (state : WalState) → (state ≡ Good → ⊥) → false ≡ is_good state
not_good Good other = absurd (other refl)
not_good _ other = refl

-- before the first frame
pub run_start : (page_size : ℕ) (bytes : List ℕ) (good : Bool) → good ≡ is_good (state_of bytes page_size)
    → run_of page_size bytes 0 ≡ (if good then Some (header_sums bytes) else None)
unfolding run_of first_fit running_sums header_sums
run_start page_size bytes good e =
    let now : first_fit page_size bytes 0 ≡ good = and-true (is_good (state_of bytes page_size)) ∙ sym e in
    let same : running_sums page_size bytes 0 ≡ header_sums bytes = ap (λ (xs : List ℕ). sums_of (is_big bytes) (0, 0) xs) (append-nil (take 24 bytes)) in
    ap (λ (b : Bool). if b then Some (running_sums page_size bytes 0) else None) now ∙ ap (λ (s : Sums). if good then Some s else None) same

-- no sums
run_gone : (b : Bool) (s : Sums) → (if b then Some s else None) ≡ None → b ≡ false
run_gone true s e = cc
run_gone false s e = refl

-- after the first frame that doesn't fit there are no sums
pub run_none : (page_size : ℕ) (bytes : List ℕ) (n : ℕ) → run_of page_size bytes n ≡ None → run_of page_size bytes (n + 1) ≡ None
unfolding run_of
run_none page_size bytes n gone =
    let before = run_gone (first_fit page_size bytes n) (running_sums page_size bytes n) gone in
    let now : first_fit page_size bytes (n + 1) ≡ false = fit_more page_size bytes n ∙ ap (λ (b : Bool). b && fits page_size bytes n) before in
    ap (λ (b : Bool). if b then Some (running_sums page_size bytes (n + 1)) else None) now

-- the sums after a frame, where there were some before it
pub run_more : (page_size : ℕ) (bytes : List ℕ) (before through : Sums) (n : ℕ) (ok : Bool) → IsPageSize page_size → 32 ≤ length bytes → n < whole_frames page_size bytes
    → run_of page_size bytes n ≡ Some before → through ≡ sums_of (is_big bytes) before (covered page_size bytes n) → ok ≡ agrees page_size bytes n through
    → run_of page_size bytes (n + 1) ≡ (if ok then Some through else None)
unfolding run_of
run_more page_size bytes before through n ok size header below so_far is_through is_ok =
    let was = run_some (first_fit page_size bytes n) (running_sums page_size bytes n) before so_far in
    let same : running_sums page_size bytes (n + 1) ≡ through =
    running_more page_size bytes size header n below ∙ ap (λ (s : Sums). sums_of (is_big bytes) s (covered page_size bytes n)) was.1 ∙ sym is_through in
    let now : first_fit page_size bytes (n + 1) ≡ ok =
    fit_more page_size bytes n ∙ ap (λ (b : Bool). b && fits page_size bytes n) was.0 ∙ ap (λ (s : Sums). agrees page_size bytes n s) same ∙ sym is_ok in
    ap (λ (b : Bool). if b then Some (running_sums page_size bytes (n + 1)) else None) now ∙ ap (λ (s : Sums). if ok then Some s else None) same
