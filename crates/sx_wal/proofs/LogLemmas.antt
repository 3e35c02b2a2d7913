-- What follows from how a log is read.
use Rattle.std.proofs.Common.{◌≡◌, ◌≢◌, ◌↔◌, ℕ, ◌+◌, ◌-◌, ◌<◌, ◌≤◌, Bool, true, false, ◌&&◌, not, eqb, leb, cond, List, length, get_or, map, Some, inl, inr, refl, sym, ap, ◌∙◌, arith, slice_get, slice_index}
use Rattle.std.specs.List.{range_with_len}
use Rattle.std.specs.List.Sorted.{IsStrictlyIncreasing}
use Rattle.std.proofs.lemmas.Bool.{cases_lt, cases_Bool, and_parts, and_from, leb-true, not-true, eqb-false, lt-ltb, both_ways}
use Rattle.std.proofs.lemmas.List.Elements.{filter_passes, All-get_or}
use Rattle.std.proofs.lemmas.List.Folds.{Any-from_list_any}
use Rattle.std.proofs.lemmas.List.FromFn.{length-map-range_with_len, get_or-map-range_with_len, get_or-range_with_len, length-range_with_len}
use Rattle.std.proofs.lemmas.List.Kept.{IsStrictlyIncreasing-filter}
use Rattle.std.proofs.lemmas.Nat.{le-div}
use Rattle.std.proofs.lemmas.Option.{slice_get_within, get_or_from_slice_get}
use Rattle.sx_base.specs.declared.moment.Class.TheVariants.{Committed, Pending, Broken, Foreign}
use Rattle.sx_wal.specs.declared.slot.Slot.{Slot}
use Rattle.sx_wal.specs.declared.state.WalState.TheVariants.{Short}
use Rattle.sx_wal.specs.State.{state_of, has_slots}
use Rattle.sx_wal.specs.Frames.{frame_len, frame_at, whole_frames, slot_count, has_salts, is_valid}
use Rattle.sx_wal.specs.Wal.{commit_size_at, is_commit, commits_of, is_within, class_past, class_of, slot_of, log_of, IsFrame}
use Rattle.sx_wal.proofs.FrameLemmas.{frame_within}
use Rattle.sx_wal.proofs.RunLemmas.{fit_below}

-- a log with slots has a header
header_there : (page_size : ℕ) (bytes : List ℕ) → has_slots (state_of bytes page_size) ≡ true → 32 ≤ length bytes
unfolding state_of
header_there page_size bytes some =
    elim (cases_lt (length bytes) 32) [
      | inl short ↦
          let state : state_of bytes page_size ≡ Short = rw (lt-ltb (length bytes) 32 short) refl in
          absurd (both_ways (has_slots (state_of bytes page_size)) (ap has_slots state) some)
      | inr long ↦ long
    ]

-- each slot that there is has a whole frame
slot_whole : (page_size : ℕ) (bytes : List ℕ) (i : ℕ) → i < slot_count page_size bytes → frame_at page_size i + frame_len page_size ≤ length bytes
unfolding slot_count
slot_whole page_size bytes i below =
    elim (cases_Bool (has_slots (state_of bytes page_size))) [
      | inl some ↦
          let count : slot_count page_size bytes ≡ whole_frames page_size bytes = ap (λ (b : Bool). cond b (whole_frames page_size bytes) 0) some in
          frame_within page_size bytes i (header_there page_size bytes some) (omega arith)
      | inr none ↦
          let count : slot_count page_size bytes ≡ 0 = ap (λ (b : Bool). cond b (whole_frames page_size bytes) 0) none in
          absurd (omega arith)
    ]

-- the slot at a place of the list
slot_is : (page_size : ℕ) (bytes : List ℕ) (i : ℕ) (slot : Slot) → slice_get (log_of page_size bytes).slots i ≡ Some slot
    → (i < slot_count page_size bytes) × (slot ≡ slot_of page_size bytes i)
unfolding log_of
slot_is page_size bytes i slot found =
    let len = length-map-range_with_len (slot_of page_size bytes) 0 (slot_count page_size bytes) in
    let inside = slice_get_within (map (slot_of page_size bytes) (range_with_len 0 (slot_count page_size bytes))) i slot found in
    let below : i < slot_count page_size bytes = omega arith in (
      below,
      sym (get_or_from_slice_get (map (slot_of page_size bytes) (range_with_len 0 (slot_count page_size bytes))) i slot slot found)
          ∙ get_or-map-range_with_len (slot_of page_size bytes) 0 (slot_count page_size bytes) i i slot below (omega arith),
    )

pub slot_stands : (page_size : ℕ) (bytes : List ℕ) (i : ℕ) (slot : Slot) → slice_get (log_of page_size bytes).slots i ≡ Some slot → IsFrame page_size bytes i slot
unfolding slot_of
slot_stands page_size bytes i slot found =
    let is = slot_is page_size bytes i slot found in
    let within = slot_whole page_size bytes i is.0 in
    let place : slot.offset ≡ frame_at page_size i + 24 = ap (λ (s : Slot). s.offset) is.1 in
    record {
      page = ap (λ (s : Slot). s.page) is.1;
      commit_size = ap (λ (s : Slot). s.commit_size) is.1;
      offset = place;
      whole = omega arith;
    }

-- slot i is there exactly where its frame is whole
pub whole_both_ways : (page_size : ℕ) (bytes : List ℕ) (i : ℕ) → has_slots (state_of bytes page_size) ≡ true
    → (i < length (log_of page_size bytes).slots) ↔ (frame_at page_size i + frame_len page_size ≤ length bytes)
unfolding log_of slot_count
whole_both_ways page_size bytes i some =
    let len : length (map (slot_of page_size bytes) (range_with_len 0 (slot_count page_size bytes))) ≡ slot_count page_size bytes =
    length-map-range_with_len (slot_of page_size bytes) 0 (slot_count page_size bytes) in
    let count : slot_count page_size bytes ≡ whole_frames page_size bytes = ap (λ (b : Bool). cond b (whole_frames page_size bytes) 0) some in (
      (λ below. slot_whole page_size bytes i (omega arith)),
      (λ whole. let next = le-div (i + 1) (length bytes - 32) (24 + page_size) (omega arith) (omega arith) in omega arith),
    )

-- the numbers of a range rise
range_rises : (n : ℕ) → IsStrictlyIncreasing (range_with_len 0 n)
range_rises n k inside =
    let len = length-range_with_len 0 n in
    let here = get_or-range_with_len 0 n k 0 (omega arith) in
    let next = get_or-range_with_len 0 n (k + 1) 0 (omega arith) in
    omega arith

pub commits_rise : (page_size : ℕ) (bytes : List ℕ) → IsStrictlyIncreasing (log_of page_size bytes).commits
unfolding log_of commits_of
commits_rise page_size bytes = IsStrictlyIncreasing-filter (is_commit page_size bytes) (range_with_len 0 (slot_count page_size bytes)) (range_rises (slot_count page_size bytes))

-- each commit passes the test
commit_passes : (page_size : ℕ) (bytes : List ℕ) (k d : ℕ) → k < length (commits_of page_size bytes) → is_commit page_size bytes (get_or (commits_of page_size bytes) k d) ≡ true
unfolding commits_of
commit_passes page_size bytes k d inside =
    All-get_or (λ (i : ℕ). is_commit page_size bytes i ≡ true) (commits_of page_size bytes) k d inside
    (filter_passes (is_commit page_size bytes) (range_with_len 0 (slot_count page_size bytes)))

pub commit_sized : (page_size : ℕ) (bytes : List ℕ) (k : ℕ) (slot : Slot) → k < length (log_of page_size bytes).commits
    → slice_get (log_of page_size bytes).slots (slice_index (log_of page_size bytes).commits k) ≡ Some slot → slot.commit_size ≢ 0
unfolding log_of
commit_sized page_size bytes k slot inside found none =
    let c = get_or (commits_of page_size bytes) k 0 in
    let is = slot_stands page_size bytes c slot found in
    let parts = and_parts (is_valid page_size bytes c) (not (eqb (commit_size_at page_size bytes c) 0)) (commit_passes page_size bytes k 0 inside) in
    eqb-false (commit_size_at page_size bytes c) 0 (not-true (eqb (commit_size_at page_size bytes c) 0) parts.1) (sym is.commit_size ∙ none)

-- a slot at or below a commit is valid
within_valid : (page_size : ℕ) (bytes : List ℕ) (i : ℕ) → is_within (commits_of page_size bytes) i ≡ true → is_valid page_size bytes i ≡ true
within_valid page_size bytes i within =
    let at = Any-from_list_any (leb i) (commits_of page_size bytes) within in
    let commit = ap (is_commit page_size bytes) (sym at.3) ∙ commit_passes page_size bytes at.0 at.1 at.2 in
    let reach = leb-true i at.1 at.4 in
    fit_below page_size bytes (at.1 + 1) (i + 1) (omega arith) (and_parts (is_valid page_size bytes at.1) _ commit).0

-- the class of a slot past the last commit is another
other_class : (valid own : Bool) → cond valid Pending (cond own Broken Foreign) ≡ Committed → ⊥
other_class true own e = cc
other_class false true e = cc
other_class false false e = cc

-- the same of slot i
past_other : (page_size : ℕ) (bytes : List ℕ) (i : ℕ) → class_past page_size bytes i ≡ Committed → ⊥
unfolding class_past
past_other page_size bytes i e = other_class (is_valid page_size bytes i) (has_salts page_size bytes i) e

pub committed_within : (page_size : ℕ) (bytes : List ℕ) (i : ℕ) (slot : Slot) → slice_get (log_of page_size bytes).slots i ≡ Some slot
    → (slot.class ≡ Committed) ↔ (is_within (log_of page_size bytes).commits i ≡ true)
unfolding log_of slot_of class_of
committed_within page_size bytes i slot found =
    let is : slot.class ≡ class_of page_size bytes i = ap (λ (s : Slot). s.class) (slot_is page_size bytes i slot found).1 in
    let both = is_valid page_size bytes i && is_within (commits_of page_size bytes) i in
    let choice = λ (b : Bool). cond b Committed (class_past page_size bytes i) in (
      (λ e.
          elim (cases_Bool both) [
            | inl taken ↦ (and_parts (is_valid page_size bytes i) (is_within (commits_of page_size bytes) i) taken).1
            | inr left ↦ absurd (past_other page_size bytes i (sym (ap choice left) ∙ sym is ∙ e))
          ]),
      (λ within. is ∙ ap choice (and_from (is_valid page_size bytes i) (is_within (commits_of page_size bytes) i) (within_valid page_size bytes i within) within)),
    )
