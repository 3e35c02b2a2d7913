-- What the log and the journal were read as fits their files.
use Rattle.std.proofs.Common.{◌≡◌, ℕ, ◌+◌, ◌-◌, ◌*◌, ◌<◌, ◌≤◌, ◌^◌, List, Option, Some, None, length, arith, inl, inr, mul-le-mul_left}
use Rattle.std.specs.Prelude.{slice_get, slice_index, slice_index_or, All}
use Rattle.std.specs.List.Sorted.{IsStrictlyIncreasing}
use Rattle.std.proofs.lemmas.Bool.{cases_lt}
use Rattle.std.proofs.lemmas.Option.{slice_get-get_or}
use Rattle.sx_header.specs.declared.header.Header.{Header}
use Rattle.sx_header.specs.Header.{HasRanges}
use Rattle.sx_wal.specs.Wal.{Wal, IsFrame, log_of, wal_of}
use Rattle.sx_wal.specs.Frames.{frame_at}
use Rattle.sx_wal.specs.declared.slot.Slot.{Slot}
use Rattle.sx_journal.specs.Journal.{Journal, journal_of}
use Rattle.sx_moment.specs.Gathered.{bytes_in, no_slot, no_record}
use Rattle.sx_moment.specs.Reading.{IsGathered, gathered_by}
use Rattle.sx_moment.specs.Limits.{IsSmall}

-- what the reader of logs says of each slot
abbrev FrameLaw : Type 0
FrameLaw = (page_size : ℕ) (bytes : List ℕ) (i : ℕ) (slot : Slot) → slice_get (log_of page_size bytes).slots i ≡ Some slot → IsFrame page_size bytes i slot

-- what the reader of journals says of each record
abbrev RecordLaw : Type 0
RecordLaw = (bytes : List ℕ) (page_size : ℕ) → All (λ entry. entry.offset + page_size + 4 ≤ length bytes) (journal_of (Some bytes) page_size).entries

slots_fit : (page_size : ℕ) (wal : Option (List ℕ)) → FrameLaw → (i : ℕ) → i < length (wal_of wal page_size).slots
    → (slice_index_or (wal_of wal page_size).slots i no_slot).offset + page_size ≤ length (bytes_in wal)
unfolding wal_of
slots_fit page_size None law i below = absurd (omega arith)
slots_fit page_size (Some bytes) law i below = (law page_size bytes i (slice_index_or (log_of page_size bytes).slots i no_slot) (slice_get-get_or (log_of page_size bytes).slots i no_slot below)).whole

-- frames of at least 536 bytes are few
few_frames : (n page_size long : ℕ) → 512 ≤ page_size → frame_at page_size n + 24 + page_size ≤ long → long < 2 ^ 32 → n < 2 ^ 31 - 1
few_frames n page_size long least fits small =
    let more : n * 536 ≤ n * (24 + page_size) = grind (arith, mul-le-mul_left) in
    omega arith

slots_few : (page_size : ℕ) (wal : Option (List ℕ)) → FrameLaw → 512 ≤ page_size → length (bytes_in wal) < 2 ^ 32 → length (wal_of wal page_size).slots < 2 ^ 31
unfolding wal_of
slots_few page_size None law least small = omega arith
slots_few page_size (Some bytes) law least small =
    elim (cases_lt 0 (length (log_of page_size bytes).slots)) [
      | inl some ↦
          let n = length (log_of page_size bytes).slots - 1 in
          let slot = slice_index_or (log_of page_size bytes).slots n no_slot in
          let frame = law page_size bytes n slot (slice_get-get_or (log_of page_size bytes).slots n no_slot (omega arith)) in
          let fits : frame_at page_size n + 24 + page_size ≤ length bytes = omega (arith, frame.offset, frame.whole) in
          omega (arith, few_frames n page_size (length bytes) least fits small)
      | inr none ↦ omega arith
    ]

records_held : (page_size : ℕ) (journal : Option (List ℕ)) → RecordLaw → (i : ℕ) → i < length (journal_of journal page_size).entries
    → (slice_index_or (journal_of journal page_size).entries i no_record).offset + page_size ≤ length (bytes_in journal)
unfolding journal_of
records_held page_size None law i below = absurd (omega arith)
records_held page_size (Some bytes) law i below = let fits = law bytes page_size i no_record below in omega (arith, fits)

-- the commits of a log that may be absent rise
pub commits_rise : (page_size : ℕ) (wal : Option (List ℕ)) → ((page_size : ℕ) (bytes : List ℕ) → IsStrictlyIncreasing (log_of page_size bytes).commits)
    → IsStrictlyIncreasing (wal_of wal page_size).commits
unfolding wal_of
commits_rise page_size None law k below = absurd (omega arith)
commits_rise page_size (Some bytes) law k below = law page_size bytes k below

-- evidence that was read is as it should be
pub gathered_is : (header : Header) (database : List ℕ) (wal_bytes journal_bytes : Option (List ℕ)) (wal : Wal) (journal : Journal)
    → ((page_size : ℕ) (bytes : List ℕ) (i : ℕ) (slot : Slot) → slice_get (log_of page_size bytes).slots i ≡ Some slot → IsFrame page_size bytes i slot)
    → ((bytes : List ℕ) (page_size : ℕ) → All (λ entry. entry.offset + page_size + 4 ≤ length bytes) (journal_of (Some bytes) page_size).entries)
    → HasRanges header → IsSmall database wal_bytes journal_bytes
    → wal ≡ wal_of wal_bytes header.page_size → journal ≡ journal_of journal_bytes header.page_size → length wal.commits ≤ length wal.slots
    → ((k : ℕ) → k < length wal.commits → slice_index wal.commits k < length wal.slots)
    → IsStrictlyIncreasing wal.commits
    → IsGathered (gathered_by header database wal_bytes journal_bytes wal journal)
gathered_is header database wal_bytes journal_bytes wal journal slot_law record_law ranges small wal_is journal_is fewer commits_within rising = record {
  ranges = ranges;
  small = small;
  slots = rw wal_is (slots_fit header.page_size wal_bytes slot_law);
  records = rw journal_is (records_held header.page_size journal_bytes record_law);
  few_slots = rw wal_is (slots_few header.page_size wal_bytes slot_law ranges.page_size.least small.wal_small);
  few_commits = fewer;
  commits = commits_within;
  rising = rising;
  wal_is = wal_is;
  journal_is = journal_is;
}
