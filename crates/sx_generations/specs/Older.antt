-- Runs of frames of older generations in a write-ahead log ("WAL File Format", "Checksum Algorithm"). A log that is begun
-- again leaves the frames that it hasn't written over yet, and their checksums still go on from one to the next. Slots and
-- frames are numbered from 0.
use Rattle.std.specs.Prelude.{◌≡◌, ℕ, ◌+◌, ◌-◌, Bool, true, false, not, ◌&&◌, ◌==◌, List, length, map, slice_get, Some}
use Rattle.std.specs.List.{filter, range_with_len}
use Rattle.sx_base.specs.Bytes.{word_at}
use Rattle.sx_base.specs.declared.moment.Class.{Class}
use Rattle.sx_base.specs.declared.moment.Class.TheVariants.{Committed, Pending}
use Rattle.sx_bytes.specs.PageSize.{IsPageSize}
use Rattle.sx_wal.specs.Checksum.{Sums, sums_of}
use Rattle.sx_wal.specs.State.{is_big, two_words_at, are_same}
use Rattle.sx_wal.specs.Frames.{frame_at, slot_count, covered, is_valid}
use Rattle.sx_wal.specs.Wal.{Wal, IsFrame, commit_size_at, log_of}
use Rattle.sx_wal.specs.declared.slot.Slot.{Slot}
use Rattle.sx_generations.specs.declared.neighbours.Streak.{Streak}
use Rattle.sx_generations.specs.declared.runs.Run.{Run}
use Rattle.sx_generations.specs.Neighbours.{streaks_of}

-- the number of the page in frame i
abbrev pub page_number_at : ℕ → List ℕ → ℕ → ℕ
page_number_at page_size bytes i = word_at bytes (frame_at page_size i)

-- the salts of frame i
abbrev pub salts_at : ℕ → List ℕ → ℕ → ℕ × ℕ
salts_at page_size bytes i = two_words_at bytes (frame_at page_size i + 8)

-- the sums that frame i stores
abbrev pub stored_sums : ℕ → List ℕ → ℕ → Sums
stored_sums page_size bytes i = two_words_at bytes (frame_at page_size i + 16)

-- slot i isn't valid, and has a page number
unfoldable pub may_be_older : ℕ → List ℕ → ℕ → Bool
may_be_older page_size bytes i = not (is_valid page_size bytes i) && not (page_number_at page_size bytes i == 0)

-- slot i + 1 has the salts of slot i
unfoldable pub keeps_salts : ℕ → List ℕ → ℕ → Bool
keeps_salts page_size bytes i = are_same (salts_at page_size bytes i) (salts_at page_size bytes (i + 1))

-- slot i + 1 stores the sums that slot i stores, continued over what the checksum covers of slot i + 1
unfoldable pub continues_sums : ℕ → List ℕ → ℕ → Bool
continues_sums page_size bytes i =
    are_same (stored_sums page_size bytes (i + 1)) (sums_of (is_big bytes) (stored_sums page_size bytes i) (covered page_size bytes (i + 1)))

-- slot i + 1 continues slot i
unfoldable pub continues : ℕ → List ℕ → ℕ → Bool
continues page_size bytes i =
    (may_be_older page_size bytes i && may_be_older page_size bytes (i + 1))
    && (keeps_salts page_size bytes i && continues_sums page_size bytes i)

-- the slot has a size word
abbrev pub has_size : ℕ → List ℕ → ℕ → Bool
has_size page_size bytes i = not (commit_size_at page_size bytes i == 0)

-- the commits of a run: its slots with a size word, but never its first, whose own sums nothing can test
unfoldable pub commits_in : ℕ → List ℕ → Streak → List ℕ
commits_in page_size bytes streak = filter (has_size page_size bytes) (range_with_len (streak.first + 1) (streak.len - 1))

-- a run, and the slots of its commits
unfoldable pub older_run : ℕ → List ℕ → Streak → Run × List ℕ
older_run page_size bytes streak =
    let salts = salts_at page_size bytes streak.first in
    let commits = commits_in page_size bytes streak in
    (record { first = streak.first; slots = streak.len; salt1 = salts.0; salt2 = salts.1; commits = length commits }, commits)

-- the runs of a log, in the order of the file: the maximal lists of at least two neighbouring slots, each continuing the
-- one before
unfoldable pub older_of : ℕ → List ℕ → List (Run × List ℕ)
older_of page_size bytes = map (older_run page_size bytes) (streaks_of (continues page_size bytes) (slot_count page_size bytes))

-- the slots of an index are those of a log with these bytes, read for a database of that page size
pub record AreSlotsOf (page_size : ℕ) (bytes : List ℕ) (wal : Wal) : Type 0 where
  pub size : IsPageSize page_size
  pub slots : wal.slots ≡ (log_of page_size bytes).slots

-- an index was read from these bytes, for a database of some page size
pub record IsLog (bytes : List ℕ) (wal : Wal) : Type 0 where
  pub page_size : ℕ
  pub are : AreSlotsOf page_size bytes wal

-- the class of a valid slot
abbrev pub is_valid_class : Class → Bool
is_valid_class Committed = true
is_valid_class Pending = true
is_valid_class _ = false

-- a slot is that of frame i, and its class says whether that is valid
pub record IsTestedFrame (page_size : ℕ) (bytes : List ℕ) (i : ℕ) (slot : Slot) : Type 0 where
  pub frame : IsFrame page_size bytes i slot
  pub tested : is_valid_class slot.class ≡ is_valid page_size bytes i

-- so are all slots
pub record AreTestedFrames (page_size : ℕ) (bytes : List ℕ) (slots : List Slot) : Type 0 where
  pub each : (i : ℕ) (slot : Slot) → slice_get slots i ≡ Some slot → IsTestedFrame page_size bytes i slot
