-- A write-ahead log as a whole: its state, its slots in file order, and the slots of its commits ("WAL File Format",
-- "Reader Algorithm").
use Rattle.std.specs.Prelude.{◌≡◌, ℕ, ◌+◌, ◌<◌, ◌≤◌, ◌^◌, Bool, not, ◌&&◌, if◌then◌else◌, ◌==◌, nat_le, List, [], length, map, slice_index, Option, Some, None}
use Rattle.std.specs.List.{filter, list_any, range_with_len}
use Rattle.sx_base.specs.Bytes.{word_at}
use Rattle.sx_base.specs.declared.moment.Class.{Class}
use Rattle.sx_base.specs.declared.moment.Class.TheVariants.{Committed, Pending, Foreign, Broken}
use Rattle.sx_wal.specs.State.{state_of}
use Rattle.sx_wal.specs.Frames.{frame_at, slot_count, has_salts, is_valid}
use Rattle.sx_wal.specs.declared.state.WalState.{WalState}
use Rattle.sx_wal.specs.declared.state.WalState.TheVariants.{Absent}
use Rattle.sx_wal.specs.declared.slot.Slot.{Slot}

-- the size in pages after the commit that frame i is, or 0 where it is none
abbrev pub commit_size_at : ℕ → List ℕ → ℕ → ℕ
commit_size_at page_size bytes i = word_at bytes (frame_at page_size i + 4)

-- slot i is a commit: a valid slot with a commit size
abbrev pub is_commit : ℕ → List ℕ → ℕ → Bool
is_commit page_size bytes i = is_valid page_size bytes i && not (commit_size_at page_size bytes i == 0)

-- the slots of the commits, in file order
unfoldable pub commits_of : ℕ → List ℕ → List ℕ
commits_of page_size bytes = filter (is_commit page_size bytes) (range_with_len 0 (slot_count page_size bytes))

-- slot i is at or below the last commit: some commit is at it or past it
abbrev pub is_within : List ℕ → ℕ → Bool
is_within commits i = list_any (nat_le i) commits

-- the class of slot i where it is past the last commit
unfoldable pub class_past : ℕ → List ℕ → ℕ → Class
class_past page_size bytes i =
    if is_valid page_size bytes i then Pending
    else (if has_salts page_size bytes i then Broken else Foreign)

-- the class of slot i
unfoldable pub class_of : ℕ → List ℕ → ℕ → Class
class_of page_size bytes i =
    if is_valid page_size bytes i && is_within (commits_of page_size bytes) i then Committed
    else class_past page_size bytes i

-- slot i with a class
abbrev pub slot_with : ℕ → List ℕ → ℕ → Class → Slot
slot_with page_size bytes i class = record {
  page = word_at bytes (frame_at page_size i);
  commit_size = commit_size_at page_size bytes i;
  offset = frame_at page_size i + 24;
  class = class;
}

-- slot i
unfoldable pub slot_of : ℕ → List ℕ → ℕ → Slot
slot_of page_size bytes i = slot_with page_size bytes i (class_of page_size bytes i)

-- a log, seen as lists
pub record Wal : Type 0 where
  pub state : WalState
  pub slots : List Slot
  pub commits : List ℕ

-- a log of these parts
abbrev pub wal : WalState → List Slot → List ℕ → Wal
wal state slots commits = record { state = state; slots = slots; commits = commits }

-- a log without slots
abbrev pub bare : WalState → Wal
bare state = wal state [] []

-- a log that is there, read for a database of this page size
unfoldable pub log_of : ℕ → List ℕ → Wal
log_of page_size bytes =
    wal (state_of bytes page_size) (map (slot_of page_size bytes) (range_with_len 0 (slot_count page_size bytes))) (commits_of page_size bytes)

-- a log that may be absent
unfoldable pub wal_of : Option (List ℕ) → ℕ → Wal
wal_of None page_size = bare Absent
wal_of (Some bytes) page_size = log_of page_size bytes

-- there are fewer than 2^32 slots, and each commit is one of them
pub record IsIndex (wal : Wal) : Type 0 where
  pub few : length wal.slots < 2 ^ 32
  pub fewer : length wal.commits ≤ length wal.slots
  pub within : (k : ℕ) → k < length wal.commits → slice_index wal.commits k < length wal.slots

-- a slot is that of frame i, and its page is whole in the log
pub record IsFrame (page_size : ℕ) (bytes : List ℕ) (i : ℕ) (slot : Slot) : Type 0 where
  pub page : slot.page ≡ word_at bytes (frame_at page_size i)
  pub commit_size : slot.commit_size ≡ commit_size_at page_size bytes i
  pub offset : slot.offset ≡ frame_at page_size i + 24
  pub whole : slot.offset + page_size ≤ length bytes
