-- The evidence of a database, and the moments that it holds: the state that a live rollback journal gives back, the file
-- itself, and the state after each commit of the write-ahead log ("In-header Database Size", "The Rollback Journal",
-- "The Write-Ahead Log").
use Rattle.std.specs.Prelude.{ℕ, ◌+◌, ◌-◌, ◌/◌, Bool, true, false, not, ◌&&◌, if◌then◌else◌, ◌==◌, nat_le, List, [], ◌∷◌, ◌++◌, length, map, slice_index, slice_index_or, Option, None, Some}
use Rattle.std.specs.List.{range_with_len}
use Rattle.sx_base.specs.declared.moment.Moment.{Moment}
use Rattle.sx_base.specs.declared.moment.Moment.TheVariants.{Journal, File, Commit}
use Rattle.sx_base.specs.declared.moment.Class.TheVariants.{Broken, Bad}
use Rattle.sx_header.specs.declared.header.Header.{Header}
use Rattle.sx_wal.specs.Wal.{Wal, wal_of}
use Rattle.sx_wal.specs.declared.slot.Slot.{Slot}
use Rattle.sx_journal.specs.Journal.{Journal as Records, journal_of}
use Rattle.sx_journal.specs.declared.entry.Entry.{Entry}
use Rattle.sx_journal.specs.declared.state.JournalState.{JournalState}
use Rattle.sx_journal.specs.declared.state.JournalState.TheVariants.{Live}

-- a database with its header, its log and its journal, their bytes and what they were read as
pub record Gathered : Type 0 where
  pub header : Header
  pub database : List ℕ
  pub wal_bytes : Option (List ℕ)
  pub journal_bytes : Option (List ℕ)
  pub wal : Wal
  pub journal : Records

-- the evidence of these files
abbrev pub gathered : Header → List ℕ → Option (List ℕ) → Option (List ℕ) → Gathered
gathered header database wal journal = record {
  header = header;
  database = database;
  wal_bytes = wal;
  journal_bytes = journal;
  wal = wal_of wal header.page_size;
  journal = journal_of journal header.page_size;
}

-- the bytes of a file, none where it is absent
abbrev pub bytes_in : Option (List ℕ) → List ℕ
bytes_in None = []
bytes_in (Some bytes) = bytes

-- a slot and a record that aren't there
abbrev pub no_slot : Slot
no_slot = record { page = 0; commit_size = 0; offset = 0; class = Broken }

abbrev pub no_record : Entry
no_record = record { page = 0; offset = 0; sum = 0; class = Bad }

-- slot i of the log, from 0
abbrev pub slot_at : Gathered → ℕ → Slot
slot_at case i = slice_index_or case.wal.slots i no_slot

-- record i of the journal, from 0
abbrev pub record_at : Gathered → ℕ → Entry
record_at case i = slice_index_or case.journal.entries i no_record

-- how many whole pages the file has
abbrev pub page_count : Gathered → ℕ
page_count case = length case.database / case.header.page_size

-- The size of the file's own state in pages: the one in its header where that isn't 0 and the change counter is the one
-- at which it was written, else that of the file ("In-header Database Size").
abbrev pub file_size : Gathered → ℕ
file_size case =
    let header = case.header in
    if not (header.pages == 0) && header.change == header.valid_for then header.pages else page_count case

-- the slot of commit k, from 1
abbrev pub commit_at : Gathered → ℕ → ℕ
commit_at case k = slice_index case.wal.commits (k - 1)

-- the size of a moment in pages: the first journal header's, the file's, the commit's
abbrev pub size_at : Gathered → Moment → ℕ
size_at case Journal = case.journal.initial_size
size_at case File = file_size case
size_at case (Commit k) = (slot_at case (commit_at case k)).commit_size

-- how many slots stand up to a moment: those up to the commit's and that one, and none where it is no commit
abbrev pub limit_at : Gathered → Moment → ℕ
limit_at case (Commit k) = commit_at case k + 1
limit_at case moment = 0

-- the journal is live
abbrev pub is_live_state : JournalState → Bool
is_live_state Live = true
is_live_state _ = false

-- the moments: the live journal's, the file's, and those of the commits
abbrev pub moments_of : Gathered → List Moment
moments_of case =
    (if is_live_state case.journal.state then Journal ∷ [] else []) ++ File ∷ map Commit (range_with_len 1 (length case.wal.commits))

-- a moment is one of them
abbrev pub is_moment : Gathered → Moment → Bool
is_moment case Journal = is_live_state case.journal.state
is_moment case File = true
is_moment case (Commit k) = nat_le 1 k && nat_le k (length case.wal.commits)
