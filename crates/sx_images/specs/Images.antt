-- The page images of the three files ("Pages"; "WAL File Format"; "The Rollback Journal"): each whole page of the database,
-- the page of each frame of the log, and that of each record of the journal, in order of file and offset.
-- Offsets are in bytes from the start of a file. Pages are numbered from 1, everything else from 0.
use Rattle.std.specs.Prelude.{◌≡◌, ℕ, ◌+◌, ◌*◌, ◌/◌, ◌<◌, ◌≤◌, ◌⊎◌, List, [], ◌∷◌, ◌++◌, length, map, slice_get, Option, None, Some}
use Rattle.std.specs.List.{range_with_len}
use Rattle.sx_base.specs.declared.evidence.Part.{Part}
use Rattle.sx_base.specs.declared.evidence.Part.TheVariants.{Database, Wal, Journal}
use Rattle.sx_base.specs.declared.evidence.Place.{Place}
use Rattle.sx_base.specs.declared.moment.Class.TheVariants.{File}
use Rattle.sx_wal.specs.Wal.{Wal as Log}
use Rattle.sx_wal.specs.declared.slot.Slot.{Slot}
use Rattle.sx_journal.specs.Journal.{Journal as RollbackJournal}
use Rattle.sx_journal.specs.declared.entry.Entry.{Entry}
use Rattle.sx_journal.specs.declared.segment.Segment.{Segment}
use Rattle.sx_journal.specs.declared.state.JournalState.{JournalState}
use Rattle.sx_journal.specs.declared.state.JournalState.TheVariants.{Live, Zeroed}
use Rattle.sx_images.specs.declared.image.Image.{Image}
use Rattle.sx_images.specs.declared.lengths.Lengths.{Lengths}
use Rattle.sx_images.specs.declared.stretch.Stretch.{Stretch}

-- the bytes of a file, none where it is absent
abbrev pub or_none : Option ℕ → ℕ
or_none None = 0
or_none (Some len) = len

abbrev pub length_of : Lengths → Part → ℕ
length_of lengths Database = lengths.database
length_of lengths Wal = or_none lengths.wal
length_of lengths Journal = or_none lengths.journal

-- what is kept of the three files: how many frames the log has, the images of its frames and of the journal's records,
-- how long a header of the journal is and its sector, and its runs of records
pub record Table : Type 0 where
  pub page_size : ℕ
  pub lengths : Lengths
  pub frames : ℕ
  pub stored : List Image
  pub head_len : ℕ
  pub sector : ℕ
  pub stretches : List Stretch

abbrev pub kept : ℕ → Lengths → ℕ → List Image → ℕ → ℕ → List Stretch → Table
kept page_size lengths frames stored head_len sector stretches =
    record { page_size = page_size; lengths = lengths; frames = frames; stored = stored; head_len = head_len; sector = sector; stretches = stretches }

-- page i + 1 of the database file
abbrev pub page_image : ℕ → ℕ → Image
page_image page_size i = record { part = Database; offset = i * page_size; page = i + 1; class = File }

-- the page of a frame
abbrev pub frame_image : Slot → Image
frame_image slot = record { part = Wal; offset = slot.offset; page = slot.page; class = slot.class }

-- the page of a record
abbrev pub record_image : Entry → Image
record_image entry = record { part = Journal; offset = entry.offset; page = entry.page; class = entry.class }

-- how many whole pages the database file has
abbrev pub pages_of : Table → ℕ
pages_of table = table.lengths.database / table.page_size

-- all images
unfoldable pub images_of : Table → List Image
images_of table = map (page_image table.page_size) (range_with_len 0 (pages_of table)) ++ table.stored

-- the records of a segment
abbrev pub stretch_of : Segment → Stretch
stretch_of segment = record { head = segment.offset; first = segment.first; entries = segment.entries }

-- the runs of records of a journal: those of its segments, and in a zeroed one a single run from its start
abbrev pub stretches_of : RollbackJournal → JournalState → List Stretch
stretches_of journal Live = map stretch_of journal.segments
stretches_of journal Zeroed = record { head = 0; first = 0; entries = length journal.entries } ∷ []
stretches_of journal _ = []

-- the bytes of a header of the journal; a zeroed one has none
abbrev pub head_len_of : JournalState → ℕ
head_len_of Live = 28
head_len_of _ = 0

-- what is kept of files of these lengths with this log and this journal
unfoldable pub table_of : ℕ → Lengths → Log → RollbackJournal → Table
table_of page_size lengths wal journal =
    kept page_size lengths (length wal.slots) (map frame_image wal.slots ++ map record_image journal.entries)
    (head_len_of journal.state) journal.sector (stretches_of journal journal.state)

-- image i holds the byte at a place, as its byte b
pub record Holds (table : Table) (i b : ℕ) (place : Place) : Type 0 where
  pub image : Image
  pub there : slice_get (images_of table) i ≡ Some image
  pub part : image.part ≡ place.part
  pub byte : place.offset ≡ image.offset + b
  pub within : b < table.page_size

-- the order of the files
abbrev pub part_number : Part → ℕ
part_number Database = 0
part_number Wal = 1
part_number Journal = 2

-- an image stands before another: in an earlier file, or in the same file and not into the other
abbrev pub IsBefore : ℕ → Image → Image → Type 0
IsBefore page_size first second =
    (part_number first.part < part_number second.part) ⊎ ((first.part ≡ second.part) × (first.offset + page_size ≤ second.offset))
