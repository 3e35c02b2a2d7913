-- The physical place of each byte of a file ("Pages"; "WAL File Format"; "The Rollback Journal"). A file is a row of
-- things: pages, headers, page numbers, checksums, padding. A byte belongs to the thing that holds it, and where none does
-- it is loose.
use Rattle.std.specs.Prelude.{ℕ, ◌+◌, ◌-◌, ◌*◌, Bool, ◌&&◌, nat_le, nat_lt, if◌then◌else◌, List, [], ◌∷◌, ◌++◌, slice_get, Option, None, Some}
use Rattle.std.specs.List.{range_with_len, flat_map, count_by}
use Rattle.sx_base.specs.declared.evidence.Part.{Part}
use Rattle.sx_base.specs.declared.evidence.Part.TheVariants.{Database, Wal, Journal}
use Rattle.sx_base.specs.declared.evidence.Place.{Place}
use Rattle.sx_wal.specs.Frames.{frame_at}
use Rattle.sx_journal.specs.Segments.{record_len}
use Rattle.sx_images.specs.declared.physical.Physical.{Physical}
use Rattle.sx_images.specs.declared.physical.Physical.TheVariants.{Image, WalHeader, FrameHead, JournalHead, EntryHead, EntrySum, Pad, Loose}
use Rattle.sx_images.specs.declared.stretch.Stretch.{Stretch}
use Rattle.sx_images.specs.Images.{Table, pages_of, length_of}

-- some bytes of a file, and what each of them is by its offset among them
pub record Thing : Type 0 where
  pub start : ℕ
  pub len : ℕ
  pub byte : ℕ → Physical

abbrev pub thing : ℕ → ℕ → (ℕ → Physical) → Thing
thing start len byte = record { start = start; len = len; byte = byte }

-- the byte at an offset is one of the thing's
abbrev pub holds : ℕ → Thing → Bool
holds offset thing = nat_le thing.start offset && nat_lt offset (thing.start + thing.len)

-- the database file: its whole pages
abbrev pub page_things : ℕ → ℕ → List Thing
page_things page_size i = thing (i * page_size) page_size (λ b. Image i b) ∷ []

abbrev pub database_things : ℕ → ℕ → List Thing
database_things page_size pages = flat_map (page_things page_size) (range_with_len 0 pages)

-- the log: its header, where it has as many bytes, and the header and the page of each frame
abbrev pub header_things : ℕ → List Thing
header_things len = if nat_le 32 len then thing 0 32 (λ b. WalHeader b) ∷ [] else []

abbrev pub frame_things : ℕ → ℕ → ℕ → List Thing
frame_things page_size pages i =
    thing (frame_at page_size i) 24 (λ b. FrameHead i b) ∷ thing (frame_at page_size i + 24) page_size (λ b. Image (pages + i) b) ∷ []

abbrev pub log_things : ℕ → ℕ → ℕ → ℕ → List Thing
log_things page_size len pages frames =
    header_things len ++ flat_map (frame_things page_size pages) (range_with_len 0 frames)

-- record k of the journal: its page number, its page and its checksum
abbrev pub record_things : ℕ → ℕ → ℕ → ℕ → List Thing
record_things page_size images place k =
    thing place 4 (λ b. EntryHead k b)
    ∷ thing (place + 4) page_size (λ b. Image (images + k) b)
    ∷ thing (place + 4 + page_size) 4 (λ b. EntrySum k b)
    ∷ []

-- where the records of a run begin, and where they end
abbrev pub records_start : Table → Stretch → ℕ
records_start table run = run.head + table.sector

abbrev pub records_end : Table → Stretch → ℕ
records_end table run = records_start table run + run.entries * record_len table.page_size

-- record q of a run
abbrev pub run_record : Table → Stretch → ℕ → List Thing
run_record table run q =
    record_things table.page_size (pages_of table + table.frames) (records_start table run + q * record_len table.page_size) (run.first + q)

-- run i: its header, the rest of the header's sector, its records
abbrev pub run_things : Table → ℕ → Stretch → List Thing
run_things table i run =
    thing run.head table.head_len (λ b. JournalHead i b)
    ∷ thing (run.head + table.head_len) (table.sector - table.head_len) (λ _. Pad)
    ∷ flat_map (run_record table run) (range_with_len 0 run.entries)

-- what stands between the records of a run and the next header, where there is one
abbrev pub gap_things : Table → Stretch → Option Stretch → List Thing
gap_things table run None = []
gap_things table run (Some next) = thing (records_end table run) (next.head - records_end table run) (λ _. Pad) ∷ []

-- the journal: its runs from number i on
abbrev pub runs_things : Table → ℕ → List Stretch → List Thing
runs_things table i [] = []
runs_things table i (run ∷ rest) = run_things table i run ++ gap_things table run (slice_get rest 0) ++ runs_things table (i + 1) rest

-- the things of a file
abbrev pub things_of : Table → Part → List Thing
things_of table Database = database_things table.page_size (pages_of table)
things_of table Wal = log_things table.page_size (length_of table.lengths Wal) (pages_of table) table.frames
things_of table Journal = runs_things table 0 table.stretches

-- what the first thing says that holds the byte
abbrev pub found : List Thing → ℕ → Option Physical
found [] offset = None
found (thing ∷ things) offset = if holds offset thing then Some (thing.byte (offset - thing.start)) else found things offset

abbrev pub or_loose : Option Physical → Physical
or_loose None = Loose
or_loose (Some physical) = physical

-- what the byte at an offset is, among the things of its file
unfoldable pub place_among : List Thing → ℕ → Physical
place_among things offset = or_loose (found things offset)

-- how many things hold the byte
unfoldable pub holders : List Thing → ℕ → ℕ
holders things offset = count_by (holds offset) things

-- the physical place of a byte, where its file has it
unfoldable pub physical_of : Table → Place → Option Physical
physical_of table place =
    if nat_lt place.offset (length_of table.lengths place.part) then Some (place_among (things_of table place.part) place.offset) else None
