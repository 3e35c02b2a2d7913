-- What is known of the three files: how a log and a journal were read, and how their images lie.
use Rattle.std.specs.Prelude.{◌≡◌, ℕ, ◌+◌, ◌*◌, ◌<◌, ◌≤◌, ◌^◌, List, [], ◌∷◌, length, map, drop, slice_get, Option, Some}
use Rattle.std.specs.List.{range_with_len, flat_map}
use Rattle.std.specs.Option.{option_map}
use Rattle.sx_base.specs.declared.evidence.Part.TheVariants.{Wal, Journal}
use Rattle.sx_wal.specs.Wal.{Wal as Log, wal_of}
use Rattle.sx_wal.specs.Frames.{frame_at}
use Rattle.sx_journal.specs.Journal.{Journal as RollbackJournal, journal_of}
use Rattle.sx_journal.specs.Segments.{record_len}
use Rattle.sx_images.specs.declared.image.Image.{Image}
use Rattle.sx_images.specs.declared.lengths.Lengths.{Lengths}
use Rattle.sx_images.specs.declared.stretch.Stretch.{Stretch}
use Rattle.sx_images.specs.Images.{Table, pages_of, length_of}
use Rattle.sx_images.specs.Places.{records_start, records_end}

-- each file has fewer than 2^32 bytes
pub record AreSmall (lengths : Lengths) : Type 0 where
  pub database : lengths.database < 2 ^ 32
  pub wal : length_of lengths Wal < 2 ^ 32
  pub journal : length_of lengths Journal < 2 ^ 32

-- a log was read from a file of this length, or from none
pub record IsLogOf (page_size : ℕ) (len : Option ℕ) (wal : Log) : Type 0 where
  pub bytes : Option (List ℕ)
  pub long : option_map length bytes ≡ len
  pub read : wal ≡ wal_of bytes page_size

-- a journal was read from a file of this length, or from none
pub record IsJournalOf (page_size : ℕ) (len : Option ℕ) (journal : RollbackJournal) : Type 0 where
  pub bytes : Option (List ℕ)
  pub long : option_map length bytes ≡ len
  pub read : journal ≡ journal_of bytes page_size

-- the runs stand one behind the other from a place on, and count their records from a number on
abbrev pub Follow : Table → ℕ → ℕ → List Stretch → Type 0
Follow table least first [] = Unit {0}
Follow table least first (run ∷ rest) =
    (least ≤ run.head) × (run.first ≡ first) × Follow table (records_end table run) (first + run.entries) rest

-- where the pages of the records of a run begin
abbrev pub run_offsets : Table → Stretch → List ℕ
run_offsets table run = map (λ q. records_start table run + q * record_len table.page_size + 4) (range_with_len 0 run.entries)

-- the images of the frames and of the records stand where their files have them, and lie in these
pub record IsTable (table : Table) : Type 0 where
  pub some : 0 < table.page_size
  pub least : table.page_size ≤ 65536
  pub small : AreSmall table.lengths
  pub few : pages_of table + length table.stored < 2 ^ 32
  pub fewer : table.frames ≤ length table.stored
  pub frames : (i : ℕ) (image : Image) → i < table.frames → slice_get table.stored i ≡ Some image
      → (image.part ≡ Wal) × (image.offset ≡ frame_at table.page_size i + 24) × (image.offset + table.page_size ≤ length_of table.lengths Wal)
  pub records : (i : ℕ) (image : Image) → slice_get table.stored (table.frames + i) ≡ Some image
      → (image.part ≡ Journal) × (image.offset + table.page_size ≤ length_of table.lengths Journal)
  pub offsets : map (λ image. image.offset) (drop table.frames table.stored) ≡ flat_map (run_offsets table) table.stretches
  pub sector : table.head_len ≤ table.sector
  pub sectors : table.sector < 2 ^ 32
  pub runs : length table.stretches < 2 ^ 32
  pub follow : Follow table 0 0 table.stretches
