-- The images are those of the case's files.
use Rattle.std.proofs.Common.{◌≡◌, ℕ, List, length, Option, None, Some, Result, Ok, Err, refl, ap, ◌∙◌}
use Rattle.std.specs.Prelude.{IfOk}
use Rattle.std.specs.Option.{option_map}
use Rattle.sx_base.specs.declared.evidence.Part.TheVariants.{Database, Wal, Journal}
use Rattle.sx_carve.specs.Evidence.{evidence_bytes, AreOf}
use Rattle.sx_images.specs.Images.{Table, length_of, or_none, table_of}
use Rattle.sx_images.specs.declared.lengths.Lengths.{Lengths}
use Rattle.sx_journal.specs.Journal.{Journal as RollbackJournal}
use Rattle.sx_moment.specs.Gathered.{Gathered, bytes_in}
use Rattle.sx_wal.specs.Wal.{Wal as Log}
use Rattle.sx_plain.specs.Lengths.{lengths_in}

file_length : (file : Option (List ℕ)) → or_none (option_map length file) ≡ length (bytes_in file)
file_length None = refl
file_length (Some bytes) = refl

lengths_are : (page_size : ℕ) (lengths : Lengths) (wal : Log) (journal : RollbackJournal) → (table_of page_size lengths wal journal).lengths ≡ lengths
unfolding table_of
lengths_are page_size lengths wal journal = refl

size_is : (page_size : ℕ) (lengths : Lengths) (wal : Log) (journal : RollbackJournal) → (table_of page_size lengths wal journal).page_size ≡ page_size
unfolding table_of
size_is page_size lengths wal journal = refl

are_of : (case : Gathered) (images : Table) → images.lengths ≡ lengths_in case → AreOf (evidence_bytes case.database case.wal_bytes case.journal_bytes) images
are_of case images is = record {
  database = ap (λ l. length_of l Database) is;
  wal = ap (λ l. length_of l Wal) is ∙ file_length case.wal_bytes;
  journal = ap (λ l. length_of l Journal) is ∙ file_length case.journal_bytes;
}

pub all_of : {E : Type 0} (case : Gathered) (page_size : ℕ) (lengths : Lengths) (wal : Log) (journal : RollbackJournal) (r : Result Table E) → lengths ≡ lengths_in case
    → IfOk r (λ images. images ≡ table_of page_size lengths wal journal) → IfOk r (λ images. AreOf (evidence_bytes case.database case.wal_bytes case.journal_bytes) images)
all_of case page_size lengths wal journal (Ok images) long is =
    are_of case images (ap (λ (t : Table). t.lengths) is ∙ lengths_are page_size lengths wal journal ∙ long)
all_of case page_size lengths wal journal (Err refused) long is = tt

pub all_sized : {E : Type 0} (case : Gathered) (page_size : ℕ) (lengths : Lengths) (wal : Log) (journal : RollbackJournal) (r : Result Table E) → page_size ≡ case.header.page_size
    → IfOk r (λ images. images ≡ table_of page_size lengths wal journal) → IfOk r (λ images. images.page_size ≡ case.header.page_size)
all_sized case page_size lengths wal journal (Ok images) size is =
    ap (λ (t : Table). t.page_size) is ∙ size_is page_size lengths wal journal ∙ size
all_sized case page_size lengths wal journal (Err refused) size is = tt
