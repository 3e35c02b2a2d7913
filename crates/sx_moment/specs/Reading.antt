-- Evidence that was read from its files.
use Rattle.std.specs.Prelude.{◌≡◌, ℕ, ◌+◌, ◌^◌, ◌<◌, ◌≤◌, slice_index, List, length, Option}
use Rattle.std.specs.List.Sorted.{IsStrictlyIncreasing}
use Rattle.sx_header.specs.Header.{HasRanges}
use Rattle.sx_header.specs.declared.header.Header.{Header}
use Rattle.sx_wal.specs.Wal.{Wal, wal_of}
use Rattle.sx_journal.specs.Journal.{Journal, journal_of}
use Rattle.sx_moment.specs.Gathered.{Gathered, bytes_in, slot_at, record_at}
use Rattle.sx_moment.specs.Limits.{IsSmall}

-- the evidence is what the bytes were read as: its numbers are in range, and each image lies in its file
pub record IsGathered (case : Gathered) : Type 0 where
  pub ranges : HasRanges case.header
  pub slots : (i : ℕ) → i < length case.wal.slots → (slot_at case i).offset + case.header.page_size ≤ length (bytes_in case.wal_bytes)
  pub records : (i : ℕ) → i < length case.journal.entries → (record_at case i).offset + case.header.page_size ≤ length (bytes_in case.journal_bytes)
  pub small : IsSmall case.database case.wal_bytes case.journal_bytes
  pub few_slots : length case.wal.slots < 2 ^ 31
  pub few_commits : length case.wal.commits ≤ length case.wal.slots
  pub commits : (k : ℕ) → k < length case.wal.commits → slice_index case.wal.commits k < length case.wal.slots
  pub rising : IsStrictlyIncreasing case.wal.commits
  pub wal_is : case.wal ≡ wal_of case.wal_bytes case.header.page_size
  pub journal_is : case.journal ≡ journal_of case.journal_bytes case.header.page_size

-- the evidence of these files, read as these
abbrev pub gathered_by : Header → List ℕ → Option (List ℕ) → Option (List ℕ) → Wal → Journal → Gathered
gathered_by header database wal_bytes journal_bytes wal journal = record {
  header = header;
  database = database;
  wal_bytes = wal_bytes;
  journal_bytes = journal_bytes;
  wal = wal;
  journal = journal;
}
