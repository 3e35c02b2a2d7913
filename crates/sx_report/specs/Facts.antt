-- What a report tells of a case, apart from where it lies in memory.
use Rattle.std.specs.Prelude.{ℕ, List, Option, string_bytes}
use Rattle.std.specs.Option.{option_map}
use Rattle.hex.specs.Hex.{encode_lower}
use Rattle.sha2.specs.Sha256.{sha256}
use Rattle.sx_journal.specs.declared.state.JournalState.{JournalState}
use Rattle.sx_wal.specs.declared.state.WalState.{WalState}
use Rattle.sx_report.specs.declared.facts.MomentFacts.{MomentFacts}
use Rattle.sx_report.specs.declared.facts.FileFacts.{FileFacts}
use Rattle.sx_report.specs.declared.facts.WalFacts.{WalFacts}
use Rattle.sx_report.specs.declared.facts.JournalFacts.{JournalFacts}
use Rattle.sx_report.specs.declared.facts.CaseFacts.{CaseFacts}

-- the digest of a file's bytes: their SHA-256, in hexadecimal
unfoldable pub digest_of : List ℕ → List ℕ
digest_of bytes = encode_lower (sha256 bytes)

-- a file: its length, and its digest
pub record File : Type 0 where
  pub bytes : ℕ
  pub sha256 : List ℕ

-- a write-ahead log: how many frames it has, and of each class how many
pub record Log : Type 0 where
  pub file : File
  pub state : WalState
  pub frames : ℕ
  pub committed : ℕ
  pub pending : ℕ
  pub foreign : ℕ
  pub broken : ℕ

-- a rollback journal: how many records it has, and how many good ones
pub record Journal : Type 0 where
  pub file : File
  pub state : JournalState
  pub records : ℕ
  pub good : ℕ

-- all of a case
pub record Facts : Type 0 where
  pub page_size : ℕ
  pub usable : ℕ
  pub database : File
  pub wal : Option Log
  pub journal : Option Journal
  pub moments : List MomentFacts
  pub candidates : ℕ

-- ---- facts as they were gathered

abbrev pub file_by : FileFacts → File
file_by facts = record { bytes = facts.bytes; sha256 = string_bytes facts.sha256 }

abbrev pub log_by : WalFacts → Log
log_by facts = record {
  file = file_by facts.file;
  state = facts.state;
  frames = facts.frames;
  committed = facts.committed;
  pending = facts.pending;
  foreign = facts.foreign;
  broken = facts.broken;
}

abbrev pub journal_by : JournalFacts → Journal
journal_by facts = record { file = file_by facts.file; state = facts.state; records = facts.records; good = facts.good }

abbrev pub facts_by : CaseFacts → Facts
facts_by facts = record {
  page_size = facts.page_size;
  usable = facts.usable;
  database = file_by facts.database;
  wal = option_map log_by facts.wal;
  journal = option_map journal_by facts.journal;
  moments = facts.moments.items;
  candidates = facts.candidates;
}
