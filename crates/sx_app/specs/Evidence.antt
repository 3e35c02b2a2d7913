-- The evidence that the words name: a database, and the two files that may stand beside it.
use Rattle.std.specs.Prelude.{ℕ, nat_lt, if◌then◌else◌, List, ◌++◌, length, codes, Option, None, Some, Result, Ok, Err}
use Rattle.sx_base.specs.Files.{Files, file_named}
use Rattle.sx_base.specs.declared.evidence.Part.{Part}
use Rattle.sx_base.specs.declared.evidence.Part.TheVariants.{Database, Wal, Journal}
use Rattle.sx_edge.specs.declared.whole_file.TheConstants.{GREATEST_FILE}
use Rattle.sx_header.specs.Header.{header_of}
use Rattle.sx_header.specs.declared.header.Header.{Header}
use Rattle.sx_header.specs.declared.header.HeaderFault.{HeaderFault}
use Rattle.sx_moment.specs.Gathered.{Gathered, gathered}
use Rattle.sx_app.specs.declared.refused.Refused.{Refused}
use Rattle.sx_app.specs.declared.refused.Refused.TheVariants.{NoDatabase, BadHeader, TooLarge}

-- one step, and the next where it didn't refuse
infixl 10 ◌>>=◌
abbrev pub ◌>>=◌ : {A B : Type 0} → Result A Refused → (A → Result B Refused) → Result B Refused
(Ok x) >>= next = next x
(Err refused) >>= next = Err refused

-- a database with an accepted header
pub record Opened : Type 0 where
  pub header : Header
  pub bytes : List ℕ

-- the files that may lie beside a database
pub record Companions : Type 0 where
  pub wal : Option (List ℕ)
  pub journal : Option (List ℕ)

-- a database with what lies beside it
pub record Evidence : Type 0 where
  pub database : Opened
  pub wal : Option (List ℕ)
  pub journal : Option (List ℕ)

-- a file's bytes, of which there are at most 2 ^ 30
abbrev pub within_limit : Part → List ℕ → Result (List ℕ) Refused
within_limit part bytes = if nat_lt GREATEST_FILE (length bytes) then Err (TooLarge part) else Ok bytes

-- the database's bytes
unfoldable pub database_in : Option (List ℕ) → Result (List ℕ) Refused
database_in None = Err NoDatabase
database_in (Some bytes) = within_limit Database bytes

-- a database's bytes with the header that they begin with, where that is accepted
abbrev pub headed : List ℕ → Result Header HeaderFault → Result Opened Refused
headed bytes (Ok header) = Ok (record { header = header; bytes = bytes })
headed bytes (Err fault) = Err (BadHeader fault)

-- the database, opened
unfoldable pub database_of : Files → List ℕ → Result Opened Refused
database_of files db = database_in (file_named files db) >>= λ bytes. headed bytes (header_of bytes)

-- the names of the files that may stand beside a database
abbrev pub wal_name : List ℕ → List ℕ
wal_name db = db ++ codes "-wal"

abbrev pub journal_name : List ℕ → List ℕ
journal_name db = db ++ codes "-journal"

-- the bytes of a file beside the database, where there is one
unfoldable pub companion_in : Part → Option (List ℕ) → Result (Option (List ℕ)) Refused
companion_in part None = Ok None
companion_in part (Some bytes) = within_limit part bytes >>= λ whole. Ok (Some whole)

-- the write-ahead log and the journal, each where there is one
unfoldable pub companions_of : Files → List ℕ → Result Companions Refused
companions_of files db =
    companion_in Wal (file_named files (wal_name db))
    >>= λ wal. companion_in Journal (file_named files (journal_name db))
    >>= λ journal. Ok (record { wal = wal; journal = journal })

-- the evidence of a database's name
unfoldable pub evidence_of : Files → List ℕ → Result Evidence Refused
evidence_of files db =
    database_of files db
    >>= λ database. companions_of files db
    >>= λ beside. Ok (record { database = database; wal = beside.wal; journal = beside.journal })

-- the evidence with its moments
abbrev pub case_of : Evidence → Gathered
case_of evidence = gathered evidence.database.header evidence.database.bytes evidence.wal evidence.journal
