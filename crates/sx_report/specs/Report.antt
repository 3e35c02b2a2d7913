-- The text of a report: a JSON object (RFC 8259) without white space, its members in the order of their names.
use Rattle.std.specs.Prelude.{ℕ, List, map, codes, Option, None, Some}
use Rattle.serde_json.specs.Data.{Data, null, number, unsigned, string, array, object, member, no_members}
use Rattle.serde_json.specs.View.{items_of}
use Rattle.serde_json.specs.Written.{compact_text}
use Rattle.sx_lines.specs.Names.{moment_word, wal_state_name, journal_state_name}
use Rattle.sx_report.specs.declared.facts.MomentFacts.{MomentFacts}
use Rattle.sx_report.specs.Facts.{File, Log, Journal, Facts}

-- a count
abbrev pub count : ℕ → Data
count n = number (unsigned n)

-- a file
abbrev pub file_data : File → Data
file_data file =
    object
    (member (codes "bytes") (count file.bytes)
    (member (codes "sha256") (string file.sha256) no_members))

-- a moment, by its word
abbrev pub moment_data : MomentFacts → Data
moment_data facts =
    object
    (member (codes "at") (string (moment_word facts.at))
    (member (codes "dead") (count facts.dead)
    (member (codes "fault") (count facts.fault)
    (member (codes "held") (count facts.held)
    (member (codes "owned") (count facts.owned)
    (member (codes "pages") (count facts.pages)
    (member (codes "slack") (count facts.slack)
    (member (codes "uncertain") (count facts.uncertain) no_members))))))))

-- a write-ahead log; `null` without one
abbrev pub wal_data : Option Log → Data
wal_data None = null
wal_data (Some log) =
    object
    (member (codes "broken") (count log.broken)
    (member (codes "bytes") (count log.file.bytes)
    (member (codes "committed") (count log.committed)
    (member (codes "foreign") (count log.foreign)
    (member (codes "frames") (count log.frames)
    (member (codes "pending") (count log.pending)
    (member (codes "sha256") (string log.file.sha256)
    (member (codes "state") (string (wal_state_name log.state)) no_members))))))))

-- a rollback journal; `null` without one
abbrev pub journal_data : Option Journal → Data
journal_data None = null
journal_data (Some journal) =
    object
    (member (codes "bytes") (count journal.file.bytes)
    (member (codes "good") (count journal.good)
    (member (codes "records") (count journal.records)
    (member (codes "sha256") (string journal.file.sha256)
    (member (codes "state") (string (journal_state_name journal.state)) no_members)))))

-- the moments, in order
abbrev pub moments_data : List MomentFacts → Data
moments_data moments = array (items_of (map moment_data moments))

-- all of a case
abbrev pub report_data : Facts → Data
report_data facts =
    object
    (member (codes "candidates") (count facts.candidates)
    (member (codes "database") (file_data facts.database)
    (member (codes "journal") (journal_data facts.journal)
    (member (codes "moments") (moments_data facts.moments)
    (member (codes "pagesize") (count facts.page_size)
    (member (codes "usable") (count facts.usable)
    (member (codes "wal") (wal_data facts.wal) no_members)))))))

-- the text
unfoldable pub report_text : Facts → List ℕ
report_text facts = compact_text (report_data facts)
