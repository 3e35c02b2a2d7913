-- The words of the parts of the evidence, of moments, and of the classes and states that its readers tell.
use Rattle.std.specs.Prelude.{ℕ, List, codes}
use Rattle.std.specs.Fmt.{decimal}
use Rattle.sx_base.specs.declared.evidence.Part.{Part}
use Rattle.sx_base.specs.declared.evidence.Part.TheVariants as parts
use Rattle.sx_base.specs.declared.moment.Class.{Class}
use Rattle.sx_base.specs.declared.moment.Class.TheVariants as classes
use Rattle.sx_base.specs.declared.moment.Moment.{Moment}
use Rattle.sx_base.specs.declared.moment.Moment.TheVariants as moments
use Rattle.sx_journal.specs.declared.state.JournalState.{JournalState}
use Rattle.sx_journal.specs.declared.state.JournalState.TheVariants as journals
use Rattle.sx_wal.specs.declared.state.WalState.{WalState}
use Rattle.sx_wal.specs.declared.state.WalState.TheVariants as logs

-- a part's name
abbrev pub part_name : Part → List ℕ
part_name parts.Database = codes "database"
part_name parts.Wal = codes "wal"
part_name parts.Journal = codes "journal"

-- a moment's word
abbrev pub moment_word : Moment → List ℕ
moment_word moments.Journal = codes "journal"
moment_word moments.File = codes "0"
moment_word (moments.Commit k) = decimal k

-- the name of a class of page images
abbrev pub class_name : Class → List ℕ
class_name classes.File = codes "file"
class_name classes.Committed = codes "committed"
class_name classes.Pending = codes "pending"
class_name classes.Foreign = codes "foreign"
class_name classes.Broken = codes "broken"
class_name classes.Good = codes "good"
class_name classes.Bad = codes "bad"
class_name classes.After = codes "after"
class_name classes.Unchecked = codes "unchecked"

-- the name of a write-ahead log's state
abbrev pub wal_state_name : WalState → List ℕ
wal_state_name logs.Absent = codes "absent"
wal_state_name logs.Short = codes "short"
wal_state_name logs.BadMagic = codes "badmagic"
wal_state_name logs.BadVersion = codes "badversion"
wal_state_name logs.BadPageSize = codes "badpagesize"
wal_state_name logs.OtherPageSize = codes "otherpagesize"
wal_state_name logs.BadHeaderSum = codes "badheadersum"
wal_state_name logs.Good = codes "good"

-- the name of a rollback journal's state
abbrev pub journal_state_name : JournalState → List ℕ
journal_state_name journals.Absent = codes "absent"
journal_state_name journals.Short = codes "short"
journal_state_name journals.Live = codes "live"
journal_state_name journals.Zeroed = codes "zeroed"
journal_state_name journals.Alien = codes "alien"
