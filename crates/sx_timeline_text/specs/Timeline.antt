-- What `timeline` prints: the database, its write-ahead log, its journal, and a line for each moment.
use Rattle.std.specs.Prelude.{ℕ, Bool, true, false, List, ◌∷◌, ◌++◌, map, length, count_by, codes}
use Rattle.std.specs.Fmt.{decimal}
use Rattle.sx_base.specs.Held.{held_pages}
use Rattle.sx_base.specs.declared.moment.Class.{Class}
use Rattle.sx_base.specs.declared.moment.Class.TheVariants as classes
use Rattle.sx_base.specs.declared.moment.Moment.{Moment}
use Rattle.sx_base.specs.declared.moment.Moment.TheVariants as moments
use Rattle.sx_journal.specs.Entries.{good_count}
use Rattle.sx_journal.specs.Journal.{Journal}
use Rattle.sx_lines.specs.Names.{moment_word, wal_state_name, journal_state_name}
use Rattle.sx_moment.specs.Gathered.{Gathered, page_count, size_at, commit_at, moments_of}
use Rattle.sx_moment.specs.Marks.{uncertain_pages}
use Rattle.sx_moment.specs.Views.{view_of}
use Rattle.sx_wal.specs.Wal.{Wal}
use Rattle.sx_wal.specs.declared.slot.Slot.{Slot}

-- the first line: the page size and the usable size in bytes, and the whole pages of the file
unfoldable pub database_line : Gathered → List ℕ
database_line case =
    codes "database pagesize "
    ++ decimal case.header.page_size
    ++ codes " usable "
    ++ decimal case.header.usable
    ++ codes " pages "
    ++ decimal (page_count case)

-- the four classes of a slot
abbrev pub is_committed : Class → Bool
is_committed classes.Committed = true
is_committed _ = false

abbrev pub is_pending : Class → Bool
is_pending classes.Pending = true
is_pending _ = false

abbrev pub is_foreign : Class → Bool
is_foreign classes.Foreign = true
is_foreign _ = false

abbrev pub is_broken : Class → Bool
is_broken classes.Broken = true
is_broken _ = false

-- how many slots have a class
abbrev pub count_of : (Class → Bool) → List Slot → ℕ
count_of is_class slots = count_by (λ slot. is_class slot.class) slots

-- the line of a write-ahead log: its state, and how many frames it has, in all and of each class
unfoldable pub log_text : List ℕ → ℕ → ℕ → ℕ → ℕ → ℕ → List ℕ
log_text state frames committed pending foreign broken =
    codes "wal "
    ++ state
    ++ codes " frames "
    ++ decimal frames
    ++ codes " committed "
    ++ decimal committed
    ++ codes " pending "
    ++ decimal pending
    ++ codes " foreign "
    ++ decimal foreign
    ++ codes " broken "
    ++ decimal broken

-- the second line
unfoldable pub wal_line : Wal → List ℕ
wal_line wal =
    log_text (wal_state_name wal.state) (length wal.slots)
    (count_of is_committed wal.slots)
    (count_of is_pending wal.slots)
    (count_of is_foreign wal.slots)
    (count_of is_broken wal.slots)

-- the third line: the state of the journal, and how many records it has, in all and good ones
unfoldable pub journal_line : Journal → List ℕ
journal_line journal =
    codes "journal "
    ++ journal_state_name journal.state
    ++ codes " records "
    ++ decimal (length journal.entries)
    ++ codes " good "
    ++ decimal (good_count journal.entries)

-- the moment, and the frame that ends it where it is a commit
unfoldable pub moment_name : Gathered → Moment → List ℕ
moment_name case moments.Journal = moment_word moments.Journal
moment_name case moments.File = moment_word moments.File
moment_name case (moments.Commit k) = moment_word (moments.Commit k) ++ codes " frame " ++ decimal (commit_at case k)

-- how many pages a moment claims, how many of them have a view, and how many of these are uncertain
unfoldable pub moment_counts : Gathered → Moment → List ℕ
moment_counts case moment =
    codes " pages "
    ++ decimal (size_at case moment)
    ++ codes " held "
    ++ decimal (length (held_pages (size_at case moment) (view_of case moment)))
    ++ codes " uncertain "
    ++ decimal (length (uncertain_pages case moment))

-- the line of a moment
abbrev pub moment_line : Gathered → Moment → List ℕ
moment_line case moment = moment_name case moment ++ moment_counts case moment

-- all lines: the three files, and each moment in order
abbrev pub timeline_lines : Gathered → List (List ℕ)
timeline_lines case =
    database_line case ∷ wal_line case.wal ∷ journal_line case.journal ∷ map (moment_line case) (moments_of case)
