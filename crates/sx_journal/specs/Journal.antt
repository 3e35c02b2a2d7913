-- What a rollback journal holds ("Database File Format", section "The Rollback Journal").
use Rattle.std.specs.Prelude.{ℕ, if◌then◌else◌, nat_lt, List, [], length, Option, None, Some}
use Rattle.sx_journal.specs.declared.state.JournalState.{JournalState}
use Rattle.sx_journal.specs.declared.state.JournalState.TheVariants.{Absent, Short, Live, Zeroed, Alien}
use Rattle.sx_journal.specs.declared.segment.Segment.{Segment}
use Rattle.sx_journal.specs.declared.entry.Entry.{Entry}
use Rattle.sx_journal.specs.Header.{sector_at, initial_size_at, is_live, is_zeroed}
use Rattle.sx_journal.specs.Segments.{segments_of}
use Rattle.sx_journal.specs.Entries.{records_of, graded, unchecked}

-- its state, the first header's initial size and sector size, its segments, and the records of all of them
pub record Journal : Type 0 where
  pub state : JournalState
  pub initial_size : ℕ
  pub sector : ℕ
  pub segments : List Segment
  pub entries : List Entry

-- a journal without a header that counts
abbrev pub headless : JournalState → List Entry → Journal
headless state entries = record { state = state; initial_size = 0; sector = 512; segments = []; entries = entries }

-- a live journal
unfoldable pub live_journal : List ℕ → ℕ → Journal
live_journal bytes page_size =
    let sector = sector_at bytes 0 in
    let segments = segments_of bytes page_size sector in
    record {
      state = Live;
      initial_size = initial_size_at bytes 0;
      sector = sector;
      segments = segments;
      entries = graded bytes page_size (records_of page_size sector segments);
    }

-- the journal of a file, where there is one: its state is the first that applies
unfoldable pub journal_of : Option (List ℕ) → ℕ → Journal
journal_of None page_size = headless Absent []
journal_of (Some bytes) page_size =
    if nat_lt (length bytes) 28 then headless Short []
    else (if is_live bytes page_size then live_journal bytes page_size
    else (if is_zeroed bytes then headless Zeroed (unchecked bytes page_size)
    else headless Alien []))
