-- A live journal, put together from its parts.
use Rattle.std.proofs.Common.{◌≡◌, ℕ, ◌≤◌, ◌<◌, ◌==◌, ◌&&◌, true, nat_le, List, [], refl, ◌∙◌, arith, leb-true}
use Rattle.std.specs.Int.{is_power_of_two}
use Rattle.std.proofs.lemmas.Bool.{and_parts}
use Rattle.sx_journal.specs.declared.segment.Segment.{Segment}
use Rattle.sx_journal.specs.declared.entry.Entry.{Entry}
use Rattle.sx_journal.specs.declared.state.JournalState.TheVariants.{Live}
use Rattle.sx_journal.specs.Header.{has_header, initial_size_at, sector_at, page_size_at, is_sector_size, is_live}
use Rattle.sx_journal.specs.Segments.{segments_of}
use Rattle.sx_journal.specs.Entries.{records_of}
use Rattle.sx_journal.specs.Grading.{with_records}
use Rattle.sx_journal.specs.Journal.{live_journal}
use Rattle.sx_journal.proofs.Grades.{with_records-graded}

sector_some : (size : ℕ) → is_sector_size size ≡ true → 32 ≤ size
unfolding is_sector_size
sector_some size is =
    let lower = (and_parts (is_power_of_two size && nat_le 32 size) (nat_le size 65536) is).0 in
    leb-true 32 size (and_parts (is_power_of_two size) (nat_le 32 size) lower).1

-- the sector size of a live journal isn't 0
pub live_sector : (bytes : List ℕ) (page_size sector : ℕ) → is_live bytes page_size ≡ true → sector ≡ sector_at bytes 0 → 0 < sector
unfolding is_live
live_sector bytes page_size sector live is =
    let parts = and_parts (has_header bytes 0 && (page_size_at bytes 0 == page_size)) (is_sector_size (sector_at bytes 0)) live in
    let least : 32 ≤ sector = rw is (sector_some (sector_at bytes 0) parts.1) in
    omega arith

pub live_parts : (bytes : List ℕ) (page_size initial sector : ℕ) (segments : List Segment) (entries : List Entry)
    → initial ≡ initial_size_at bytes 0 → sector ≡ sector_at bytes 0 → segments ≡ segments_of bytes page_size sector
    → entries ≡ with_records bytes page_size [] (records_of page_size sector segments)
    → (record { state = Live; initial_size = initial; sector = sector; segments = segments; entries = entries }) ≡ live_journal bytes page_size
unfolding live_journal
live_parts bytes page_size initial sector segments entries size at_sector list read =
    let graded_ones = read ∙ with_records-graded bytes page_size (records_of page_size sector segments) in
    rw (graded_ones, list, size, at_sector) refl
