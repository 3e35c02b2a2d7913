-- The images that a case knows of each page: the first in the log, the first in the journal, and those that a moment sees.
use Rattle.std.specs.Prelude.{ℕ, ◌<◌, ◌≤◌, ◌==◌, Bool, not, ◌&&◌, nat_lt, nat_le, min, if◌then◌else◌, List, length, Option, None, is_none}
use Rattle.std.specs.List.{list_any, range_with_len}
use Rattle.sx_base.specs.Places.{first_place}
use Rattle.sx_base.specs.declared.moment.Moment.{Moment}
use Rattle.sx_base.specs.declared.moment.Moment.TheVariants.{Journal as JournalMoment}
use Rattle.sx_chain.specs.Newest.{has_number}
use Rattle.sx_moment.specs.Gathered.{Gathered, page_count, size_at, limit_at}
use Rattle.sx_moment.specs.Views.{slot_pages, is_good_record, lock_in, image_at}
use Rattle.sx_moment.specs.Marks.{is_same}
use Rattle.sx_moment.specs.Firsts.{file_pages}
use Rattle.sx_moment.specs.declared.origin.Origin.{Origin}
use Rattle.sx_moment.specs.declared.origin.Origin.TheVariants.{Database, Slot, Record}
use Rattle.sx_moment.specs.declared.first_image.FirstImage.{FirstImage}

-- a page past the end of the file that can have a view
abbrev pub is_past : ℕ → ℕ → ℕ → Bool
is_past lock count number = nat_lt count number && not (number == lock)

-- a whole page of the file that can have a view
abbrev pub is_in_file : ℕ → ℕ → ℕ → Bool
is_in_file lock count number = nat_lt 0 number && nat_le number count && not (number == lock)

-- the first slot of a page, whatever its class
abbrev pub first_slot : Gathered → ℕ → Option ℕ
first_slot case number = first_place (has_number (slot_pages case) number) (length case.wal.slots)

-- the first Good record of a page
abbrev pub first_record : Gathered → ℕ → Option ℕ
first_record case number = first_place (is_good_record case number) (length case.journal.entries)

-- the page past the end of the file, with its first image
abbrev pub past_only : Gathered → (ℕ → Option ℕ) → ℕ → Option ℕ
past_only case first number = if is_past (lock_in case) (page_count case) number then first number else None

-- some Committed slot has the bytes of the file's page
abbrev pub is_marked : Gathered → ℕ → Bool
is_marked case number =
    is_in_file (lock_in case) (page_count case) number && list_any (is_same case number) (range_with_len 0 (length case.wal.slots))

-- the pages that some Committed slot equals, with the first slot of each
abbrev pub marked_only : Gathered → ℕ → Option ℕ
marked_only case number = if is_marked case number then first_slot case number else None

-- the first image of a page at a moment: the first Good record, or the first slot
abbrev pub first_at : Gathered → Moment → ℕ → Option ℕ
first_at case JournalMoment number = first_record case number
first_at case moment number = first_slot case number

-- how many of the images a moment may see: all records, or the slots up to it
abbrev pub bound_at : Gathered → Moment → ℕ
bound_at case JournalMoment = length case.journal.entries
bound_at case moment = limit_at case moment

-- the page has no image at the moment, and so its view is the page of the file, if it has one
abbrev pub has_no_image : Gathered → Moment → ℕ → Bool
has_no_image case moment number = is_none (image_at case moment number)

-- where an origin can be: at a whole page of the file, or at a slot or a record that is there
abbrev pub Stands : Gathered → ℕ → Origin → Type 0
Stands case number Database = (1 ≤ number) × (number ≤ page_count case)
Stands case number (Slot i) = i < length case.wal.slots
Stands case number (Record i) = i < length case.journal.entries

-- a page of the list of marks has no image at the moment
abbrev pub is_bare : Gathered → Moment → FirstImage → Bool
is_bare case moment image = has_no_image case moment image.page

-- the pages of the file that have a view at a moment
abbrev pub file_pages_at : Gathered → Moment → List ℕ
file_pages_at case moment = file_pages (lock_in case) (min (size_at case moment) (page_count case))
