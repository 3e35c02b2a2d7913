-- Which views are uncertain: a checkpoint may have written a later frame over the page of the file ("Checkpointing").
use Rattle.std.specs.Prelude.{ℕ, Bool, true, false, ◌&&◌, nat_le, List, length, filter, Option, Some}
use Rattle.std.specs.List.{list_any, range_with_len}
use Rattle.std.specs.Str.{bytes_eq}
use Rattle.sx_base.specs.declared.moment.Moment.{Moment}
use Rattle.sx_base.specs.declared.moment.Class.{Class}
use Rattle.sx_base.specs.declared.moment.Class.TheVariants.{Committed}
use Rattle.sx_chain.specs.Newest.{has_number}
use Rattle.sx_moment.specs.Gathered.{Gathered, slot_at, size_at, limit_at}
use Rattle.sx_moment.specs.Views.{slot_pages, origin_of, bytes_of}
use Rattle.sx_moment.specs.declared.origin.Origin.{Origin}
use Rattle.sx_moment.specs.declared.origin.Origin.TheVariants.{Database, Slot}

-- the class is Committed
abbrev pub is_committed : Class → Bool
is_committed Committed = true
is_committed _ = false

-- slot i is Committed, holds the page, and has the same bytes as the page of the file
unfoldable pub is_same : Gathered → ℕ → ℕ → Bool
is_same case number i =
    is_committed (slot_at case i).class
    && has_number (slot_pages case) number i
    && bytes_eq (bytes_of case number (Slot i)) (bytes_of case number Database)

-- the view is the page of the file
abbrev pub is_database : Option Origin → Bool
is_database (Some Database) = true
is_database _ = false

-- The page's view is the page of the file, and some Committed slot that the moment doesn't see has that page and the
-- same bytes.
unfoldable pub is_uncertain : Gathered → Moment → ℕ → Bool
is_uncertain case moment number =
    is_database (origin_of case moment number)
    && list_any (λ i. nat_le (limit_at case moment) i && is_same case number i) (range_with_len 0 (length case.wal.slots))

-- all uncertain pages of a moment, in rising order
unfoldable pub uncertain_pages : Gathered → Moment → List ℕ
uncertain_pages case moment = filter (is_uncertain case moment) (range_with_len 1 (size_at case moment))
