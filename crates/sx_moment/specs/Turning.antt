-- From one moment to the next: which images come, and which pages turn by them.
use Rattle.std.specs.Prelude.{ℕ, ◌≡◌, ◌≢◌, ◌-◌, ◌<◌, ◌⊎◌, Bool, true, false, ◌&&◌, nat_le, nat_lt, List, length, is_some, slice_index, slice_index_or, Option, Some, None}
use Rattle.std.specs.Option.{option_map, option_or}
use Rattle.std.specs.List.{list_any, range_with_len}
use Rattle.sx_base.specs.declared.moment.Moment.{Moment}
use Rattle.sx_base.specs.declared.moment.Moment.TheVariants.{Journal, File, Commit}
use Rattle.sx_base.specs.Places.{last_place}
use Rattle.sx_chain.specs.Newest.{has_number}
use Rattle.sx_moment.specs.Gathered.{Gathered}
use Rattle.sx_moment.specs.Views.{slot_pages, image_at, file_page, origin_of}
use Rattle.sx_moment.specs.Turns.{moment_before, slots_of}
use Rattle.sx_moment.specs.declared.origin.Origin.{Origin}
use Rattle.sx_moment.specs.declared.origin.Origin.TheVariants.{Slot, Record}

-- where the image of a page stands that a moment has, whether or not the page lies within its size
abbrev pub base_of : Gathered → Moment → ℕ → Option Origin
base_of case moment number = option_or (image_at case moment number) (file_page case number)

-- by rank where the image of each page stands
pub record AreOrigins (origin : ℕ → Option Origin) (numbers : List ℕ) (origins : List (Option Origin)) : Type 0 where
  pub long : length origins ≡ length numbers
  pub each : (rank : ℕ) → rank < length numbers → slice_index_or origins rank None ≡ origin (slice_index numbers rank)

-- the image of a page once so many slots are seen: the last of them that holds it, else the page of the file
abbrev pub slot_base : Gathered → ℕ → ℕ → Option Origin
slot_base case limit number = option_or (option_map Slot (last_place (has_number (slot_pages case) number) limit)) (file_page case number)

-- some of these slots holds the page
abbrev pub slots_hold : Gathered → ℕ → ℕ → ℕ → Bool
slots_hold case from end number = list_any (has_number (slot_pages case) number) (range_with_len from (end - from))

-- an image that is a record
abbrev pub is_record : Option Origin → Bool
is_record (Some (Record i)) = true
is_record _ = false

-- the page has another image at a moment than at the one before: a slot of the commit holds it; at the file's moment, it had
-- a record
abbrev pub is_turned : Gathered → Moment → ℕ → Bool
is_turned case (Commit k) number = list_any (has_number (slot_pages case) number) (slots_of case k)
is_turned case File number = is_record (base_of case Journal number)
is_turned case Journal number = false

-- the moment before another in the list; the journal's is the first
abbrev pub one_before : Moment → Moment
one_before Journal = Journal
one_before File = Journal
one_before (Commit k) = moment_before k

-- a rank from one on and below another whose page has an image
abbrev pub is_held : List (Option Origin) → ℕ → ℕ → ℕ → Bool
is_held origins from end rank = nat_le from rank && nat_lt rank end && is_some (slice_index_or origins rank None)

-- a rank whose page lies within a size and passes a test
abbrev pub is_within : (ℕ → Bool) → ℕ → List ℕ → ℕ → Bool
is_within test size numbers rank = test (slice_index numbers rank) && nat_le (slice_index numbers rank) size

-- of two moments the turn of each rank: where its page comes from elsewhere this turn, else the one before
pub record ArePassed (case : Gathered) (before now : Moment) (numbers : List ℕ) (turn : ℕ) (old new : List ℕ) : Type 0 where
  pub long : length new ≡ length old
  pub each : (rank : ℕ) → rank < length numbers
      → ((slice_index new rank ≡ turn) × (origin_of case now (slice_index numbers rank) ≢ origin_of case before (slice_index numbers rank)))
      ⊎ ((slice_index new rank ≡ slice_index old rank) × (origin_of case now (slice_index numbers rank) ≡ origin_of case before (slice_index numbers rank)))
