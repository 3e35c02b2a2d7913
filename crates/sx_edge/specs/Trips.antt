-- The failures that are built into a store in memory. Files are numbered from 0.
use Rattle.std.specs.Prelude.{ℕ, ◌-◌, min, Bool, false, ◌&&◌, ◌==◌, nat_le, if◌then◌else◌, List, fold, Option, Some, None}
use Rattle.sx_edge.specs.declared.trip.Trip.{Trip}
use Rattle.sx_edge.specs.declared.trip.Trip.TheVariants.{Start, Read}

-- the trip makes each start of that file fail
abbrev pub bars_start : ℕ → Trip → Bool
bars_start number (Start file) = file == number
bars_start number (Read file place) = false

-- the trip makes each read of the started file fail at that place
abbrev pub bars_read : Option ℕ → ℕ → Trip → Bool
bars_read (Some number) at (Read file place) = file == number && place == at
bars_read _ at _ = false

-- how far the place at which the trip makes each read of the started file fail lies ahead
abbrev pub distance : Option ℕ → ℕ → Trip → Option ℕ
distance (Some number) at (Read file place) = if file == number && nat_le at place then Some (place - at) else None
distance _ at _ = None

-- the least of a number and those of a list
unfoldable pub least : ℕ → List ℕ → ℕ
least n others = fold min n others
