-- A store in memory: what it holds, and what a start and a read do to it. Files are numbered from 0.
use Rattle.std.specs.Prelude.{◌≡◌, ℕ, ◌+◌, min, Bool, true, false, not, ◌&&◌, List, [], ◌∷◌, map, length, drop, slice_index_or, Option, Some, None, Result, Ok, Err, IsSomeAnd, position, string_bytes}
use Rattle.std.specs.List.{list_any, filter_map}
use Rattle.std.specs.Str.{bytes_eq}
use Rattle.std.specs.declared.alloc.Global.{Global}
use Rattle.std.specs.declared.vec.Vec.{Vec}
use Rattle.std.specs.declared.string.String.{String}
use Rattle.sx_base.specs.declared.evidence.Failed.{Failed}
use Rattle.sx_base.specs.Causes.{last_count}
use Rattle.sx_base.specs.Files.{Files}
use Rattle.sx_edge.specs.declared.trip.Trip.{Trip}
use Rattle.sx_edge.specs.Trips.{bars_start, bars_read, distance, least}

-- names and bytes as plain lists
abbrev pub files_of : List (String Global × Vec ℕ Global) → Files
files_of files = map (λ file. (string_bytes file.0, file.1.items)) files

-- no two of the files have the same name
unfoldable pub names_differ : Files → Bool
names_differ [] = true
names_differ (file ∷ files) = not (list_any (λ other. bytes_eq other.0 file.0) files) && names_differ files

-- the files, the most that one read gives, the failures that are built in, the number of the started file and the place
-- of its next byte, how often a call has failed, whether the last start found no file, and how many bytes were given
-- since
pub record ShelfState : Type 0 where
  pub files : Files
  pub most : ℕ
  pub trips : List Trip
  pub started : Option ℕ
  pub at : ℕ
  pub faults : ℕ
  pub absent : Bool
  pub given : ℕ

-- a shelf on which no file was started
abbrev pub new_shelf : Files → ℕ → List Trip → ShelfState
new_shelf files most trips =
    record { files = files; most = most; trips = trips; started = None; at = 0; faults = 0; absent = false; given = 0 }

-- the number of the first file of that name
unfoldable pub number_of : Files → List ℕ → Option ℕ
number_of files name = position (λ file. bytes_eq file.0 name) files

-- the bytes of the file of that number
abbrev pub bytes_of : Files → Option ℕ → List ℕ
bytes_of files None = []
bytes_of files (Some number) = (slice_index_or files number ([], [])).1

-- the bytes left of the started file
abbrev pub bytes_left : ShelfState → List ℕ
bytes_left shelf = drop shelf.at (bytes_of shelf.files shelf.started)

-- a start of the file of that number fails
abbrev pub is_start_barred : ShelfState → ℕ → Bool
is_start_barred shelf number = list_any (bars_start number) shelf.trips

-- a read at the place of the next byte fails
abbrev pub is_read_barred : ShelfState → Bool
is_read_barred shelf = list_any (bars_read shelf.started shelf.at) shelf.trips

-- how many bytes a read gives: those that have room, that one read gives, that are left, and that stand before the next
-- place at which a read fails
abbrev pub reach : ShelfState → ℕ → ℕ
reach shelf room =
    least (min room (min shelf.most (length (bytes_left shelf)))) (filter_map (distance shelf.started shelf.at) shelf.trips)

-- a start of the file of that number, or of a name that no file has: it fails exactly where a trip bars it
abbrev pub StartsFile : ShelfState → ShelfState → Option ℕ → Result Bool Failed → Type 0
StartsFile old new number (Ok true) =
    IsSomeAnd number (λ file. is_start_barred old file ≡ false)
    × (new ≡ record old { started = number; at = 0; absent = false; given = 0 })
StartsFile old new number (Ok false) =
    (number ≡ None) × (new ≡ record old { started = None; at = 0; absent = true; given = 0 })
StartsFile old new number (Err failed) =
    IsSomeAnd number (λ file. is_start_barred old file ≡ true)
    × (new ≡ record old { started = None; at = 0; absent = false; given = 0; faults = min (old.faults + 1) last_count })

-- a read into that much room: it fails exactly where a trip bars it
abbrev pub ReadsFile : ShelfState → ShelfState → ℕ → Result ℕ Failed → Type 0
ReadsFile old new room (Ok n) =
    (is_read_barred old ≡ false) × (n ≡ reach old room)
    × (new ≡ record old { at = old.at + n; given = min (old.given + n) last_count })
ReadsFile old new room (Err failed) =
    (is_read_barred old ≡ true) × (new ≡ record old { faults = min (old.faults + 1) last_count })
