-- How much of a payload stands in its cell, and how many overflow pages the rest needs ("Cell Payload Overflow Pages").
-- Lengths are in bytes; the usable bytes of a page are at least 480.
use Rattle.std.specs.Prelude.{ℕ, ◌+◌, ◌-◌, ◌*◌, ◌/◌, ◌%◌, nat_le, if◌then◌else◌}
use Rattle.std.specs.Int.{div_ceil}
use Rattle.sx_cell.specs.declared.cell.Kind.{Kind}
use Rattle.sx_cell.specs.declared.cell.Kind.TheVariants.{TableLeaf, TableInner, IndexLeaf, IndexInner}
use Rattle.sx_cell.specs.declared.cell.Cell.{Cell}

-- the greatest length of a payload
abbrev pub longest_payload : ℕ
longest_payload = 2147483647

-- how many bytes of payload an overflow page holds: all but the number of the next one
abbrev pub overflow_room : ℕ → ℕ
overflow_room usable = usable - 4

-- so many 255ths of a page, less what stands there besides payloads
abbrev pub share : ℕ → ℕ → ℕ
share part usable = (usable - 12) * part / 255 - 23

-- the longest payload that stands in its cell as a whole
abbrev pub longest_local : Kind → ℕ → ℕ
longest_local TableLeaf usable = usable - 35
longest_local TableInner usable = 0
longest_local IndexLeaf usable = share 64 usable
longest_local IndexInner usable = share 64 usable

-- the least that stands in the cell of a longer one
abbrev pub least_local : ℕ → ℕ
least_local usable = share 32 usable

-- the local length with which a longer payload fills its last overflow page
unfoldable pub fitted_local : ℕ → ℕ → ℕ
fitted_local payload usable = least_local usable + (payload - least_local usable) % overflow_room usable

-- the local length of a payload where that is the longest which stands in its cell as a whole
unfoldable pub local_below : ℕ → ℕ → ℕ → ℕ
local_below longest payload usable =
    if nat_le payload longest then payload
    else (if nat_le (fitted_local payload usable) longest then fitted_local payload usable
    else least_local usable)

-- the local length of a payload in a cell of that kind: interior cells of a table have no payload
unfoldable pub local_of : Kind → ℕ → ℕ → ℕ
local_of TableLeaf payload usable = local_below (longest_local TableLeaf usable) payload usable
local_of TableInner payload usable = 0
local_of IndexLeaf payload usable = local_below (longest_local IndexLeaf usable) payload usable
local_of IndexInner payload usable = local_below (longest_local IndexInner usable) payload usable

-- how many bytes of its payload don't stand in the cell
abbrev pub spilled : Cell → ℕ
spilled cell = cell.payload - cell.local

-- how many overflow pages so many bytes need, rounded up
abbrev pub need_of : ℕ → ℕ → ℕ
need_of usable left = div_ceil left (overflow_room usable)
