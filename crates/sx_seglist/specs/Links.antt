-- How the segments of a page are linked: each names the next one by its index, from the first one, of index 0, to the end
-- mark, of index 1, which has no bytes and begins at the page's length.
use Rattle.std.specs.Prelude.{◌≡◌, ◌≢◌, ℕ, zero, suc, ◌+◌, ◌-◌, ◌==◌, ◌<◌, ◌≤◌, ◌⊎◌, nat_lt, ◌&&◌, nat_le, if◌then◌else◌, List, [], ◌∷◌, length, map, slice_index_or}
use Rattle.std.specs.List.{range_with_len}
use Rattle.sx_base.specs.declared.label.Label.{Label}
use Rattle.sx_base.specs.declared.evidence.Span.{Span}
use Rattle.sx_seglist.specs.declared.claimed.Claimed.{Claimed}
use Rattle.sx_seglist.specs.declared.claimed.Claimed.TheVariants.{None}
use Rattle.sx_seglist.specs.declared.segment.Segment.{Segment}
use Rattle.sx_seglist.specs.Claims.{once_more}

-- the segment of an index
abbrev pub segment_at : List Segment → ℕ → Segment
segment_at items index = slice_index_or items index (record { start = 0; next = 0; claimed = None })

-- the byte at which it begins
abbrev pub start_of : List Segment → ℕ → ℕ
start_of items index = (segment_at items index).start

-- the index of the one behind it
abbrev pub next_of : List Segment → ℕ → ℕ
next_of items index = (segment_at items index).next

-- the page's length, at which the end mark begins
abbrev pub len_of : List Segment → ℕ
len_of items = start_of items 1

-- the indices behind one of them on the way to the end mark, at most so many
unfoldable pub way : ℕ → List Segment → ℕ → List ℕ
way zero items index = []
way (suc more) items index = if index == 1 then [] else next_of items index ∷ way more items (next_of items index)

-- the indices behind the first segment's, up to the end mark's
unfoldable pub way_of : List Segment → List ℕ
way_of items = way (len_of items) items 0

-- from an index these follow: each segment names the next one, which begins behind it, and the last is the end mark
abbrev pub Follow : List Segment → ℕ → List ℕ → Type 0
Follow items index [] = index ≡ 1
Follow items index (next ∷ others) =
    (index < length items) × (index ≢ 1) × (next_of items index ≡ next) × (start_of items index < start_of items next) × Follow items next others

-- an index is the first one or among those behind it
abbrev pub IsOn : ℕ → ℕ → List ℕ → Type 0
IsOn asked index [] = asked ≡ index
IsOn asked index (next ∷ others) = (asked ≡ index) ⊎ IsOn asked next others

-- what is claimed of a byte: what its segment says, the first that ends behind it
unfoldable pub claimed_from : List Segment → ℕ → List ℕ → ℕ → Claimed
claimed_from items index [] at = None
claimed_from items index (next ∷ others) at =
    if nat_lt at (start_of items next) then (segment_at items index).claimed else claimed_from items next others at

-- what is claimed of a byte of the page
unfoldable pub claimed_at : List Segment → ℕ → Claimed
claimed_at items at = claimed_from items 0 (way_of items) at

-- what is claimed of each byte of the page, in order
unfoldable pub states_of : List Segment → List Claimed
states_of items = map (claimed_at items) (range_with_len 0 (len_of items))

-- an index is the first one or on the way behind it
abbrev pub IsLive : List Segment → ℕ → Type 0
IsLive items index = IsOn index 0 (way_of items)

-- from the first segment, at byte 0, the segments follow one another to the end mark
pub record IsList (items : List Segment) : Type 0 where
  pub marked : 1 < length items
  pub first : start_of items 0 ≡ 0
  pub follow : Follow items 0 (way_of items)

-- a list, of whose neighbours something else is claimed, with a segment at which a search can begin
pub record IsSegList (items : List Segment) (from : ℕ) : Type 0 where
  pub list : IsList items
  pub page : len_of items ≤ 65536
  pub live : IsLive items from
  pub before_end : from ≢ 1
  pub apart : (index : ℕ) → IsLive items index → index ≢ 1 → 0 < start_of items index
      → claimed_at items (start_of items index - 1) ≢ claimed_at items (start_of items index)

-- a segment holds a byte
pub record IsHolder (items : List Segment) (at index : ℕ) : Type 0 where
  pub live : IsLive items index
  pub before_end : index ≢ 1
  pub begins : start_of items index ≤ at
  pub ends : at < start_of items (next_of items index)

-- a segment, or the end mark, begins at a byte
pub record IsStart (items : List Segment) (at : ℕ) : Type 0 where
  pub index : ℕ
  pub live : IsLive items index
  pub begins : start_of items index ≡ at

-- the same segments, and of each byte the same is claimed; but a segment begins at a byte, and has this index
pub record IsCut (old new : List Segment) (at index : ℕ) : Type 0 where
  pub list : IsList new
  pub len : len_of new ≡ len_of old
  pub live : IsLive new index
  pub begins : start_of new index ≡ at
  pub kept : (other : ℕ) → IsLive old other → IsLive new other × (start_of new other ≡ start_of old other)
  pub only : (other : ℕ) → IsLive new other → IsLive old other ⊎ (start_of new other ≡ at)
  pub claimed : (byte : ℕ) → claimed_at new byte ≡ claimed_at old byte

-- the same segments, and one claim more of the bytes from a start up to an end
pub record IsRaised (old new : List Segment) (start end : ℕ) (label : Label) : Type 0 where
  pub list : IsList new
  pub way : way_of new ≡ way_of old
  pub starts : (index : ℕ) → start_of new index ≡ start_of old index
  pub claimed : (byte : ℕ) → byte < len_of old
      → claimed_at new byte ≡ (if nat_le start byte && nat_lt byte end then once_more label (claimed_at old byte) else claimed_at old byte)

-- of each byte the same is claimed, and of two neighbours that meet behind a segment's start, up to an end, not the same
pub record IsJoined (old new : List Segment) (first end : ℕ) : Type 0 where
  pub list : IsList new
  pub live : IsLive new first
  pub starts : (index : ℕ) → start_of new index ≡ start_of old index
  pub only : (index : ℕ) → IsLive new index → IsLive old index
  pub claimed : (byte : ℕ) → claimed_at new byte ≡ claimed_at old byte
  pub apart : (index : ℕ) → IsLive new index → index ≢ 1 → start_of new first < start_of new index → start_of new index ≤ end
      → claimed_at new (start_of new index - 1) ≢ claimed_at new (start_of new index)

-- one claim more of the bytes of a span
pub record IsClaimed (old new : List Segment) (span : Span) (label : Label) : Type 0 where
  pub len : len_of new ≡ len_of old
  pub claimed : (byte : ℕ) → byte < len_of old
      → claimed_at new byte ≡ (if nat_le span.start byte && nat_lt byte (span.start + span.len) then once_more label (claimed_at old byte) else claimed_at old byte)

-- from an index the segments follow one another to the end mark
pub record IsLinked (items : List Segment) (index : ℕ) : Type 0 where
  pub marked : 1 < length items
  pub follow : Follow items index (way (len_of items) items index)

-- the run of each of some segments that follow one another
unfoldable pub runs_along : List Segment → ℕ → List ℕ → List (Span × Claimed)
runs_along items index [] = []
runs_along items index (next ∷ others) =
    (record { start = start_of items index; len = start_of items next - start_of items index }, (segment_at items index).claimed)
    ∷ runs_along items next others

-- and of those from an index on
unfoldable pub runs_from : List Segment → ℕ → List (Span × Claimed)
runs_from items index = runs_along items index (way (len_of items) items index)

-- the runs from an index on are a run and those from a further index on
pub record IsRun (items : List Segment) (index : ℕ) (run : Span × Claimed) (further : ℕ) : Type 0 where
  pub linked : IsLinked items further
  pub runs : runs_from items index ≡ run ∷ runs_from items further
