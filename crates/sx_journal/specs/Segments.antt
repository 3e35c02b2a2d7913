-- The segments of a live rollback journal ("Database File Format", section "The Rollback Journal"): each is a header,
-- padded to a sector, and the records behind it. The sector size is that of the first header.
use Rattle.std.specs.Prelude.{◌≡◌, ℕ, zero, suc, ◌+◌, ◌-◌, ◌*◌, ◌/◌, min, Bool, not, ◌&&◌, if◌then◌else◌, ◌==◌, nat_le, List, [], ◌∷◌, length, Option, None, Some}
use Rattle.std.specs.Int.{next_multiple_of}
use Rattle.sx_journal.specs.declared.segment.Segment.{Segment}
use Rattle.sx_journal.specs.Header.{count_at, nonce_at, has_header}

-- the length of a record: its page number, its page and its checksum
abbrev pub record_len : ℕ → ℕ
record_len page_size = page_size + 8

-- how many whole records stand from a place to the end of the file
unfoldable pub whole_records : List ℕ → ℕ → ℕ → ℕ
whole_records bytes page_size start = (length bytes - start) / record_len page_size

-- the count is a number of records; 0 and 0xffffffff stand for all up to the end of the file
unfoldable pub is_counted : ℕ → Bool
is_counted count = not (count == 0) && not (count == 0xffffffff)

-- how many records are behind the header: as many as it counts, but no more than are there
unfoldable pub records_behind : List ℕ → ℕ → ℕ → ℕ → ℕ
records_behind bytes page_size sector header =
    let there = whole_records bytes page_size (header + sector) in
    if is_counted (count_at bytes header) then min (count_at bytes header) there else there

-- where the header after this one stands, if there is one: all records that this one counts are there, and a header
-- stands at the first multiple of the sector size at or after their end
unfoldable pub following : List ℕ → ℕ → ℕ → ℕ → Option ℕ
following bytes page_size sector header =
    let count = count_at bytes header in
    let next = next_multiple_of (header + sector + count * record_len page_size) sector in
    if is_counted count && (nat_le count (whole_records bytes page_size (header + sector)) && has_header bytes next) then Some next else None

-- the segment with that header, where so many records stand in the segments before it
unfoldable pub segment_at : List ℕ → ℕ → ℕ → ℕ → ℕ → Segment
segment_at bytes page_size sector header first = record {
  offset = header;
  count = count_at bytes header;
  nonce = nonce_at bytes header;
  first = first;
  entries = records_behind bytes page_size sector header;
}

-- the list is that of the segments from a header on, if there is a header, where so many records stand before it
abbrev pub AreSegments : List ℕ → ℕ → ℕ → ℕ → Option ℕ → List Segment → Type 0
AreSegments bytes page_size sector first header [] = header ≡ None
AreSegments bytes page_size sector first header (segment ∷ rest) =
    (header ≡ Some segment.offset)
    × (segment ≡ segment_at bytes page_size sector segment.offset first)
    × AreSegments bytes page_size sector (first + segment.entries) (following bytes page_size sector segment.offset) rest

-- that list, of at most so many segments
abbrev pub segments_from : ℕ → List ℕ → ℕ → ℕ → ℕ → Option ℕ → List Segment
segments_from most bytes page_size sector first None = []
segments_from zero bytes page_size sector first (Some header) = []
segments_from (suc most) bytes page_size sector first (Some header) =
    segment_at bytes page_size sector header first
    ∷ segments_from most bytes page_size sector (first + records_behind bytes page_size sector header) (following bytes page_size sector header)

-- all segments, the first with its header at 0: there are no more than bytes
unfoldable pub segments_of : List ℕ → ℕ → ℕ → List Segment
segments_of bytes page_size sector = segments_from (length bytes) bytes page_size sector 0 (Some 0)
