-- The records of a rollback journal ("Database File Format", section "The Rollback Journal"): a page number, the page
-- as it was before the changes, and a checksum of it.
use Rattle.std.specs.Prelude.{ℕ, ◌+◌, ◌-◌, ◌*◌, ◌/◌, ◌%◌, ◌^◌, Bool, true, false, not, ◌&&◌, ◌==◌, List, ◌++◌, length, map, take, drop, sum_by, count_by, flat_map}
use Rattle.std.specs.List.{range_with_len, prefix_len}
use Rattle.sx_base.specs.Bytes.{byte_at, word_at}
use Rattle.sx_base.specs.declared.moment.Class.{Class}
use Rattle.sx_base.specs.declared.moment.Class.TheVariants.{Good, Bad, After, Unchecked}
use Rattle.sx_journal.specs.declared.segment.Segment.{Segment}
use Rattle.sx_journal.specs.declared.entry.Entry.{Entry}
use Rattle.sx_journal.specs.Segments.{record_len, whole_records}

-- the sum of the bytes of a page that its checksum samples: those 200, 400 and so on before its end
unfoldable pub sampled : List ℕ → ℕ
sampled page = sum_by (λ k. byte_at page (length page - 200 * k)) (range_with_len 1 (length page / 200))

-- the checksum of a page: the nonce and the sampled bytes, in 32 bits
unfoldable pub checksum : ℕ → List ℕ → ℕ
checksum nonce page = (nonce + sampled page) % 2 ^ 32

-- where a record begins, and the nonce of its segment
pub record Record : Type 0 where
  pub place : ℕ
  pub nonce : ℕ

-- the page of the record at a place
abbrev pub page_at : List ℕ → ℕ → ℕ → List ℕ
page_at bytes page_size place = take page_size (drop (place + 4) bytes)

-- the checksum that is stored in the record at a place
abbrev pub sum_at : List ℕ → ℕ → ℕ → ℕ
sum_at bytes page_size place = word_at bytes (place + 4 + page_size)

-- the record fits: its page number isn't 0 and its checksum is right
unfoldable pub record_fits : List ℕ → ℕ → Record → Bool
record_fits bytes page_size item =
    not (word_at bytes item.place == 0)
    && (sum_at bytes page_size item.place == checksum item.nonce (page_at bytes page_size item.place))

-- the record at a place, of that class
unfoldable pub record_from : List ℕ → ℕ → Class → ℕ → Entry
record_from bytes page_size class place = record {
  page = word_at bytes place;
  offset = place + 4;
  sum = sum_at bytes page_size place;
  class = class;
}

-- so many records, one after the other from a place on
abbrev pub records_from : ℕ → ℕ → ℕ → ℕ → List Record
records_from page_size start nonce count =
    map (λ i. record { place = start + i * record_len page_size; nonce = nonce }) (range_with_len 0 count)

-- the records of a segment, from the end of its header's sector on
abbrev pub records_in : ℕ → ℕ → Segment → List Record
records_in page_size sector segment = records_from page_size (segment.offset + sector) segment.nonce segment.entries

-- the records of all segments
abbrev pub records_of : ℕ → ℕ → List Segment → List Record
records_of page_size sector segments = flat_map (records_in page_size sector) segments

-- records of one class
abbrev pub entries_of : List ℕ → ℕ → Class → List Record → List Entry
entries_of bytes page_size class records = map (λ item. record_from bytes page_size class item.place) records

-- the records of a live journal: Good are those of the longest prefix in which each fits, the next is Bad, and those
-- after it are After
unfoldable pub graded : List ℕ → ℕ → List Record → List Entry
graded bytes page_size records =
    let good = prefix_len (record_fits bytes page_size) records in
    entries_of bytes page_size Good (take good records)
    ++ entries_of bytes page_size Bad (take 1 (drop good records))
    ++ entries_of bytes page_size After (drop (good + 1) records)

-- the records of a zeroed journal: all whole ones from 512 on, which nothing can test
unfoldable pub unchecked : List ℕ → ℕ → List Entry
unchecked bytes page_size =
    entries_of bytes page_size Unchecked (records_from page_size 512 0 (whole_records bytes page_size 512))

-- the class is Good
abbrev pub is_good_class : Class → Bool
is_good_class Good = true
is_good_class _ = false

-- how many of the records are Good
abbrev pub good_count : List Entry → ℕ
good_count entries = count_by (λ entry. is_good_class entry.class) entries
