-- What files that were read give.
use Rattle.std.proofs.Common.{◌≡◌, ℕ, zero, suc, ◌+◌, ◌-◌, ◌*◌, ◌/◌, ◌<◌, ◌≤◌, ◌^◌, min, Bool, true, false, cond, ◌&&◌, ◌==◌, nat_le, nat_lt, List, [], ◌∷◌, ◌++◌, length, map, drop, All, Option, None, Some, slice_get, slice_index_or, unwrap_or, inl, inr, refl, sym, ap, ◌∙◌, arith, subst, leb-true, length-append, append-nil}
use Rattle.std.specs.List.{range_with_len, flat_map}
use Rattle.std.specs.Int.{next_multiple_of, is_power_of_two}
use Rattle.std.specs.Option.{option_map}
use Rattle.std.proofs.Math.Nat.{mul-le-mul_left, mul-le-mul_right}
use Rattle.std.proofs.Math.Seq.{drop-append_seam}
use Rattle.std.proofs.lemmas.Nat.{div-add-mod'}
use Rattle.std.proofs.lemmas.Bool.{and_parts, cases_lt, ltb-false}
use Rattle.std.proofs.lemmas.List.{length-map, map-append}
use Rattle.std.proofs.lemmas.List.FromFn.{length-map-range_with_len}
use Rattle.std.proofs.lemmas.Option.{cond_some, slice_get_cases, slice_get_within, slice_get-map}
use Rattle.sx_bytes.specs.PageSize.{IsPageSize}
use Rattle.sx_base.specs.declared.evidence.Part.TheVariants.{Wal, Journal}
use Rattle.sx_base.specs.declared.moment.Class.TheVariants.{Unchecked}
use Rattle.sx_base.specs.declared.moment.Class.{Class}
use Rattle.sx_wal.specs.Wal.{Wal as Log, wal_of}
use Rattle.sx_wal.specs.Frames.{frame_at}
use Rattle.sx_wal.specs.declared.slot.Slot.{Slot}
use Rattle.sx_wal.proofs.LogLemmas.{slot_stands}
use Rattle.sx_journal.specs.Header.{count_at, has_header, sector_at, page_size_at, is_sector_size, is_live, is_zeroed}
use Rattle.sx_journal.specs.Segments.{record_len, whole_records, is_counted, records_behind, following, segment_at, AreSegments, segments_of}
use Rattle.sx_journal.specs.Entries.{Record, record_from, records_from, records_in, records_of, entries_of, unchecked}
use Rattle.sx_journal.specs.Journal.{Journal as RollbackJournal, live_journal, journal_of}
use Rattle.sx_journal.specs.declared.segment.Segment.{Segment}
use Rattle.sx_journal.specs.declared.entry.Entry.{Entry}
use Rattle.sx_journal.proofs.Walks.{behind_within}
use Rattle.sx_journal.proofs.Held.{journal_held, offset-graded}
use Rattle.sx_journal.proofs.Readings.{readings}
use Rattle.sx_images.specs.declared.image.Image.{Image}
use Rattle.sx_images.specs.declared.lengths.Lengths.{Lengths}
use Rattle.sx_images.specs.declared.stretch.Stretch.{Stretch}
use Rattle.sx_images.specs.Images.{Table, kept, or_none, length_of, frame_image, record_image, stretch_of, stretches_of, head_len_of, table_of}
use Rattle.sx_images.specs.Places.{records_end}
use Rattle.sx_images.specs.Read.{AreSmall, IsLogOf, IsJournalOf, Follow, run_offsets, IsTable}
use Rattle.sx_images.proofs.Lists.{slice_front, slice_back, map_both}

-- ---- the log

log_case : (page_size : ℕ) (len : Option ℕ) (wal : Log) (i : ℕ) (slot : Slot) (bytes : Option (List ℕ)) → option_map length bytes ≡ len → wal ≡ wal_of bytes page_size
    → slice_get wal.slots i ≡ Some slot → (slot.offset ≡ frame_at page_size i + 24) × (slot.offset + page_size ≤ or_none len)
unfolding wal_of
log_case page_size len wal i slot None long read is =
    let none : slice_get [] i ≡ Some slot = ap (λ (w : Log). slice_get w.slots i) (sym read) ∙ is in
    let never = slice_get_within [] i slot none in
    absurd (omega arith)
log_case page_size len wal i slot (Some bytes) long read is =
    let frame = slot_stands page_size bytes i slot (ap (λ (w : Log). slice_get w.slots i) (sym read) ∙ is) in
    let size : length bytes ≡ or_none len = ap or_none long in
    (frame.offset, omega (arith, frame.whole, size))

-- each frame stands at its distance, and lies in the file
pub log_laid : (page_size : ℕ) (len : Option ℕ) (wal : Log) (i : ℕ) (slot : Slot) → IsLogOf page_size len wal → slice_get wal.slots i ≡ Some slot
    → (slot.offset ≡ frame_at page_size i + 24) × (slot.offset + page_size ≤ or_none len)
log_laid page_size len wal i slot log is = log_case page_size len wal i slot log.bytes log.long log.read is

frames_case : (page_size : ℕ) (len : Option ℕ) (wal : Log) (count : ℕ) → 512 ≤ page_size → IsLogOf page_size len wal → length wal.slots ≡ count → count * 512 ≤ or_none len
frames_case page_size len wal zero least log is = omega arith
frames_case page_size len wal (suc last) least log is =
    elim (slice_get_cases wal.slots last).1 [
      | inl found ↦
          let laid = log_laid page_size len wal last found.0 log found.2 in
          let wide : last * 512 ≤ last * (24 + page_size) = mul-le-mul_left last (omega arith) in
          omega (arith, laid.0, laid.1, wide)
      | inr past ↦ absurd (omega (arith, past.0, is))
    ]

pub frames_few : (page_size : ℕ) (len : Option ℕ) (wal : Log) → 512 ≤ page_size → IsLogOf page_size len wal → length wal.slots * 512 ≤ or_none len
frames_few page_size len wal least log = frames_case page_size len wal (length wal.slots) least log refl

-- ---- the segments of a journal

-- a header stands at a place or behind it
abbrev AtLeast : ℕ → Option ℕ → Type 0
AtLeast least None = Unit {0}
AtLeast least (Some header) = least ≤ header

-- a run has no records, or they lie in the file
abbrev Ends : Table → ℕ → List Stretch → Type 0
Ends table len [] = Unit {0}
Ends table len (run ∷ rest) = (0 < run.entries → records_end table run ≤ len) × Ends table len rest

counted_case : (count there : ℕ) (b : Bool) → b ≡ true → count ≤ there → cond b (min count there) there ≡ count
counted_case count there true is within = omega arith
counted_case count there false is within = cc

beyond_some : (bytes : List ℕ) (page_size sector header next : ℕ) → following bytes page_size sector header ≡ Some next
    → header + sector + records_behind bytes page_size sector header * record_len page_size ≤ next
unfolding following records_behind
beyond_some bytes page_size sector header next is =
    let count = count_at bytes header in
    let there = whole_records bytes page_size (header + sector) in
    let end = header + sector + count * record_len page_size in
    let parts = cond_some _ (next_multiple_of end sector) next is in
    let counted = and_parts (is_counted count) _ parts.0 in
    let whole = and_parts (nat_le count there) _ counted.1 in
    let all = counted_case count there (is_counted count) counted.0 (leb-true _ _ whole.0) in
    rw (all, ← parts.1) (omega arith)

beyond_case : (bytes : List ℕ) (page_size sector header : ℕ) (next : Option ℕ) → following bytes page_size sector header ≡ next
    → AtLeast (header + sector + records_behind bytes page_size sector header * record_len page_size) next
beyond_case bytes page_size sector header None is = tt
beyond_case bytes page_size sector header (Some next) is = beyond_some bytes page_size sector header next is

behind_ends : (bytes : List ℕ) (page_size sector header : ℕ) → 0 < records_behind bytes page_size sector header
    → header + sector + records_behind bytes page_size sector header * record_len page_size ≤ length bytes
unfolding whole_records
behind_ends bytes page_size sector header some =
    let within = behind_within bytes page_size sector header in
    let whole = div-add-mod' (length bytes - (header + sector)) (record_len page_size) in
    let more : records_behind bytes page_size sector header * record_len page_size ≤ (length bytes - (header + sector)) / record_len page_size * record_len page_size =
    mul-le-mul_right (record_len page_size) within in
    let wide : 1 * record_len page_size ≤ records_behind bytes page_size sector header * record_len page_size = mul-le-mul_right (record_len page_size) some in
    omega (arith, whole, more, wide)

pub segments_follow : (table : Table) (bytes : List ℕ) (least first : ℕ) (next : Option ℕ) (segments : List Segment) → AtLeast least next
    → AreSegments bytes table.page_size table.sector first next segments
    → Follow table least first (map stretch_of segments) × Ends table (length bytes) (map stretch_of segments)
unfolding segment_at
segments_follow table bytes least first next [] from are = (tt, tt)
segments_follow table bytes least first next (segment ∷ rest) from are =
    let here : least ≤ segment.offset = rw are.0 at from in
    let number : segment.first ≡ first = ap (λ (s : Segment). s.first) are.1 in
    let behind : segment.entries ≡ records_behind bytes table.page_size table.sector segment.offset = ap (λ (s : Segment). s.entries) are.1 in
    let end : records_end table (stretch_of segment) ≡ segment.offset + table.sector + records_behind bytes table.page_size table.sector segment.offset * record_len table.page_size =
    ap (λ n. segment.offset + table.sector + n * record_len table.page_size) behind in
    let later : AtLeast (records_end table (stretch_of segment)) (following bytes table.page_size table.sector segment.offset) =
    rw end (beyond_case bytes table.page_size table.sector segment.offset (following bytes table.page_size table.sector segment.offset) refl) in
    let others = segments_follow table bytes (records_end table (stretch_of segment)) (first + segment.entries) (following bytes table.page_size table.sector segment.offset) rest later are.2 in (
      (here, number, others.0),
      (λ some. rw end (behind_ends bytes table.page_size table.sector segment.offset (omega (arith, some, behind))), others.1),
    )

segment_offsets : (table : Table) (segment : Segment)
    → map (λ (item : Record). item.place + 4) (records_in table.page_size table.sector segment) ≡ run_offsets table (stretch_of segment)
segment_offsets table segment = map_both (λ (item : Record). item.place + 4) _ (range_with_len 0 segment.entries)

pub segments_offsets : (table : Table) (segments : List Segment)
    → map (λ (item : Record). item.place + 4) (records_of table.page_size table.sector segments) ≡ flat_map (run_offsets table) (map stretch_of segments)
segments_offsets table [] = refl
segments_offsets table (segment ∷ rest) =
    map-append (λ (item : Record). item.place + 4) (records_in table.page_size table.sector segment) (records_of table.page_size table.sector rest)
    ∙ ap (λ front. front ++ map (λ (item : Record). item.place + 4) (records_of table.page_size table.sector rest)) (segment_offsets table segment)
    ∙ ap (λ back. run_offsets table (stretch_of segment) ++ back) (segments_offsets table rest)

-- so many records take 512 bytes each
pub records_few : (table : Table) (len least first : ℕ) (runs : List Stretch) → 512 ≤ table.page_size → Follow table least first runs → Ends table len runs
    → 0 < length (flat_map (run_offsets table) runs) → length (flat_map (run_offsets table) runs) * 512 + least ≤ len
records_few table len least first [] wide follow ends some = absurd (omega arith)
records_few table len least first (run ∷ rest) wide follow ends some =
    let many : length (flat_map (run_offsets table) (run ∷ rest)) ≡ run.entries + length (flat_map (run_offsets table) rest) =
    length-append (run_offsets table run) (flat_map (run_offsets table) rest) ∙ ap (λ n. n + length (flat_map (run_offsets table) rest)) (length-map-range_with_len _ 0 run.entries) in
    let own : run.entries * 512 ≤ run.entries * record_len table.page_size = mul-le-mul_left run.entries (omega arith) in
    elim (cases_lt 0 (length (flat_map (run_offsets table) rest))) [
      | inl more ↦
          let others = records_few table len (records_end table run) (first + run.entries) rest wide follow.2 ends.1 more in
          omega (arith, many, own, others, follow.0)
      | inr none ↦
          let end = ends.0 (omega (arith, many, none, some)) in
          omega (arith, many, own, end, follow.0, none)
    ]

-- ---- the journal

-- the records of a journal lie where its runs say
pub record IsLaid (table : Table) (len : ℕ) (entries : List Entry) (runs : List Stretch) : Type 0 where
  pub offsets : map (λ (entry : Entry). entry.offset) entries ≡ flat_map (run_offsets table) runs
  pub follow : Follow table 0 0 runs
  pub ends : Ends table len runs

sector_case : (size : ℕ) → is_sector_size size ≡ true → (28 ≤ size) × (size < 2 ^ 32)
unfolding is_sector_size
sector_case size is =
    let outer = and_parts (is_power_of_two size && nat_le 32 size) (nat_le size 65536) is in
    let least = leb-true 32 size (and_parts (is_power_of_two size) (nat_le 32 size) outer.0).1 in
    let most = leb-true size 65536 outer.1 in
    (omega (arith, least), omega (arith, most))

pub live_sector : (bytes : List ℕ) (page_size : ℕ) → is_live bytes page_size ≡ true → (28 ≤ sector_at bytes 0) × (sector_at bytes 0 < 2 ^ 32)
unfolding is_live
live_sector bytes page_size live =
    sector_case (sector_at bytes 0) (and_parts (has_header bytes 0 && (page_size_at bytes 0 == page_size)) (is_sector_size (sector_at bytes 0)) live).1

live_laid : (table : Table) (bytes : List ℕ) → 28 ≤ length bytes → is_live bytes table.page_size ≡ true → table.sector ≡ sector_at bytes 0
    → IsLaid table (length bytes) (live_journal bytes table.page_size).entries (map stretch_of (live_journal bytes table.page_size).segments)
unfolding live_journal
live_laid table bytes held live same =
    let some : 0 < sector_at bytes 0 = omega (arith, (live_sector bytes table.page_size live).0) in
    let segments = segments_of bytes table.page_size (sector_at bytes 0) in
    let are = (readings bytes table.page_size (sector_at bytes 0) segments some held).1 refl in
    let laid = segments_follow table bytes 0 0 (Some 0) segments (omega arith) (rw same are) in
    record {
      offsets = offset-graded bytes table.page_size (records_of table.page_size (sector_at bytes 0) segments)
          ∙ ap (λ n. map (λ (item : Record). item.place + 4) (records_of table.page_size n segments)) (sym same) ∙ segments_offsets table segments;
      follow = laid.0;
      ends = laid.1;
    }

entries_offsets : (bytes : List ℕ) (page_size : ℕ) (class : Class) (records : List Record)
    → map (λ (entry : Entry). entry.offset) (entries_of bytes page_size class records) ≡ map (λ (item : Record). item.place + 4) records
unfolding record_from
entries_offsets bytes page_size class [] = refl
entries_offsets bytes page_size class (item ∷ rest) = ap (λ places. (item.place + 4) ∷ places) (entries_offsets bytes page_size class rest)

unchecked_many : (bytes : List ℕ) (page_size : ℕ) → length (unchecked bytes page_size) ≡ whole_records bytes page_size 512
unfolding unchecked
unchecked_many bytes page_size =
    length-map (records_from page_size 512 0 (whole_records bytes page_size 512)) (λ (item : Record). record_from bytes page_size Unchecked item.place)
    ∙ length-map-range_with_len _ 0 (whole_records bytes page_size 512)

unchecked_offsets : (bytes : List ℕ) (page_size : ℕ)
    → map (λ (entry : Entry). entry.offset) (unchecked bytes page_size) ≡ map (λ q. 512 + q * record_len page_size + 4) (range_with_len 0 (whole_records bytes page_size 512))
unfolding unchecked
unchecked_offsets bytes page_size =
    entries_offsets bytes page_size Unchecked (records_from page_size 512 0 (whole_records bytes page_size 512))
    ∙ map_both (λ (item : Record). item.place + 4) _ (range_with_len 0 (whole_records bytes page_size 512))

zeroed_ends : (bytes : List ℕ) (page_size : ℕ) → 0 < whole_records bytes page_size 512 → 512 + whole_records bytes page_size 512 * record_len page_size ≤ length bytes
unfolding whole_records
zeroed_ends bytes page_size some =
    let whole = div-add-mod' (length bytes - 512) (record_len page_size) in
    let wide : 1 * record_len page_size ≤ (length bytes - 512) / record_len page_size * record_len page_size = mul-le-mul_right (record_len page_size) some in
    omega (arith, whole, wide)

-- the run of a zeroed journal
abbrev zeroed_run : ℕ → Stretch
zeroed_run count = record { head = 0; first = 0; entries = count }

zeroed_offsets : (table : Table) (count : ℕ) → table.sector ≡ 512
    → map (λ q. 512 + q * record_len table.page_size + 4) (range_with_len 0 count) ≡ flat_map (run_offsets table) (zeroed_run count ∷ [])
zeroed_offsets table count same =
    let start : 512 ≡ 0 + table.sector = omega (arith, same) in
    ap (λ n. map (λ q. n + q * record_len table.page_size + 4) (range_with_len 0 count)) start
    ∙ sym (append-nil (run_offsets table (zeroed_run count)))

zeroed_laid : (table : Table) (bytes : List ℕ) → table.sector ≡ 512
    → IsLaid table (length bytes) (unchecked bytes table.page_size) (zeroed_run (length (unchecked bytes table.page_size)) ∷ [])
zeroed_laid table bytes same =
    let count = whole_records bytes table.page_size 512 in
    let laid : IsLaid table (length bytes) (unchecked bytes table.page_size) (zeroed_run count ∷ []) = record {
      offsets = unchecked_offsets bytes table.page_size ∙ zeroed_offsets table count same;
      follow = (omega arith, refl, tt);
      ends = (λ some. let end = zeroed_ends bytes table.page_size some in omega (arith, end, same), tt);
    } in
    subst (λ n. IsLaid table (length bytes) (unchecked bytes table.page_size) (zeroed_run n ∷ [])) (sym (unchecked_many bytes table.page_size)) laid

-- no records, and no runs of them
none_laid : (table : Table) (len : ℕ) → IsLaid table len [] []
none_laid table len = record { offsets = refl; follow = tt; ends = tt }

-- what is known of a journal that was read
pub record IsJournalLaid (table : Table) (len : ℕ) (journal : RollbackJournal) : Type 0 where
  pub laid : IsLaid table len journal.entries (stretches_of journal journal.state)
  pub held : All (λ (entry : Entry). entry.offset + table.page_size ≤ len) journal.entries
  pub order : head_len_of journal.state ≤ journal.sector

some_case : (table : Table) (bytes : List ℕ) (short live zeroed : Bool) → nat_lt (length bytes) 28 ≡ short → is_live bytes table.page_size ≡ live
    → is_zeroed bytes ≡ zeroed → table.sector ≡ (journal_of (Some bytes) table.page_size).sector
    → IsLaid table (length bytes) (journal_of (Some bytes) table.page_size).entries (stretches_of (journal_of (Some bytes) table.page_size) (journal_of (Some bytes) table.page_size).state)
    × (head_len_of (journal_of (Some bytes) table.page_size).state ≤ (journal_of (Some bytes) table.page_size).sector)
unfolding journal_of live_journal
some_case table bytes true live zeroed short_is live_is zeroed_is same = rw short_is (none_laid table (length bytes), omega arith)
some_case table bytes false true zeroed short_is live_is zeroed_is same =
    let held : 28 ≤ length bytes = ltb-false (length bytes) 28 short_is in
    let at : table.sector ≡ sector_at bytes 0 = rw (short_is, live_is) at same in
    rw (short_is, live_is) (live_laid table bytes held live_is at, (live_sector bytes table.page_size live_is).0)
some_case table bytes false false true short_is live_is zeroed_is same =
    let at : table.sector ≡ 512 = rw (short_is, live_is, zeroed_is) at same in
    rw (short_is, live_is, zeroed_is) (zeroed_laid table bytes at, omega arith)
some_case table bytes false false false short_is live_is zeroed_is same = rw (short_is, live_is, zeroed_is) (none_laid table (length bytes), omega arith)

journal_case : (table : Table) (len : Option ℕ) (bytes : Option (List ℕ)) → option_map length bytes ≡ len → table.sector ≡ (journal_of bytes table.page_size).sector
    → IsJournalLaid table (or_none len) (journal_of bytes table.page_size)
unfolding journal_of
journal_case table len None long same = record { laid = none_laid table (or_none len); held = λ k d within. absurd (omega arith); order = omega arith }
journal_case table len (Some bytes) long same =
    let size : length bytes ≡ or_none len = ap or_none long in
    let both = some_case table bytes _ _ _ refl refl refl same in
    let held = journal_held bytes table.page_size in
    subst (λ n. IsJournalLaid table n (journal_of (Some bytes) table.page_size)) size
    (record { laid = both.0; held = λ k d within. omega (arith, held k d within); order = both.1 })

pub journal_laid : (table : Table) (len : Option ℕ) (journal : RollbackJournal) → IsJournalOf table.page_size len journal → table.sector ≡ journal.sector
    → IsJournalLaid table (or_none len) journal
journal_laid table len journal of same =
    let at : table.sector ≡ (journal_of of.bytes table.page_size).sector = same ∙ ap (λ (j : RollbackJournal). j.sector) of.read in
    subst (λ j. IsJournalLaid table (or_none len) j) (sym of.read) (journal_case table len of.bytes of.long at)

-- ---- the table

some_image : (a b : Image) → Some a ≡ Some b → a ≡ b
some_image a b e = ap (λ o. unwrap_or o a) e

frame_case : (page_size : ℕ) (lengths : Lengths) (wal : Log) (back : List Image) (i : ℕ) (image : Image) → IsLogOf page_size lengths.wal wal → i < length wal.slots
    → slice_get (map frame_image wal.slots ++ back) i ≡ Some image
    → (image.part ≡ Wal) × (image.offset ≡ frame_at page_size i + 24) × (image.offset + page_size ≤ length_of lengths Wal)
frame_case page_size lengths wal back i image log within is =
    elim (slice_get_cases wal.slots i).1 [
      | inl found ↦
          let there : slice_get (map frame_image wal.slots ++ back) i ≡ Some (frame_image found.0) =
          slice_front (map frame_image wal.slots) back i (omega (arith, within, length-map wal.slots frame_image)) ∙ slice_get-map frame_image wal.slots i ∙ ap (option_map frame_image) found.2 in
          let same = some_image (frame_image found.0) image (sym there ∙ is) in
          let laid = log_laid page_size lengths.wal wal i found.0 log found.2 in
          rw (← same) (refl, laid.0, laid.1)
      | inr past ↦ absurd (omega (arith, past.0, within))
    ]

record_case : (table : Table) (lengths : Lengths) (wal : Log) (journal : RollbackJournal) (i : ℕ) (image : Image) → IsJournalLaid table (or_none lengths.journal) journal
    → slice_get (map frame_image wal.slots ++ map record_image journal.entries) (length wal.slots + i) ≡ Some image
    → (image.part ≡ Journal) × (image.offset + table.page_size ≤ length_of lengths Journal)
record_case table lengths wal journal i image laid is =
    let front = map frame_image wal.slots in
    let back = map record_image journal.entries in
    let moved : slice_get back i ≡ Some image =
    sym (slice_back front back i) ∙ ap (λ n. slice_get (front ++ back) (n + i)) (length-map wal.slots frame_image) ∙ is in
    elim (slice_get_cases journal.entries i).1 [
      | inl found ↦
          let there : slice_get back i ≡ Some (record_image found.0) = slice_get-map record_image journal.entries i ∙ ap (option_map record_image) found.2 in
          let same = some_image (record_image found.0) image (sym there ∙ moved) in
          let held = laid.held i found.0 (omega (arith, found.1)) in
          let at : slice_index_or journal.entries i found.0 ≡ found.0 = found.3 in
          rw (← same) (refl, rw at at held)
      | inr past ↦
          let none = slice_get_within back i image moved in
          absurd (omega (arith, past.0, none, length-map journal.entries record_image))
    ]

pages_few : (len page_size : ℕ) → 512 ≤ page_size → len / page_size * 512 ≤ len
pages_few len page_size least =
    let whole = div-add-mod' len page_size in
    let wide : len / page_size * 512 ≤ len / page_size * page_size = mul-le-mul_left (len / page_size) least in
    omega (arith, whole, wide)

entries_few : (table : Table) (len : ℕ) (journal : RollbackJournal) → 512 ≤ table.page_size → IsJournalLaid table len journal → length journal.entries * 512 ≤ len
entries_few table len journal least laid =
    let many : length journal.entries ≡ length (flat_map (run_offsets table) (stretches_of journal journal.state)) =
    sym (length-map journal.entries (λ (entry : Entry). entry.offset)) ∙ ap length laid.laid.offsets in
    elim (cases_lt 0 (length (flat_map (run_offsets table) (stretches_of journal journal.state)))) [
      | inl some ↦
          let few = records_few table len 0 0 (stretches_of journal journal.state) least laid.laid.follow laid.laid.ends some in
          omega (arith, many, few)
      | inr none ↦ omega (arith, many, none)
    ]

-- the offsets of the journal's images
stored_offsets : (slots : List Slot) (entries : List Entry)
    → map (λ (image : Image). image.offset) (drop (length slots) (map frame_image slots ++ map record_image entries)) ≡ map (λ (entry : Entry). entry.offset) entries
stored_offsets slots entries =
    ap (λ n. map (λ (image : Image). image.offset) (drop n (map frame_image slots ++ map record_image entries))) (sym (length-map slots frame_image))
    ∙ ap (map (λ (image : Image). image.offset)) (drop-append_seam (map frame_image slots) (map record_image entries))
    ∙ map_both (λ (image : Image). image.offset) record_image entries

pub table_laid : (page_size : ℕ) (lengths : Lengths) (wal : Log) (journal : RollbackJournal) → IsPageSize page_size → AreSmall lengths
    → IsLogOf page_size lengths.wal wal → IsJournalOf page_size lengths.journal journal → journal.sector < 2 ^ 32 → length (stretches_of journal journal.state) < 2 ^ 32
    → IsTable (table_of page_size lengths wal journal)
unfolding table_of
table_laid page_size lengths wal journal size small log of sectors runs =
    let front = map frame_image wal.slots in
    let back = map record_image journal.entries in
    let table = kept page_size lengths (length wal.slots) (front ++ back) (head_len_of journal.state) journal.sector (stretches_of journal journal.state) in
    let laid = journal_laid table lengths.journal journal of refl in
    let long : length (front ++ back) ≡ length wal.slots + length journal.entries =
    length-append front back ∙ ap (λ n. n + length back) (length-map wal.slots frame_image) ∙ ap (λ n. length wal.slots + n) (length-map journal.entries record_image) in
    record {
      some = omega (arith, size.least);
      least = size.greatest;
      small = small;
      few = omega (arith, long, pages_few lengths.database page_size size.least, frames_few page_size lengths.wal wal size.least log, entries_few table (or_none lengths.journal) journal size.least laid, small.database, small.wal, small.journal);
      fewer = omega (arith, long);
      frames = λ i image within is. frame_case page_size lengths wal back i image log within is;
      records = λ i image is. record_case table lengths wal journal i image laid is;
      offsets = stored_offsets wal.slots journal.entries ∙ laid.laid.offsets;
      sector = laid.order;
      sectors = sectors;
      runs = runs;
      follow = laid.laid.follow;
    }
