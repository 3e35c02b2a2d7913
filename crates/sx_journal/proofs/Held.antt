-- The records of a journal lie in its file, and their classes change neither their places nor their order.
use Rattle.std.proofs.Common.{◌≡◌, ℕ, zero, suc, ◌+◌, ◌*◌, ◌<◌, ◌≤◌, Bool, true, false, nat_lt, List, [], ◌∷◌, length, map, take, drop, All, Option, Some, None, refl, sym, ap, ◌∙◌, arith, le_refl, zero-add}
use Rattle.std.specs.List.{prefix_len}
use Rattle.std.proofs.lemmas.List.{length-map}
use Rattle.std.proofs.lemmas.List.Elements.{All-nil, All-append, All-map, All-take, All-drop, All-from_get_or}
use Rattle.std.proofs.lemmas.List.FromFn.{length-map-range_with_len, get_or-map-range_with_len}
use Rattle.sx_base.specs.declared.moment.Class.{Class}
use Rattle.sx_base.specs.declared.moment.Class.TheVariants.{Good, Bad, After, Unchecked}
use Rattle.sx_journal.specs.declared.entry.Entry.{Entry}
use Rattle.sx_journal.specs.Header.{sector_at, is_live, is_zeroed}
use Rattle.sx_journal.specs.Segments.{record_len, whole_records, records_behind, following, segment_at, segments_from, segments_of}
use Rattle.sx_journal.specs.Entries.{Record, record_fits, records_from, records_in, records_of, record_from, entries_of, graded, unchecked}
use Rattle.sx_journal.specs.Journal.{live_journal, journal_of}
use Rattle.sx_journal.proofs.Gradings.{record_held}
use Rattle.sx_journal.proofs.Grades.{grades, graded_is}
use Rattle.sx_journal.proofs.Walks.{behind_within}

-- the record lies in the file
abbrev pub IsRecordHeld : List ℕ → ℕ → Record → Type 0
IsRecordHeld bytes page_size item = item.place + record_len page_size ≤ length bytes

-- the page of the record and the checksum behind it lie in the file
abbrev pub IsEntryHeld : List ℕ → ℕ → Entry → Type 0
IsEntryHeld bytes page_size entry = entry.offset + page_size + 4 ≤ length bytes

pub records_held : (bytes : List ℕ) (page_size start nonce count : ℕ) → count ≤ whole_records bytes page_size start
    → All (IsRecordHeld bytes page_size) (records_from page_size start nonce count)
records_held bytes page_size start nonce count there =
    let item : ℕ → Record = λ k. record { place = start + k * record_len page_size; nonce = nonce } in
    let long = length-map-range_with_len item 0 count in
    All-from_get_or (IsRecordHeld bytes page_size) (records_from page_size start nonce count) (item 0)
    (λ i within.
    let below : i < count = omega (arith, long) in
    let at = get_or-map-range_with_len item 0 count i i (item 0) below (zero-add i) in
    rw at (record_held bytes page_size start count i below there))

-- the records of each segment
segments_held : (bytes : List ℕ) (page_size sector most first : ℕ) (next : Option ℕ)
    → All (IsRecordHeld bytes page_size) (records_of page_size sector (segments_from most bytes page_size sector first next))
unfolding segment_at
segments_held bytes page_size sector zero first None = All-nil (IsRecordHeld bytes page_size)
segments_held bytes page_size sector (suc most) first None = All-nil (IsRecordHeld bytes page_size)
segments_held bytes page_size sector zero first (Some header) = All-nil (IsRecordHeld bytes page_size)
segments_held bytes page_size sector (suc most) first (Some header) =
    All-append (IsRecordHeld bytes page_size)
    (records_in page_size sector (segment_at bytes page_size sector header first))
    (records_of page_size sector (segments_from most bytes page_size sector (first + records_behind bytes page_size sector header) (following bytes page_size sector header)))
    (records_held bytes page_size (header + sector) _ (records_behind bytes page_size sector header) (behind_within bytes page_size sector header))
    (segments_held bytes page_size sector most (first + records_behind bytes page_size sector header) (following bytes page_size sector header))

-- the records stand where they were read
entries_held : (bytes : List ℕ) (page_size : ℕ) (class : Class) (records : List Record)
    → All (IsRecordHeld bytes page_size) records → All (IsEntryHeld bytes page_size) (entries_of bytes page_size class records)
unfolding record_from
entries_held bytes page_size class records held =
    All-map (IsEntryHeld bytes page_size) (λ item. record_from bytes page_size class item.place) records
    (λ k d within. omega (arith, held k d within))

graded_held : (bytes : List ℕ) (page_size : ℕ) (records : List Record)
    → All (IsRecordHeld bytes page_size) records → All (IsEntryHeld bytes page_size) (graded bytes page_size records)
unfolding graded
graded_held bytes page_size records held =
    let good = prefix_len (record_fits bytes page_size) records in
    let P = IsRecordHeld bytes page_size in
    let E = IsEntryHeld bytes page_size in
    All-append E _ _
    (All-append E _ _
    (entries_held bytes page_size Good (take good records) (All-take P good records held))
    (entries_held bytes page_size Bad (take 1 (drop good records)) (All-take P 1 (drop good records) (All-drop P good records held))))
    (entries_held bytes page_size After (drop (good + 1) records) (All-drop P (good + 1) records held))

live_held : (bytes : List ℕ) (page_size : ℕ) → All (IsEntryHeld bytes page_size) (live_journal bytes page_size).entries
unfolding live_journal segments_of
live_held bytes page_size =
    graded_held bytes page_size _ (segments_held bytes page_size (sector_at bytes 0) (length bytes) 0 (Some 0))

zeroed_held : (bytes : List ℕ) (page_size : ℕ) → All (IsEntryHeld bytes page_size) (unchecked bytes page_size)
unfolding unchecked
zeroed_held bytes page_size =
    entries_held bytes page_size Unchecked _ (records_held bytes page_size 512 0 (whole_records bytes page_size 512) (le_refl _))

held_case : (bytes : List ℕ) (page_size : ℕ) (short live zeroed : Bool) → nat_lt (length bytes) 28 ≡ short → is_live bytes page_size ≡ live
    → is_zeroed bytes ≡ zeroed → All (IsEntryHeld bytes page_size) (journal_of (Some bytes) page_size).entries
unfolding journal_of
held_case bytes page_size true live zeroed short_is live_is zeroed_is = rw short_is (All-nil (IsEntryHeld bytes page_size))
held_case bytes page_size false true zeroed short_is live_is zeroed_is = rw (short_is, live_is) (live_held bytes page_size)
held_case bytes page_size false false true short_is live_is zeroed_is = rw (short_is, live_is, zeroed_is) (zeroed_held bytes page_size)
held_case bytes page_size false false false short_is live_is zeroed_is = rw (short_is, live_is, zeroed_is) (All-nil (IsEntryHeld bytes page_size))

-- each record of a journal lies in its file
pub journal_held : (bytes : List ℕ) (page_size : ℕ) → All (IsEntryHeld bytes page_size) (journal_of (Some bytes) page_size).entries
journal_held bytes page_size = held_case bytes page_size _ _ _ refl refl refl

offset-entries_of : (bytes : List ℕ) (page_size : ℕ) (class : Class) (records : List Record)
    → map (λ entry. entry.offset) (entries_of bytes page_size class records) ≡ map (λ item. item.place + 4) records
unfolding record_from
offset-entries_of bytes page_size class [] = refl
offset-entries_of bytes page_size class (item ∷ rest) = ap (λ places. (item.place + 4) ∷ places) (offset-entries_of bytes page_size class rest)

offset_case : (bytes : List ℕ) (page_size : ℕ) (item : Record) (rest : List Record) (b : Bool) → record_fits bytes page_size item ≡ b
    → map (λ entry. entry.offset) (grades bytes page_size rest) ≡ map (λ r. r.place + 4) rest
    → map (λ entry. entry.offset) (grades bytes page_size (item ∷ rest)) ≡ (item.place + 4) ∷ map (λ r. r.place + 4) rest
unfolding record_from
offset_case bytes page_size item rest true is same = rw is (ap (λ places. (item.place + 4) ∷ places) same)
offset_case bytes page_size item rest false is same =
    rw is (ap (λ places. (item.place + 4) ∷ places) (offset-entries_of bytes page_size After rest))

offset-grades : (bytes : List ℕ) (page_size : ℕ) (records : List Record)
    → map (λ entry. entry.offset) (grades bytes page_size records) ≡ map (λ item. item.place + 4) records
offset-grades bytes page_size [] = refl
offset-grades bytes page_size (item ∷ rest) = offset_case bytes page_size item rest _ refl (offset-grades bytes page_size rest)

-- the classes leave the records where they are, in their order
pub offset-graded : (bytes : List ℕ) (page_size : ℕ) (records : List Record)
    → map (λ entry. entry.offset) (graded bytes page_size records) ≡ map (λ item. item.place + 4) records
offset-graded bytes page_size records =
    ap (map (λ entry. entry.offset)) (sym (graded_is bytes page_size records)) ∙ offset-grades bytes page_size records

pub length-graded : (bytes : List ℕ) (page_size : ℕ) (records : List Record) → length (graded bytes page_size records) ≡ length records
length-graded bytes page_size records =
    sym (length-map (graded bytes page_size records) (λ entry. entry.offset))
    ∙ ap length (offset-graded bytes page_size records)
    ∙ length-map records (λ item. item.place + 4)
