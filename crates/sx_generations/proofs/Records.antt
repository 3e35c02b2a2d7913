-- The records of a zeroed journal, and how the list of groups grows.
use Rattle.std.proofs.Common.{◌≡◌, ℕ, ◌+◌, ◌*◌, ◌^◌, ◌<◌, ◌≤◌, Bool, true, false, if◌then◌else◌, List, [], ◌∷◌, ◌++◌, length, map, take, get_or, Some, refl, sym, ap, ◌∙◌, arith, slice_get, nat_lt, All}
use Rattle.std.specs.Option.{option_map}
use Rattle.std.specs.List.{range_with_len}
use Rattle.std.proofs.lemmas.List.{length-map, map-append, take_more, take_all, length-take}
use Rattle.std.proofs.lemmas.List.Elements.{All-weaker, All-same}
use Rattle.std.proofs.lemmas.List.FromFn.{length-map-range_with_len, get_or-map-range_with_len}
use Rattle.std.proofs.lemmas.Option.{slice_get-map, slice_get_within, slice_get-get_or, get_or_from_slice_get}
use Rattle.sx_base.specs.declared.moment.Class.TheVariants.{Unchecked}
use Rattle.sx_bytes.specs.PageSize.{IsPageSize}
use Rattle.sx_journal.specs.declared.entry.Entry.{Entry}
use Rattle.sx_journal.specs.declared.state.JournalState.{JournalState}
use Rattle.sx_journal.specs.declared.state.JournalState.TheVariants.{Short, Zeroed, Alien}
use Rattle.sx_journal.specs.Header.{is_live, is_zeroed}
use Rattle.sx_journal.specs.Segments.{record_len, whole_records}
use Rattle.sx_journal.specs.Entries.{Record, record_from, unchecked}
use Rattle.sx_journal.specs.Journal.{Journal, headless, live_journal, journal_of}
use Rattle.sx_journal.proofs.Held.{journal_held}
use Rattle.sx_generations.specs.declared.neighbours.Streak.{Streak}
use Rattle.sx_generations.specs.declared.groups.Group.{Group}
use Rattle.sx_generations.specs.Neighbours.{streaks_of}
use Rattle.sx_generations.specs.Confirmed.{has_no_header, nonce_of, confirms, group_of, groups_of, groups_in, confirmed_of, AreRecordsOf, IsJournal}
use Rattle.sx_generations.proofs.Streaks.{few_streaks, none_of_one}

-- ---- where the records stand

-- of the cases of a journal one alone has no header
zeroed_case : (short live zeroed : Bool) (lives : Journal) (entries : List Entry) → has_no_header lives.state ≡ false
    → has_no_header (if short then headless Short [] else (if live then lives else (if zeroed then headless Zeroed entries else headless Alien []))).state ≡ true
    → (if short then headless Short [] else (if live then lives else (if zeroed then headless Zeroed entries else headless Alien []))).entries ≡ entries
zeroed_case true live zeroed lives entries other is = cc
zeroed_case false true zeroed lives entries other is = cc
zeroed_case false false true lives entries other is = refl
zeroed_case false false false lives entries other is = cc

live_has : (bytes : List ℕ) (page_size : ℕ) → has_no_header (live_journal bytes page_size).state ≡ false
unfolding live_journal
live_has bytes page_size = refl

zeroed_entries : (bytes : List ℕ) (page_size : ℕ) → has_no_header (journal_of (Some bytes) page_size).state ≡ true → (journal_of (Some bytes) page_size).entries ≡ unchecked bytes page_size
unfolding journal_of
zeroed_entries bytes page_size is =
    zeroed_case (nat_lt (length bytes) 28) (is_live bytes page_size) (is_zeroed bytes) (live_journal bytes page_size) (unchecked bytes page_size) (live_has bytes page_size) is

-- the page of record i begins 4 bytes behind the record
unchecked_place : (bytes : List ℕ) (page_size i : ℕ) (entry : Entry) → slice_get (unchecked bytes page_size) i ≡ Some entry → entry.offset ≡ 512 + i * record_len page_size + 4
unfolding unchecked record_from
unchecked_place bytes page_size i entry found =
    let item : ℕ → Record = λ k. record { place = 512 + k * record_len page_size; nonce = 0 } in
    let read : Record → Entry = λ r. record_from bytes page_size Unchecked r.place in
    let count = whole_records bytes page_size 512 in
    let records = map item (range_with_len 0 count) in
    let inside = slice_get_within (map read records) i entry found in
    let below : i < count = omega (arith, length-map records read, length-map-range_with_len item 0 count) in
    let there : slice_get records i ≡ Some (item i) =
    slice_get-get_or records i (item i) (omega (arith, length-map-range_with_len item 0 count))
    ∙ ap (λ r. Some r) (get_or-map-range_with_len item 0 count i i (item i) below (omega arith)) in
    let is : Some (read (item i)) ≡ Some entry = sym (slice_get-map read records i ∙ ap (option_map read) there) ∙ found in
    let same : read (item i) ≡ entry = cc in
    sym (ap (λ (e : Entry). e.offset) same)

pub record_place : (bytes : List ℕ) (page_size i : ℕ) (journal : Journal) (entry : Entry) → AreRecordsOf page_size bytes journal → has_no_header journal.state ≡ true
    → slice_get journal.entries i ≡ Some entry → entry.offset ≡ 512 + i * record_len page_size + 4
record_place bytes page_size i journal entry are zeroed found =
    unchecked_place bytes page_size i entry
    (ap (λ (entries : List Entry). slice_get entries i) (sym (are.entries ∙ zeroed_entries bytes page_size (sym are.zeroed ∙ zeroed))) ∙ found)

-- each page lies in the file
pub pages_within : (bytes : List ℕ) (page_size : ℕ) (journal : Journal) → AreRecordsOf page_size bytes journal → All (λ (entry : Entry). entry.offset + page_size ≤ length bytes) journal.entries
pages_within bytes page_size journal are =
    All-same (λ (entry : Entry). entry.offset + page_size ≤ length bytes) journal.entries (journal_of (Some bytes) page_size).entries are.entries
    (All-weaker (λ (entry : Entry). entry.offset + page_size + 4 ≤ length bytes) (λ (entry : Entry). entry.offset + page_size ≤ length bytes) (λ entry held. omega arith)
    (journal_of (Some bytes) page_size).entries (journal_held bytes page_size))

-- two records that follow one another stand a page and 8 bytes apart
pub records_apart : (bytes : List ℕ) (page_size : ℕ) (journal : Journal) (first second : Entry) → AreRecordsOf page_size bytes journal → has_no_header journal.state ≡ true
    → slice_get journal.entries 0 ≡ Some first → slice_get journal.entries 1 ≡ Some second → second.offset ≡ first.offset + (page_size + 8)
records_apart bytes page_size journal first second are zeroed is_first is_second =
    let one = record_place bytes page_size 0 journal first are zeroed is_first in
    let two = record_place bytes page_size 1 journal second are zeroed is_second in
    omega arith

-- ---- the lists grow

-- an item more of what is made of each
pub made_more : {X Y : Type 0} (f : X → Y) (xs : List X) (i : ℕ) (x : X) (made new : List Y) (y : Y) → made ≡ map f (take i xs) → i < length xs → get_or xs i x ≡ x → y ≡ f x
    → new ≡ made ++ y ∷ [] → new ≡ map f (take (i + 1) xs)
made_more f xs i x made new y so_far below is is_made is_new =
    is_new
    ∙ ap (λ ys. ys ++ y ∷ []) so_far
    ∙ ap (λ last. map f (take i xs) ++ last ∷ []) (is_made ∙ ap f (sym is))
    ∙ sym (ap (map f) (take_more xs i x below) ∙ map-append f (take i xs) (get_or xs i x ∷ []))

-- the item at a place
pub made_next : {X Y : Type 0} (f : X → Y) (xs : List X) (i : ℕ) (x : X) (made new : List Y) (y : Y) → made ≡ map f (take i xs) → slice_get xs i ≡ Some x → y ≡ f x
    → new ≡ made ++ y ∷ [] → new ≡ map f (take (i + 1) xs)
made_next f xs i x made new y so_far found = made_more f xs i x made new y so_far (slice_get_within xs i x found) (get_or_from_slice_get xs i x x found)

-- ---- the groups of a journal

groups_by : (page_size : ℕ) (bytes : List ℕ) (state : JournalState) (entries : List Entry) (b : Bool) → has_no_header state ≡ b
    → groups_in page_size bytes state entries ≡ (if b then groups_of (map (nonce_of page_size bytes) entries) else [])
unfolding groups_in
groups_by page_size bytes state entries b is = ap (λ (z : Bool). if z then groups_of (map (nonce_of page_size bytes) entries) else []) is

-- a journal with a header has none
pub none_with_header : (page_size : ℕ) (bytes : List ℕ) (journal : Journal) → AreRecordsOf page_size bytes journal → has_no_header journal.state ≡ false → [] ≡ confirmed_of page_size bytes
unfolding confirmed_of
none_with_header page_size bytes journal are other =
    sym (groups_by page_size bytes (journal_of (Some bytes) page_size).state (journal_of (Some bytes) page_size).entries false (sym are.zeroed ∙ other))

none_of_few : (nonces : List ℕ) → length nonces < 2 → groups_of nonces ≡ []
unfolding groups_of
none_of_few nonces few = ap (map (group_of nonces)) (none_of_one (confirms nonces) (length nonces) few)

few_case : (page_size : ℕ) (bytes : List ℕ) (entries : List Entry) (b : Bool) → length entries < 2 → (if b then groups_of (map (nonce_of page_size bytes) entries) else []) ≡ []
few_case page_size bytes entries true few = none_of_few (map (nonce_of page_size bytes) entries) (omega (arith, length-map entries (nonce_of page_size bytes)))
few_case page_size bytes entries false few = refl

-- a journal with fewer than two records has none
pub none_with_few : (page_size : ℕ) (bytes : List ℕ) (journal : Journal) → AreRecordsOf page_size bytes journal → length journal.entries < 2 → [] ≡ confirmed_of page_size bytes
unfolding confirmed_of
none_with_few page_size bytes journal are few =
    let read = journal_of (Some bytes) page_size in
    let len = ap (λ (entries : List Entry). length entries) are.entries in
    sym (groups_by page_size bytes read.state read.entries (has_no_header read.state) refl ∙ few_case page_size bytes read.entries (has_no_header read.state) (omega arith))

-- the groups of a zeroed journal
pub groups_are : (page_size size : ℕ) (bytes : List ℕ) (journal : Journal) (groups : List Group) → AreRecordsOf page_size bytes journal → has_no_header journal.state ≡ true → size ≡ page_size
    → groups ≡ groups_of (map (nonce_of size bytes) journal.entries) → groups ≡ confirmed_of page_size bytes
unfolding confirmed_of
groups_are page_size size bytes journal groups are zeroed same is =
    let read = journal_of (Some bytes) page_size in
    is
    ∙ ap (λ n. groups_of (map (nonce_of n bytes) journal.entries)) same
    ∙ ap (λ (entries : List Entry). groups_of (map (nonce_of page_size bytes) entries)) are.entries
    ∙ sym (groups_by page_size bytes read.state read.entries true (sym are.zeroed ∙ zeroed))

-- all groups were made
pub made_all : (nonces : List ℕ) (n : ℕ) (streaks : List Streak) (groups : List Group) → groups ≡ map (group_of nonces) (take n streaks) → length streaks ≤ n
    → streaks ≡ streaks_of (confirms nonces) (length nonces) → groups ≡ groups_of nonces
unfolding groups_of
made_all nonces n streaks groups so_far end are = so_far ∙ ap (map (group_of nonces)) (take_all n streaks end ∙ are)

-- there are few of them
pub made_few : (nonces : List ℕ) (n : ℕ) (streaks : List Streak) (groups : List Group) → groups ≡ map (group_of nonces) (take n streaks)
    → streaks ≡ streaks_of (confirms nonces) (length nonces) → length nonces < 2 ^ 32 → length groups < 2 ^ 32
made_few nonces n streaks groups so_far are few =
    let len = ap (λ xs. length xs) so_far ∙ length-map (take n streaks) (group_of nonces) in
    let most = few_streaks (confirms nonces) (length nonces) in
    let all = ap (λ xs. length xs) are in
    let part = length-take n streaks in
    omega arith

-- ---- a journal that was read is the index of its bytes

pub was_journal : (page_size : ℕ) (bytes own : List ℕ) (journal : Journal) → IsPageSize page_size → journal ≡ journal_of (Some bytes) page_size → own ≡ bytes → IsJournal own journal
was_journal page_size bytes own journal size read same =
    rw same
    (record {
      page_size = page_size;
      are = record {
        size = size;
        zeroed = ap (λ (j : Journal). has_no_header j.state) read;
        entries = ap (λ (j : Journal). j.entries) read;
      };
    })
