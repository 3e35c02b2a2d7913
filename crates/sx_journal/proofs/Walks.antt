-- The walk over the headers of a live journal: it goes on, it ends, and it meets each segment once.
use Rattle.std.proofs.Common.{◌≡◌, ℕ, zero, suc, ◌+◌, ◌-◌, ◌*◌, ◌/◌, ◌<◌, ◌≤◌, min, Bool, true, false, cond, nat_le, List, ◌∷◌, length, Option, Some, None, IfSome, refl, ap, ◌∙◌, arith, div-le_self, leb-true, le-mul_of_pos_right}
use Rattle.std.specs.Int.{next_multiple_of}
use Rattle.std.proofs.lemmas.Bool.{and_parts}
use Rattle.std.proofs.lemmas.Option.{cond_some}
use Rattle.sx_journal.specs.Header.{count_at, has_header}
use Rattle.sx_journal.specs.Segments.{record_len, whole_records, is_counted, records_behind, following, segment_at, segments_from}

-- how many bytes stand from the next header on
abbrev pub left : ℕ → Option ℕ → ℕ
left len None = 0
left len (Some header) = len - header

-- how far the walk has come
abbrev pub reached : ℕ → Option ℕ → ℕ
reached len None = len
reached len (Some header) = header

-- the bytes of the next header are there
abbrev pub IsHeld : List ℕ → Option ℕ → Type 0
IsHeld bytes next = IfSome next (λ header. header + 28 ≤ length bytes)

has_header_held : (bytes : List ℕ) (place : ℕ) → has_header bytes place ≡ true → place + 28 ≤ length bytes
unfolding has_header
has_header_held bytes place is = leb-true _ _ (and_parts (nat_le (place + 28) (length bytes)) _ is).0

behind_case : (count there : ℕ) (b : Bool) → cond b (min count there) there ≤ there
behind_case count there true = omega arith
behind_case count there false = omega arith

-- no more records are behind a header than are there
pub behind_within : (bytes : List ℕ) (page_size sector header : ℕ)
    → records_behind bytes page_size sector header ≤ whole_records bytes page_size (header + sector)
unfolding records_behind
behind_within bytes page_size sector header =
    behind_case (count_at bytes header) (whole_records bytes page_size (header + sector)) (is_counted (count_at bytes header))

pub behind_few : (bytes : List ℕ) (page_size sector header : ℕ)
    → records_behind bytes page_size sector header ≤ length bytes - (header + sector)
unfolding whole_records
behind_few bytes page_size sector header =
    let within = behind_within bytes page_size sector header in
    let part : (length bytes - (header + sector)) / record_len page_size ≤ length bytes - (header + sector) = div-le_self _ _ in
    omega (arith, within, part)

-- what is known of the header after one
record Follows (bytes : List ℕ) (page_size sector header next : ℕ) : Type 0 where
  held : next + 28 ≤ length bytes
  beyond : header + sector + records_behind bytes page_size sector header * record_len page_size ≤ next

counted_case : (count there : ℕ) (b : Bool) → b ≡ true → count ≤ there → cond b (min count there) there ≡ count
counted_case count there true is within = omega arith
counted_case count there false is within = cc

follows : (bytes : List ℕ) (page_size sector header next : ℕ) → following bytes page_size sector header ≡ Some next
    → Follows bytes page_size sector header next
unfolding following records_behind
follows bytes page_size sector header next is =
    let count = count_at bytes header in
    let there = whole_records bytes page_size (header + sector) in
    let end = header + sector + count * record_len page_size in
    let parts = cond_some _ (next_multiple_of end sector) next is in
    let counted = and_parts (is_counted count) _ parts.0 in
    let whole = and_parts (nat_le count there) _ counted.1 in
    let all = counted_case count there (is_counted count) counted.0 (leb-true _ _ whole.0) in
    record {
      held = rw parts.1 at (has_header_held bytes (next_multiple_of end sector) whole.1);
      beyond = rw (all, ← parts.1) (omega arith);
    }

held_case : (bytes : List ℕ) (page_size sector header : ℕ) (next : Option ℕ) → following bytes page_size sector header ≡ next
    → IsHeld bytes next
held_case bytes page_size sector header None is = tt
held_case bytes page_size sector header (Some next) is = (follows bytes page_size sector header next is).held

-- the bytes of the header that follows are there
pub held_next : (bytes : List ℕ) (page_size sector header : ℕ) → IsHeld bytes (following bytes page_size sector header)
held_next bytes page_size sector header = held_case bytes page_size sector header _ refl

left_case : (bytes : List ℕ) (page_size sector header : ℕ) (next : Option ℕ) → following bytes page_size sector header ≡ next
    → 0 < sector → header + 28 ≤ length bytes → left (length bytes) next < length bytes - header
left_case bytes page_size sector header None is some held = omega arith
left_case bytes page_size sector header (Some next) is some held =
    let goes_on = follows bytes page_size sector header next is in
    omega (arith, goes_on.held, goes_on.beyond)

-- the walk comes nearer to the end of the file
pub left_falls : (bytes : List ℕ) (page_size sector header : ℕ) → 0 < sector → header + 28 ≤ length bytes
    → left (length bytes) (following bytes page_size sector header) < length bytes - header
left_falls bytes page_size sector header some held = left_case bytes page_size sector header _ refl some held

reached_case : (bytes : List ℕ) (page_size sector header : ℕ) (next : Option ℕ) → following bytes page_size sector header ≡ next
    → 0 < sector → header + 28 ≤ length bytes
    → header + (records_behind bytes page_size sector header + 1) ≤ reached (length bytes) next
reached_case bytes page_size sector header None is some held =
    omega (arith, behind_few bytes page_size sector header)
reached_case bytes page_size sector header (Some next) is some held =
    let goes_on = follows bytes page_size sector header next is in
    let many : records_behind bytes page_size sector header ≤ records_behind bytes page_size sector header * record_len page_size
    = le-mul_of_pos_right _ (omega arith) in
    omega (arith, goes_on.beyond, many)

-- the walk comes further than the records behind the header are many
pub reached_more : (bytes : List ℕ) (page_size sector header : ℕ) → 0 < sector → header + 28 ≤ length bytes
    → header + (records_behind bytes page_size sector header + 1) ≤ reached (length bytes) (following bytes page_size sector header)
reached_more bytes page_size sector header some held = reached_case bytes page_size sector header _ refl some held

-- the bound on the number of segments doesn't matter from there on
fuel_same : (bytes : List ℕ) (page_size sector : ℕ) → 0 < sector → (m n first : ℕ) (next : Option ℕ) → IsHeld bytes next
    → left (length bytes) next ≤ m → left (length bytes) next ≤ n
    → segments_from m bytes page_size sector first next ≡ segments_from n bytes page_size sector first next
fuel_same bytes page_size sector some zero zero first None held enough also = refl
fuel_same bytes page_size sector some zero (suc n) first None held enough also = refl
fuel_same bytes page_size sector some (suc m) zero first None held enough also = refl
fuel_same bytes page_size sector some (suc m) (suc n) first None held enough also = refl
fuel_same bytes page_size sector some zero n first (Some header) held enough also = absurd (omega arith)
fuel_same bytes page_size sector some (suc m) zero first (Some header) held enough also = absurd (omega arith)
fuel_same bytes page_size sector some (suc m) (suc n) first (Some header) held enough also =
    let falls = left_falls bytes page_size sector header some held in
    ap (λ rest. segment_at bytes page_size sector header first ∷ rest)
    (fuel_same bytes page_size sector some m n (first + records_behind bytes page_size sector header)
    (following bytes page_size sector header) (held_next bytes page_size sector header) (omega arith) (omega arith))

-- one header more is met
pub segments_next : (bytes : List ℕ) (page_size sector first header : ℕ) → 0 < sector → header + 28 ≤ length bytes
    → segments_from (length bytes - header) bytes page_size sector first (Some header)
    ≡ segment_at bytes page_size sector header first
    ∷ segments_from (left (length bytes) (following bytes page_size sector header)) bytes page_size sector
    (first + records_behind bytes page_size sector header) (following bytes page_size sector header)
segments_next bytes page_size sector first header some held =
    let falls = left_falls bytes page_size sector header some held in
    let one : length bytes - header ≡ suc (length bytes - header - 1) = omega arith in
    ap (λ most. segments_from most bytes page_size sector first (Some header)) one
    ∙ ap (λ rest. segment_at bytes page_size sector header first ∷ rest)
    (fuel_same bytes page_size sector some (length bytes - header - 1) (left (length bytes) (following bytes page_size sector header))
    (first + records_behind bytes page_size sector header) (following bytes page_size sector header)
    (held_next bytes page_size sector header) (omega arith) (omega arith))
