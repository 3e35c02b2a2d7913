-- Where a form is ruled out by a look at a byte or a number, before a record is read.
use Rattle.std.proofs.Common.{◌≡◌, inl, inr, ℕ, zero, suc, ◌+◌, ◌-◌, ◌<◌, ◌≤◌, ◌==◌, Bool, true, false, ◌&&◌, ◌||◌, nat_le, nat_lt, List, [], ◌∷◌, ◌++◌, length, slice_index, Option, Some, None, refl, sym, ap, ◌∙◌, append_assoc, arith, length-append}
use Rattle.std.proofs.lemmas.Bool.Decides.{nat_tests}
use Rattle.std.specs.List.{range_with_len}
use Rattle.sx_bytes.specs.Varints.{IsVarint}
use Rattle.sx_grammar.specs.Shorts.{short_field}
use Rattle.sx_grammar.specs.Sightings.{Sighting}
use Rattle.sx_grammar.specs.Full.{full_at}
use Rattle.sx_grammar.specs.Forms.{IsFull, Begins}
use Rattle.sx_grammar.specs.Clips.{Setting, EndsRowid, has_short_header, goes_on, tail_in}
use Rattle.sx_grammar.specs.Choice.{first_of, tails_from}
use Rattle.sx_grammar.proofs.ShortLemmas.{short_read}
use Rattle.sx_grammar.proofs.FullLemmas.{full_taken}
use Rattle.sx_grammar.proofs.FreedLemmas.{some_bytes, types_some, size_one}
use Rattle.sx_grammar.proofs.ClipLemmas.{TakesTail, tail_read}

-- ---- a whole cell has a payload of two bytes or more

full_payload : (usable : ℕ) (bytes : List ℕ) (sighting : Sighting) (begins : Begins (IsFull usable) bytes sighting) → 2 ≤ begins.accepts.payload
full_payload usable bytes sighting begins =
    let full = begins.accepts in
    let size = some_bytes full.typed.size_text (length full.header) full.typed.size.spells in
    let types = types_some full.types full.types_text full.typed.spelled full.typed.some in
    omega (arith, full.whole, ap length full.typed.parts, length-append full.typed.size_text full.types_text)

abbrev field_value : Option (ℕ × List ℕ) → ℕ
field_value None = 0
field_value (Some read) = read.0

small_begins : (usable : ℕ) (bytes rest : List ℕ) (payload : ℕ) (sighting : Sighting) → short_field bytes ≡ Some (payload, rest) → payload < 2 → Begins (IsFull usable) bytes sighting → ⊥
small_begins usable bytes rest payload sighting found small begins =
    let full = begins.accepts in
    let behind = (full.rowid_text ++ ((full.header ++ full.bodies) ++ full.link)) ++ begins.rest in
    let text : bytes ≡ full.payload_text ++ behind
    = begins.parts ∙ ap (λ span. span ++ begins.rest) full.parts ∙ append_assoc full.payload_text (full.rowid_text ++ ((full.header ++ full.bodies) ++ full.link)) begins.rest in
    let read = short_read full.payload_text behind full.payload full.size in
    let same : payload ≡ full.payload = ap field_value (sym found ∙ ap short_field text ∙ read) in
    let some = full_payload usable bytes sighting begins in
    omega arith

small_by : (usable : ℕ) (bytes rest : List ℕ) (payload : ℕ) (found : Option Sighting) → 480 ≤ usable → short_field bytes ≡ Some (payload, rest) → payload < 2 → full_at usable bytes ≡ found → full_at usable bytes ≡ None
small_by usable bytes rest payload None least read small is = is
small_by usable bytes rest payload (Some sighting) least read small is = absurd (small_begins usable bytes rest payload sighting read small (full_taken usable bytes sighting least is))

pub small_payload : (usable : ℕ) (bytes rest : List ℕ) (payload : ℕ) → 480 ≤ usable → short_field bytes ≡ Some (payload, rest) → payload < 2 → full_at usable bytes ≡ None
small_payload usable bytes rest payload least read small = small_by usable bytes rest payload (full_at usable bytes) least read small refl

-- ---- the header of a tail has at most 127 bytes, so its size is spelled by one

-- what one byte spells
record IsByte (text : List ℕ) : Type 0 where
  pub byte : ℕ
  pub is : text ≡ byte ∷ []
  pub low : byte < 128

byte_of : (text : List ℕ) (value : ℕ) → IsVarint text value → length text ≡ 1 → IsByte text
byte_of [] value spells long = absurd (omega arith)
byte_of (byte ∷ []) value (inl is) long = absurd (omega (arith, is.0))
byte_of (byte ∷ []) value (inr is) long = record { byte = byte; is = refl; low = is.1 }
byte_of (byte ∷ next ∷ text) value spells long = absurd (omega arith)

at_end : (front rest : List ℕ) (byte : ℕ) → slice_index (front ++ (byte ∷ rest)) (length front) ≡ byte
at_end [] rest byte = refl
at_end (first ∷ front) rest byte = at_end front rest byte

tests_true : (e len byte : ℕ) → e < len → byte < 128 → (nat_lt e len && nat_lt byte 128) ≡ true
tests_true e len byte inside low =
    let first : nat_lt e len ≡ true = grind (arith, nat_tests) in
    let second : nat_lt byte 128 ≡ true = grind (arith, nat_tests) in
    rw (first, second) refl

tail_header : (e : ℕ) (setting : Setting) (behind : List ℕ) (sighting : Sighting) → TakesTail e setting behind sighting → has_short_header behind e ≡ true
tail_header e setting behind sighting tail =
    let opened = tail.opened in
    let header = opened.header in
    let long : length tail.rest ≡ length header + length tail.read.bodies = ap length opened.joined ∙ length-append header tail.read.bodies in
    let few : length header ≤ 127 = omega (arith, tail.made.few, long) in
    let one = byte_of opened.typed.size_text (length header) opened.typed.size.spells (size_one header tail.read.types opened.types opened.typed few) in
    let rest : tail.rest ≡ one.byte ∷ (tail.read.types ++ tail.read.bodies)
    = opened.joined ∙ ap (λ front. front ++ tail.read.bodies) (opened.typed.parts ∙ ap (λ text. text ++ tail.read.types) one.is) in
    let whole : behind ≡ tail.end ++ (one.byte ∷ (tail.read.types ++ tail.read.bodies)) = tail.parts ∙ ap (λ rest. tail.end ++ rest) rest in
    let byte : slice_index behind e ≡ one.byte
    = ap (λ (n : ℕ). slice_index behind n) (sym tail.long) ∙ ap (λ list. slice_index list (length tail.end)) whole ∙ at_end tail.end (tail.read.types ++ tail.read.bodies) one.byte in
    let inside : e < length behind = omega (arith, ap length whole, length-append tail.end (one.byte ∷ (tail.read.types ++ tail.read.bodies)), tail.long) in
    tests_true e (length behind) (slice_index behind e) inside (let low = one.low in omega (arith, byte))

header_by : (e : ℕ) (setting : Setting) (behind : List ℕ) (found : Option Sighting) → has_short_header behind e ≡ false → tail_in e setting behind ≡ found → tail_in e setting behind ≡ None
header_by e setting behind None none is = is
header_by e setting behind (Some sighting) none is =
    absurd (let there = tail_header e setting behind sighting (tail_read e setting behind sighting is) in let apart : false ≡ true = sym none ∙ there in true_false apart)
  where
    true_false : false ≡ true → ⊥
    true_false apart = cc

pub no_short_header : (e : ℕ) (setting : Setting) (behind : List ℕ) → has_short_header behind e ≡ false → tail_in e setting behind ≡ None
no_short_header e setting behind none = header_by e setting behind (tail_in e setting behind) none refl

-- ---- a rowid's bytes go on up to its last

ends_at : (nine : Bool) (end : List ℕ) (place : ℕ) → EndsRowid nine end → place + 1 < length end → 128 ≤ slice_index end place
ends_at nine [] place ends inside = absurd (omega arith)
ends_at true (byte ∷ []) place ends inside = absurd (omega arith)
ends_at false (byte ∷ []) place ends inside = absurd (omega arith)
ends_at nine (byte ∷ next ∷ end) zero ends inside = ends.0
ends_at nine (byte ∷ next ∷ end) (suc place) ends inside = ends_at nine (next ∷ end) place ends.1 (omega arith)

in_front : (front rest : List ℕ) (place : ℕ) → place < length front → slice_index (front ++ rest) place ≡ slice_index front place
in_front [] rest place inside = absurd (omega arith)
in_front (byte ∷ front) rest zero inside = refl
in_front (byte ∷ front) rest (suc place) inside = in_front front rest place (omega arith)

on_true : (e len byte : ℕ) → (2 ≤ e → e - 2 < len) → (2 ≤ e → 128 ≤ byte) → (nat_lt e 2 || (nat_lt (e - 2) len && nat_le 128 byte)) ≡ true
on_true e len byte inside high = on_by e len byte (nat_lt e 2) refl inside high
  where
    on_by : (e len byte : ℕ) (few : Bool) → nat_lt e 2 ≡ few → (2 ≤ e → e - 2 < len) → (2 ≤ e → 128 ≤ byte) → (few || (nat_lt (e - 2) len && nat_le 128 byte)) ≡ true
    on_by e len byte true is inside high = refl
    on_by e len byte false is inside high =
        let many : 2 ≤ e = grind (arith, nat_tests) in
        let within = inside many in
        let above = high many in
        let first : nat_lt (e - 2) len ≡ true = grind (arith, nat_tests) in
        let second : nat_le 128 byte ≡ true = grind (arith, nat_tests) in
        rw (first, second) refl

tail_goes_on : (e f : ℕ) (setting : Setting) (behind : List ℕ) (sighting : Sighting) → e ≤ f → TakesTail f setting behind sighting → goes_on behind e ≡ true
tail_goes_on e f setting behind sighting least tail =
    let long : length behind ≡ length tail.end + length tail.rest = ap length tail.parts ∙ length-append tail.end tail.rest in
    on_true e (length behind) (slice_index behind (e - 2))
    (λ many. omega (arith, long, tail.long))
    (λ many.
    let place : (e - 2) + 1 < length tail.end = omega (arith, tail.long) in
    let high = ends_at (tail.made.rowid_len == 9) tail.end (e - 2) tail.made.ends place in
    let same : slice_index behind (e - 2) ≡ slice_index tail.end (e - 2) = ap (λ list. slice_index list (e - 2)) tail.parts ∙ in_front tail.end tail.rest (e - 2) (omega arith) in
    omega (arith, same, high))

later_by : (e f : ℕ) (setting : Setting) (behind : List ℕ) (found : Option Sighting) → goes_on behind e ≡ false → e ≤ f → tail_in f setting behind ≡ found → tail_in f setting behind ≡ None
later_by e f setting behind None none least is = is
later_by e f setting behind (Some sighting) none least is =
    absurd (let there = tail_goes_on e f setting behind sighting least (tail_read f setting behind sighting is) in let apart : false ≡ true = sym none ∙ there in true_false apart)
  where
    true_false : false ≡ true → ⊥
    true_false apart = cc

none_of_range : (find : ℕ → Option Sighting) (first count : ℕ) → ((f : ℕ) → first ≤ f → find f ≡ None) → first_of find (range_with_len first count) ≡ None
unfolding first_of
none_of_range find first zero none = refl
none_of_range find first (suc count) none = rw (none first (omega arith)) (none_of_range find (first + 1) count (λ f past. none f (omega arith)))

pub tails_stop : (setting : Setting) (behind : List ℕ) (e : ℕ) → goes_on behind e ≡ false → tails_from setting behind e ≡ None
unfolding tails_from
tails_stop setting behind e none =
    none_of_range (λ e. tail_in e setting behind) e (9 - e) (λ f least. later_by e f setting behind (tail_in f setting behind) none least refl)
