-- Where a look at the first four bytes rules every form out.
use Rattle.std.proofs.Common.{◌≡◌, inl, inr, if◌then◌else◌, nat_le, ℕ, suc, ◌+◌, ◌-◌, ◌/◌, ◌<◌, ◌≤◌, Bool, true, false, ◌&&◌, ◌||◌, nat_lt, List, [], ◌∷◌, ◌++◌, length, drop, slice_index, Option, Some, None, is_none, refl, sym, ap, ◌∙◌, append_assoc, arith, length-append}
use Rattle.std.proofs.lemmas.Bool.Decides.{nat_tests}
use Rattle.sx_bytes.specs.Varints.{IsVarint}
use Rattle.sx_bytes.proofs.VarintLemmas.{short_byte}
use Rattle.sx_record.specs.SerialTypes.{body_len}
use Rattle.sx_record.specs.Records.{bodies_len}
use Rattle.sx_grammar.specs.declared.shape.ShapeKey.{ShapeKey}
use Rattle.sx_grammar.specs.Shorts.{short_field, IsShort, AreTypes}
use Rattle.sx_grammar.specs.Sightings.{Sighting}
use Rattle.sx_grammar.specs.Records.{IsHeader}
use Rattle.sx_grammar.specs.Full.{full_at, least_body, is_no_header, is_no_cell}
use Rattle.sx_grammar.specs.Forms.{IsFull, Begins}
use Rattle.sx_grammar.specs.Clips.{Setting, cut_in}
use Rattle.sx_grammar.specs.Choice.{accepted_at}
use Rattle.sx_grammar.proofs.ShortLemmas.{short_read}
use Rattle.sx_grammar.proofs.FullLemmas.{full_taken}
use Rattle.sx_grammar.proofs.FreedLemmas.{types_some, size_one}
use Rattle.sx_grammar.proofs.ChoiceLemmas.{accepted_none}

abbrev value_of : Option (ℕ × List ℕ) → ℕ
value_of None = 0
value_of (Some read) = read.0

abbrev rest_in : Option (ℕ × List ℕ) → List ℕ
rest_in None = []
rest_in (Some read) = read.1

-- a number whose first byte is below 128 is that byte
record IsByteNumber (bytes rest : List ℕ) (value : ℕ) : Type 0 where
  pub value_is : value ≡ slice_index bytes 0
  pub rest_is : rest ≡ drop 1 bytes

byte_field : (bytes : List ℕ) → 0 < length bytes → slice_index bytes 0 < 128 → short_field bytes ≡ Some (slice_index bytes 0, drop 1 bytes)
unfolding short_field
byte_field bytes some low = rw (short_byte bytes (slice_index bytes 0) some refl low) refl

byte_number : (bytes text rest : List ℕ) (value : ℕ) → IsShort text value → bytes ≡ text ++ rest → 0 < length bytes → slice_index bytes 0 < 128
    → IsByteNumber bytes rest value
byte_number bytes text rest value short parts some low =
    let same : Some (value, rest) ≡ Some (slice_index bytes 0, drop 1 bytes) = sym (short_read text rest value short) ∙ ap short_field (sym parts) ∙ byte_field bytes some low in
    record { value_is = ap value_of same; rest_is = ap rest_in same }

second : (bytes : List ℕ) (place : ℕ) → slice_index (drop 1 bytes) place ≡ slice_index bytes (suc place)
second [] place = refl
second (byte ∷ bytes) place = refl

drop_long : (bytes : List ℕ) → length (drop 1 bytes) ≡ length bytes - 1
drop_long [] = refl
drop_long (byte ∷ bytes) = omega arith

-- the first of some types, where it has one byte
first_type : (types text more bytes : List ℕ) → AreTypes types text → 0 < length types → bytes ≡ text ++ more → 0 < length bytes → slice_index bytes 0 < 128
    → body_len (slice_index bytes 0) ≤ bodies_len types
first_type [] text more bytes spelled some parts there low = absurd (omega arith)
first_type (type ∷ types) text more bytes spelled some parts there low =
    let first = spelled.0 in
    let behind = spelled.1 ++ more in
    let whole : bytes ≡ first ++ behind = parts ∙ ap (λ t. t ++ more) spelled.2 ∙ append_assoc first spelled.1 more in
    let is = byte_number bytes first behind type spelled.3 whole there low in
    omega (arith, ap body_len is.value_is)

-- no more than the body has
pub byte_body : (type : ℕ) → (type - 12) / 2 ≤ body_len type
unfolding body_len
byte_body type = grind (arith, nat_tests)

looked_by : (type body all : ℕ) (low : Bool) → nat_lt type 128 ≡ low → (type < 128 → body ≤ all) → (if low then body else 0) ≤ all
looked_by type body all true is fits = fits (grind (arith, nat_tests))
looked_by type body all false is fits = omega arith

least_first : (types text more bytes : List ℕ) → AreTypes types text → 0 < length types → bytes ≡ text ++ more → 0 < length bytes
    → least_body (slice_index bytes 0) ≤ bodies_len types
least_first types text more bytes spelled some parts there =
    looked_by (slice_index bytes 0) ((slice_index bytes 0 - 12) / 2) (bodies_len types) (nat_lt (slice_index bytes 0) 128) refl
    (λ low. let body = byte_body (slice_index bytes 0) in omega (arith, body, first_type types text more bytes spelled some parts there low))

types_there : (types text : List ℕ) → AreTypes types text → 0 < length text → 0 < length types
types_there [] text spelled some = absurd (omega (arith, ap length spelled))
types_there (type ∷ types) text spelled some = omega arith

-- the first two, where the first has one byte and more bytes of types follow it
two_bodies : (types text more bytes : List ℕ) → AreTypes types text → 2 ≤ length text → bytes ≡ text ++ more → slice_index bytes 0 < 128
    → least_body (slice_index bytes 0) + least_body (slice_index bytes 1) ≤ bodies_len types
two_bodies [] text more bytes spelled long parts low = absurd (omega (arith, ap length spelled))
two_bodies (type ∷ types) text more bytes spelled long parts low =
    let first = spelled.0 in
    let behind = spelled.1 ++ more in
    let whole : bytes ≡ first ++ behind = parts ∙ ap (λ t. t ++ more) spelled.2 ∙ append_assoc first spelled.1 more in
    let lens = ap length parts ∙ length-append text more in
    let there : 0 < length bytes = omega (arith, lens) in
    let is = byte_number bytes first behind type spelled.3 whole there low in
    let left = ap length spelled.2 ∙ length-append first spelled.1 in
    let after = ap length is.rest_is ∙ drop_long bytes in
    let joined = ap length whole ∙ length-append first behind in
    let some : 0 < length spelled.1 = omega (arith, left, after, joined) in
    let inside : 0 < length (drop 1 bytes) = omega (arith, ap length is.rest_is, length-append spelled.1 more) in
    let next = least_first types spelled.1 more (drop 1 bytes) spelled.5 (types_there types spelled.1 spelled.5 some) (sym is.rest_is) inside in
    let same = ap least_body (second bytes 0) in
    let here : least_body (slice_index bytes 0) ≤ body_len (slice_index bytes 0)
    = looked_by (slice_index bytes 0) ((slice_index bytes 0 - 12) / 2) (body_len (slice_index bytes 0)) (nat_lt (slice_index bytes 0) 128) refl (λ l. byte_body (slice_index bytes 0)) in
    omega (arith, ap body_len is.value_is, next, same, here)

-- what a whole cell's first bytes say, where its payload and its rowid have one byte each
record SaysCell (payload header first second : ℕ) : Type 0 where
  pub least : 2 ≤ header
  pub one : header + least_body first ≤ payload
  pub two : first < 128 → 3 ≤ header → header + least_body first + least_body second ≤ payload

-- the byte of a number that has only one
one_low : (text more : List ℕ) (value : ℕ) → IsVarint text value → length text ≡ 1 → slice_index (text ++ more) 0 < 128
one_low [] more value spells long = absurd (omega arith)
one_low (byte ∷ []) more value (inl is) long = absurd (omega (arith, is.0))
one_low (byte ∷ []) more value (inr is) long = is.1
one_low (byte ∷ next ∷ text) more value spells long = absurd (omega arith)

-- a header of at most 127 bytes: its first byte says how long it is, and its types stand behind that
header_first : (header types_text types more bytes : List ℕ) (typed : IsHeader header types_text types) → length header ≤ 127 → bytes ≡ header ++ more
    → IsByteNumber bytes (types_text ++ more) (length header)
header_first header types_text types more bytes typed few parts =
    let one = size_one header types_text types typed few in
    let behind = types_text ++ more in
    let whole : bytes ≡ typed.size_text ++ behind = parts ∙ ap (λ h. h ++ more) typed.parts ∙ append_assoc typed.size_text types_text more in
    let low : slice_index (typed.size_text ++ behind) 0 < 128 = one_low typed.size_text behind (length header) typed.size.spells one in
    let first : slice_index bytes 0 < 128 = rw whole low in
    let some : 0 < length bytes = omega (arith, ap length whole, length-append typed.size_text behind, one) in
    byte_number bytes typed.size_text behind (length header) typed.size whole some first

-- the header and the bodies of a cell with so small a payload
header_says : (payload : ℕ) (header types_text types bodies more bytes : List ℕ) (typed : IsHeader header types_text types) → payload ≡ length header + bodies_len types
    → payload < 128 → bytes ≡ (header ++ bodies) ++ more → SaysCell payload (slice_index bytes 0) (slice_index bytes 1) (slice_index bytes 2)
header_says payload header types_text types bodies more bytes typed whole small parts =
    let behind = bodies ++ more in
    let split : bytes ≡ header ++ behind = parts ∙ append_assoc header bodies more in
    let size = header_first header types_text types behind bytes typed (omega arith) split in
    let some = types_some types types_text typed.spelled typed.some in
    let one = size_one header types_text types typed (omega arith) in
    let long : length header ≡ 1 + length types_text = omega (arith, ap length typed.parts, length-append typed.size_text types_text, one) in
    let there : 0 < length (drop 1 bytes) = omega (arith, ap length size.rest_is, length-append types_text behind) in
    let body = least_first types types_text behind (drop 1 bytes) typed.spelled typed.some (sym size.rest_is) there in
    let same = ap least_body (second bytes 0) in
    let also = ap least_body (second bytes 1) in
    record {
      least = omega (arith, size.value_is, long, some);
      one = omega (arith, size.value_is, body, same);
      two = λ (low : slice_index bytes 1 < 128) (room : 3 ≤ slice_index bytes 0).
          let first : slice_index (drop 1 bytes) 0 < 128 = omega (arith, second bytes 0) in
          let both = two_bodies types types_text behind (drop 1 bytes) typed.spelled (omega (arith, size.value_is, long)) (sym size.rest_is) first in
          omega (arith, size.value_is, both, same, also);
    }

-- a whole cell whose payload and rowid have one byte each
cell_says : (usable : ℕ) (bytes : List ℕ) (sighting : Sighting) → 1 < length bytes → slice_index bytes 0 < 128 → slice_index bytes 1 < 128
    → Begins (IsFull usable) bytes sighting → SaysCell (slice_index bytes 0) (slice_index bytes 2) (slice_index bytes 3) (slice_index bytes 4)
cell_says usable bytes sighting some low next begins =
    let full = begins.accepts in
    let record_text = full.header ++ full.bodies in
    let more = full.link ++ begins.rest in
    let behind_key = record_text ++ more in
    let behind_size = full.rowid_text ++ behind_key in
    let whole : bytes ≡ full.payload_text ++ behind_size
    = begins.parts ∙ ap (λ span. span ++ begins.rest) full.parts ∙ append_assoc full.payload_text (full.rowid_text ++ (record_text ++ full.link)) begins.rest
    ∙ ap (λ t. full.payload_text ++ t) (append_assoc full.rowid_text (record_text ++ full.link) begins.rest ∙ ap (λ t. full.rowid_text ++ t) (append_assoc record_text full.link begins.rest)) in
    let size = byte_number bytes full.payload_text behind_size full.payload full.size whole (omega arith) low in
    let one = second bytes 0 in
    let there : 0 < length (drop 1 bytes) = omega (arith, drop_long bytes) in
    let key = byte_number (drop 1 bytes) full.rowid_text behind_key full.rowid full.key (sym size.rest_is) there (omega (arith, one)) in
    let at = drop 1 (drop 1 bytes) in
    let says = header_says full.payload full.header full.types_text full.types full.bodies more at full.typed full.whole (omega (arith, size.value_is)) (sym key.rest_is) in
    let two : slice_index at 0 ≡ slice_index bytes 2 = second (drop 1 bytes) 0 ∙ second bytes 1 in
    let three : slice_index at 1 ≡ slice_index bytes 3 = second (drop 1 bytes) 1 ∙ second bytes 2 in
    let four : slice_index at 2 ≡ slice_index bytes 4 = second (drop 1 bytes) 2 ∙ second bytes 3 in
    rw (← size.value_is, ← two, ← three, ← four) says

-- a record that has its place isn't ruled out
has_place : (payload header first second body bodies : ℕ) (low : Bool) → nat_lt first 128 ≡ low → 2 ≤ header → header + body ≤ payload
    → (first < 128 → 3 ≤ header → header + body + bodies ≤ payload)
    → (nat_lt header 2 || (nat_lt payload header || (nat_lt payload (header + body) || (low && (nat_le 3 header && nat_lt payload (header + body + bodies)))))) ≡ false
has_place payload header first second body bodies false is least one two =
    let short : nat_lt header 2 ≡ false = grind (arith, nat_tests) in
    let inside : nat_lt payload header ≡ false = grind (arith, nat_tests) in
    let more : nat_lt payload (header + body) ≡ false = grind (arith, nat_tests) in
    rw (short, inside, more) refl
has_place payload header first second body bodies true is least one two =
    let below : first < 128 = grind (arith, nat_tests) in
    let short : nat_lt header 2 ≡ false = grind (arith, nat_tests) in
    let inside : nat_lt payload header ≡ false = grind (arith, nat_tests) in
    let more : nat_lt payload (header + body) ≡ false = grind (arith, nat_tests) in
    rw (short, inside, more) (room_by header payload (header + body + bodies) (nat_le 3 header) refl (two below))
  where
    room_by : (header payload all : ℕ) (long : Bool) → nat_le 3 header ≡ long → (3 ≤ header → all ≤ payload) → (long && nat_lt payload all) ≡ false
    room_by header payload all true is fits = let room = fits (grind (arith, nat_tests)) in grind (arith, nat_tests)
    room_by header payload all false is fits = refl

-- all of four tests hold
record AreAll (a b c d : Bool) : Type 0 where
  pub first : a ≡ true
  pub next : b ≡ true
  pub third : c ≡ true
  pub last : d ≡ true

all_of : (a b c d : Bool) → (a && (b && (c && d))) ≡ true → AreAll a b c d
all_of true true true true is = record { first = refl; next = refl; third = refl; last = refl }
all_of true true true false is = absurd cc
all_of true true false d is = absurd cc
all_of true false c d is = absurd cc
all_of false b c d is = absurd cc

ruled_out : (usable : ℕ) (bytes : List ℕ) (sighting : Sighting) → is_no_cell bytes ≡ true → Begins (IsFull usable) bytes sighting → ⊥
ruled_out usable bytes sighting looks begins =
    let header = slice_index bytes 2 in
    let first = slice_index bytes 3 in
    let second = slice_index bytes 4 in
    let none = is_no_header (slice_index bytes 0) header first second in
    let all = all_of (nat_lt 4 (length bytes)) (nat_lt (slice_index bytes 0) 128) (nat_lt (slice_index bytes 1) 128) none looks in
    let long : 4 < length bytes = let is = all.first in grind (arith, nat_tests) in
    let low : slice_index bytes 0 < 128 = let is = all.next in grind (arith, nat_tests) in
    let next : slice_index bytes 1 < 128 = let is = all.third in grind (arith, nat_tests) in
    let says = cell_says usable bytes sighting (omega arith) low next begins in
    let some : none ≡ false = has_place (slice_index bytes 0) header first second (least_body first) (least_body second) (nat_lt first 128) refl says.least says.one says.two in
    apart (sym all.last ∙ some)
  where
    apart : true ≡ false → ⊥
    apart is = cc

no_cell_by : (usable : ℕ) (bytes : List ℕ) (found : Option Sighting) → 480 ≤ usable → is_no_cell bytes ≡ true → full_at usable bytes ≡ found → full_at usable bytes ≡ None
no_cell_by usable bytes None least looks is = is
no_cell_by usable bytes (Some sighting) least looks is = absurd (ruled_out usable bytes sighting looks (full_taken usable bytes sighting least is))

pub no_cell : (usable : ℕ) (bytes : List ℕ) → 480 ≤ usable → is_no_cell bytes ≡ true → full_at usable bytes ≡ None
no_cell usable bytes least looks = no_cell_by usable bytes (full_at usable bytes) least looks refl

none_of : {A : Type 0} (found : Option A) → is_none found ≡ true → found ≡ None
none_of None is = refl
none_of (Some x) is = absurd cc

-- neither a whole cell nor a freeblock's four bytes begin there
pub looked_at : (usable : ℕ) (shapes : List ShapeKey) (setting : Setting) (bytes : List ℕ) → 480 ≤ usable → is_no_cell bytes ≡ true → is_none (cut_in setting bytes) ≡ true
    → accepted_at usable shapes setting bytes ≡ None
looked_at usable shapes setting bytes least cell cut =
    accepted_none usable shapes setting bytes (no_cell usable bytes least cell) (none_of (cut_in setting bytes) cut)
