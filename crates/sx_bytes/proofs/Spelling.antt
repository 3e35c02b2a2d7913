-- What decodes is spelled by the same characters, and what is spelled so decodes.
use Rattle.std.proofs.Common.{◌≡◌, ◌↔◌, ℕ, ◌+◌, ◌-◌, ◌*◌, ◌/◌, ◌%◌, ◌<◌, ◌≤◌, ◌==◌, nat_le, nat_lt, Bool, true, false, ◌&&◌, if◌then◌else◌, List, [], ◌∷◌, ◌++◌, length, slice_index, Option, Some, None, refl, sym, ap, ap₂, ◌∙◌, arith}
use Rattle.std.proofs.lemmas.Bool.Decides.{nat_tests}
use Rattle.std.specs.Prelude.{encode_utf8, encode_utf8_all}
use Rattle.std.specs.List.{flat_map}
use Rattle.std.specs.Option.{option_map}
use Rattle.std.specs.Str.{all_scalars}
use lib.Utf8.{scalar}
use Rattle.std.specs.Char.Escape.{encode_utf16}
use Rattle.std.specs.Char.Utf16.{utf16_chars, lone_unit_char, is_high_surrogate, is_low_surrogate, surrogate_pair_char}
use Rattle.std.proofs.str.Utf16.{IsPair, one_unit, two_units, pair_units, lone_unit_char_low, lone_unit_char_high}
use Rattle.std.proofs.lemmas.Str.{utf16_chars-nil, utf16_chars_lone, utf16_chars_pair}
use Rattle.sx_bytes.specs.declared.encoding.Encoding.{Encoding}
use Rattle.sx_bytes.specs.declared.encoding.Encoding.TheVariants.{Utf8, Utf16Le, Utf16Be}
use Rattle.sx_bytes.specs.Decoding.{unit_of, units_of, unit_bytes, joined, decoded, IsBytes, IsSpelled, Decodes}

-- ---- units and their bytes

pub pair_bytes : (encoding : Encoding) (first second : ℕ) → first < 256 → second < 256 → unit_bytes encoding (unit_of encoding first second) ≡ first ∷ second ∷ []
pair_bytes Utf8 first second low high = ap₂ (λ (x y : ℕ). x ∷ y ∷ []) (omega arith) (omega arith)
pair_bytes Utf16Le first second low high = ap₂ (λ (x y : ℕ). x ∷ y ∷ []) (omega arith) (omega arith)
pair_bytes Utf16Be first second low high = ap₂ (λ (x y : ℕ). x ∷ y ∷ []) (omega arith) (omega arith)

pair_small : (encoding : Encoding) (first second : ℕ) → first < 256 → second < 256 → unit_of encoding first second < 0x1_0000
pair_small Utf8 first second low high = omega arith
pair_small Utf16Le first second low high = omega arith
pair_small Utf16Be first second low high = omega arith

bytes_back : (encoding : Encoding) (bytes : List ℕ) → IsBytes bytes → length bytes % 2 ≡ 0 → bytes ≡ flat_map (unit_bytes encoding) (units_of encoding bytes)
unfolding units_of
bytes_back encoding [] small even = refl
bytes_back encoding (byte ∷ []) small even = absurd (omega arith)
bytes_back encoding (first ∷ second ∷ rest) small even =
    let left : length rest % 2 ≡ 0 = omega arith in
    let here = pair_bytes encoding first second small.0 small.1.0 in
    let behind = bytes_back encoding rest small.1.1 left in
    rw here (ap (λ bytes. first ∷ second ∷ bytes) behind)

-- each number is a unit
abbrev pub IsUnits : List ℕ → Type 0
IsUnits [] = Unit {0}
IsUnits (unit ∷ units) = (unit < 0x1_0000) × IsUnits units

pub units_small : (encoding : Encoding) (bytes : List ℕ) → IsBytes bytes → IsUnits (units_of encoding bytes)
unfolding units_of
units_small encoding [] small = tt
units_small encoding (byte ∷ []) small = tt
units_small encoding (first ∷ second ∷ rest) small = (pair_small encoding first second small.0 small.1.0, units_small encoding rest small.1.1)

units_back : (encoding : Encoding) (units : List ℕ) → units_of encoding (flat_map (unit_bytes encoding) units) ≡ units
unfolding units_of
units_back encoding [] = refl
units_back Utf8 (unit ∷ units) = ap₂ (λ (x : ℕ) (y : List ℕ). x ∷ y) (omega arith) (units_back Utf8 units)
units_back Utf16Le (unit ∷ units) = ap₂ (λ (x : ℕ) (y : List ℕ). x ∷ y) (omega arith) (units_back Utf16Le units)
units_back Utf16Be (unit ∷ units) = ap₂ (λ (x : ℕ) (y : List ℕ). x ∷ y) (omega arith) (units_back Utf16Be units)

even_bytes : (encoding : Encoding) (units : List ℕ) → length (flat_map (unit_bytes encoding) units) % 2 ≡ 0
even_bytes encoding [] = refl
even_bytes Utf8 (unit ∷ units) = let left = even_bytes Utf8 units in omega (arith, left)
even_bytes Utf16Le (unit ∷ units) = let left = even_bytes Utf16Le units in omega (arith, left)
even_bytes Utf16Be (unit ∷ units) = let left = even_bytes Utf16Be units in omega (arith, left)

-- ---- units and characters

-- the units and the text are the same characters
record IsSame (units text : List ℕ) : Type 0 where
  pub characters : List ℕ
  pub scalars : all_scalars characters ≡ true
  pub stored : units ≡ flat_map encode_utf16 characters
  pub spelled : text ≡ encode_utf8_all characters

record IsJoined (character : Option ℕ) (rest : List (Option ℕ)) (text : List ℕ) : Type 0 where
  pub first : ℕ
  pub behind : List ℕ
  pub is : character ≡ Some first
  pub left : joined rest ≡ Some behind
  pub whole : text ≡ encode_utf8 first ++ behind

joined_by : (first : ℕ) (rest : Option (List ℕ)) (text : List ℕ) → option_map (λ rest. encode_utf8 first ++ rest) rest ≡ Some text
    → (behind : List ℕ) × (rest ≡ Some behind) × (text ≡ encode_utf8 first ++ behind)
joined_by first None text is = absurd (cc)
joined_by first (Some behind) text is = (behind, refl, cc)

joined_of : (character : Option ℕ) (rest : List (Option ℕ)) (text : List ℕ) → joined (character ∷ rest) ≡ Some text → IsJoined character rest text
joined_of None rest text is = absurd (cc)
joined_of (Some first) rest text is =
    let parts = joined_by first (joined rest) text is in
    record { first = first; behind = parts.0; is = refl; left = parts.1; whole = parts.2 }

-- below the surrogates or above them, and no more than the last character
scalar_low : (character : ℕ) → character < 0xd800 → scalar character ≡ true
scalar_low character low = grind (arith, nat_tests)

scalar_high : (character : ℕ) → 0xe000 ≤ character → character < 0x11_0000 → scalar character ≡ true
scalar_high character from below = grind (arith, nat_tests)

-- a unit that is a character by itself
record IsLone (unit character : ℕ) : Type 0 where
  pub same : character ≡ unit
  pub scalar : scalar character ≡ true

lone_by : (unit character : ℕ) (from below : Bool) → unit < 0x1_0000 → nat_le 0xD800 unit ≡ from → nat_lt unit 0xE000 ≡ below
    → (if from && below then None else Some unit) ≡ Some character → IsLone unit character
lone_by unit character true true small low high is = absurd (cc)
lone_by unit character true false small low high is =
    let past : 0xe000 ≤ unit = grind (arith, nat_tests) in
    let same : character ≡ unit = cc in
    record { same = same; scalar = rw same (scalar_high unit past (omega arith)) }
lone_by unit character false below small low high is =
    let before : unit < 0xd800 = grind (arith, nat_tests) in
    let same : character ≡ unit = cc in
    record { same = same; scalar = rw same (scalar_low unit before) }

lone_scalar : (unit character : ℕ) → unit < 0x1_0000 → lone_unit_char unit ≡ Some character → IsLone unit character
lone_scalar unit character small is = lone_by unit character (nat_le 0xD800 unit) (nat_lt unit 0xE000) small refl refl is

pair_of : (unit second : ℕ) → (is_high_surrogate unit && is_low_surrogate second) ≡ true → IsPair unit second
pair_of unit second pair = (grind (arith, nat_tests), grind (arith, nat_tests), grind (arith, nat_tests), grind (arith, nat_tests))

pair_scalar : (unit second : ℕ) → IsPair unit second → scalar (surrogate_pair_char unit second) ≡ true
pair_scalar unit second pair = scalar_high (surrogate_pair_char unit second) (omega (arith, pair.0)) (omega (arith, pair.0, pair.1, pair.2, pair.3))

pair_stored : (unit second : ℕ) → IsPair unit second → encode_utf16 (surrogate_pair_char unit second) ≡ unit ∷ second ∷ []
pair_stored unit second pair =
    let same : surrogate_pair_char unit second ≡ 0x1_0000 + ((unit - 0xD800) * 0x400 + (second - 0xDC00)) = omega arith in
    ap encode_utf16 same ∙ pair_units unit second pair.0 pair.2 pair.3

more_scalars : (character : ℕ) (characters : List ℕ) → scalar character ≡ true → all_scalars characters ≡ true → all_scalars (character ∷ characters) ≡ true
more_scalars character characters here behind = rw here behind

-- a character before the others
same_more : (units others text behind : List ℕ) (character : ℕ) → scalar character ≡ true → encode_utf16 character ++ others ≡ units
    → text ≡ encode_utf8 character ++ behind → IsSame others behind → IsSame units text
same_more units others text behind character here stored whole same = record {
  characters = character ∷ same.characters;
  scalars = more_scalars character same.characters here same.scalars;
  stored = rw same.stored at (sym stored);
  spelled = rw same.spelled at whole;
}

lone_stored : (unit : ℕ) (units : List ℕ) → unit < 0x1_0000 → encode_utf16 unit ++ units ≡ unit ∷ units
lone_stored unit units small = rw (one_unit unit small) refl

-- what is joined out of units is spelled by them
joined_there : (units : List ℕ) → IsUnits units → (text : List ℕ) → joined (utf16_chars units) ≡ Some text → IsSame units text
unfolding utf16_chars
joined_there [] small text is = record { characters = []; scalars = refl; stored = refl; spelled = (cc) }
joined_there (unit ∷ []) small text is =
    let parts = joined_of (lone_unit_char unit) [] text is in
    let lone = lone_scalar unit parts.first small.0 parts.is in
    let end : IsSame [] parts.behind = record { characters = []; scalars = refl; stored = refl; spelled = (let left = parts.left in cc) } in
    same_more (unit ∷ []) [] text parts.behind parts.first lone.scalar (rw lone.same (lone_stored unit [] small.0)) parts.whole end
joined_there (unit ∷ second ∷ units) small text is =
    joined_two unit second units small text (is_high_surrogate unit && is_low_surrogate second) refl is
    (joined_there units small.1.1) (joined_there (second ∷ units) small.1)
  where
    joined_two : (unit second : ℕ) (units : List ℕ) → IsUnits (unit ∷ second ∷ units) → (text : List ℕ) (pair : Bool)
        → (is_high_surrogate unit && is_low_surrogate second) ≡ pair
        → joined (if pair then Some (surrogate_pair_char unit second) ∷ utf16_chars units else lone_unit_char unit ∷ utf16_chars (second ∷ units)) ≡ Some text
        → ((text : List ℕ) → joined (utf16_chars units) ≡ Some text → IsSame units text)
        → ((text : List ℕ) → joined (utf16_chars (second ∷ units)) ≡ Some text → IsSame (second ∷ units) text)
        → IsSame (unit ∷ second ∷ units) text
    joined_two unit second units small text true is_pair is after_pair after_one =
        let parts = joined_by (surrogate_pair_char unit second) (joined (utf16_chars units)) text is in
        let pair = pair_of unit second is_pair in
        same_more (unit ∷ second ∷ units) units text parts.0 (surrogate_pair_char unit second) (pair_scalar unit second pair)
        (rw (pair_stored unit second pair) refl) parts.2 (after_pair parts.0 parts.1)
    joined_two unit second units small text false is_pair is after_pair after_one =
        let parts = joined_of (lone_unit_char unit) (utf16_chars (second ∷ units)) text is in
        let lone = lone_scalar unit parts.first small.0 parts.is in
        same_more (unit ∷ second ∷ units) (second ∷ units) text parts.behind parts.first lone.scalar
        (rw lone.same (lone_stored unit (second ∷ units) small.0)) parts.whole (after_one parts.behind parts.left)

-- ---- what is spelled is joined

both : (a b : Bool) → (a && b) ≡ true → (a ≡ true) × (b ≡ true)
both true true is = (refl, refl)
both true false is = absurd (cc)
both false b is = absurd (cc)

-- a character that isn't a surrogate is one unit
record IsOne (character : ℕ) : Type 0 where
  pub alone : (second : ℕ) → IsPair character second → ⊥
  pub char : lone_unit_char character ≡ Some character

one_by : (character : ℕ) (low from below : Bool) → character < 0x1_0000 → nat_lt character 0xd800 ≡ low → nat_le 0xe000 character ≡ from → nat_lt character 0x11_0000 ≡ below
    → (if low then true else (from && below)) ≡ true → IsOne character
one_by character true from below small is_low is_from is_below there =
    let before : character < 0xd800 = grind (arith, nat_tests) in
    record { alone = λ second pair. absurd (omega (arith, pair.0)); char = lone_unit_char_low character before }
one_by character false true below small is_low is_from is_below there =
    let past : 0xe000 ≤ character = grind (arith, nat_tests) in
    record { alone = λ second pair. absurd (omega (arith, pair.1)); char = lone_unit_char_high character past }
one_by character false false below small is_low is_from is_below there = absurd (cc)

one_of : (character : ℕ) → character < 0x1_0000 → scalar character ≡ true → IsOne character
one_of character small there =
    one_by character (nat_lt character 0xd800) (nat_le 0xe000 character) (nat_lt character 0x11_0000) small refl refl refl there

last_scalar : (character : ℕ) → scalar character ≡ true → character < 0x11_0000
last_scalar character there = grind (arith, nat_tests)

-- a character in front of units
front_chars : (character : ℕ) (units : List ℕ) (small : Bool) → nat_lt character 0x1_0000 ≡ small → scalar character ≡ true
    → utf16_chars (encode_utf16 character ++ units) ≡ Some character ∷ utf16_chars units
front_chars character units true is_small there =
    let small : character < 0x1_0000 = grind (arith, nat_tests) in
    let one = one_of character small there in
    rw (one_unit character small) (utf16_chars_lone character units (one.alone (slice_index units 0)) ∙ rw one.char refl)
front_chars character units false is_small there =
    let large : 0x1_0000 ≤ character = grind (arith, nat_tests) in
    let last = last_scalar character there in
    let high = 0xD800 + (character - 0x1_0000) / 0x400 in
    let low = 0xDC00 + (character - 0x1_0000) % 0x400 in
    let pair : IsPair high low = (omega arith, omega arith, omega arith, omega arith) in
    let same : surrogate_pair_char high low ≡ character = omega arith in
    rw (two_units character large) (utf16_chars_pair high low units pair ∙ rw same refl)

joined_again : (characters : List ℕ) → all_scalars characters ≡ true → joined (utf16_chars (flat_map encode_utf16 characters)) ≡ Some (encode_utf8_all characters)
joined_again [] there = rw utf16_chars-nil refl
joined_again (character ∷ characters) there =
    let parts = both (scalar character) (all_scalars characters) there in
    rw (front_chars character (flat_map encode_utf16 characters) (nat_lt character 0x1_0000) refl parts.0)
    (ap (option_map (λ rest. encode_utf8 character ++ rest)) (joined_again characters parts.1))

-- ---- the law

odd_by : (length_of : ℕ) (odd : Bool) (made : Option (List ℕ)) (text : List ℕ) → (length_of % 2 == 1) ≡ odd → (if odd then None else made) ≡ Some text
    → (length_of % 2 ≡ 0) × (made ≡ Some text)
odd_by length_of true made text is_odd is = absurd (cc)
odd_by length_of false made text is_odd is = (grind (arith, nat_tests), is)

spelled_there : (encoding : Encoding) (bytes text : List ℕ) → IsBytes bytes
    → (if length bytes % 2 == 1 then None else joined (utf16_chars (units_of encoding bytes))) ≡ Some text → IsSpelled encoding bytes text
spelled_there encoding bytes text small is =
    let parts = odd_by (length bytes) (length bytes % 2 == 1) (joined (utf16_chars (units_of encoding bytes))) text refl is in
    let same = joined_there (units_of encoding bytes) (units_small encoding bytes small) text parts.1 in
    record {
      characters = same.characters;
      scalars = same.scalars;
      stored = bytes_back encoding bytes small parts.0 ∙ ap (flat_map (unit_bytes encoding)) same.stored;
      spelled = same.spelled;
    }

spelled_again : (encoding : Encoding) (bytes text : List ℕ) → IsSpelled encoding bytes text
    → (if length bytes % 2 == 1 then None else joined (utf16_chars (units_of encoding bytes))) ≡ Some text
spelled_again encoding bytes text spelled =
    let units = flat_map encode_utf16 spelled.characters in
    let even : (length (flat_map (unit_bytes encoding) units) % 2 == 1) ≡ false = let half = even_bytes encoding units in grind (arith, nat_tests) in
    rw (spelled.stored, even, units_back encoding units, joined_again spelled.characters spelled.scalars) (ap (λ (text : List ℕ). Some text) (sym spelled.spelled))

pub decoded_both : (encoding : Encoding) (bytes text : List ℕ) → IsBytes bytes → (decoded encoding bytes ≡ Some text) ↔ Decodes encoding bytes text
unfolding decoded
decoded_both Utf8 bytes text small = (λ is. let same : bytes ≡ text = cc in sym same, λ same. ap (λ (text : List ℕ). Some text) (sym same))
decoded_both Utf16Le bytes text small = (λ is. spelled_there Utf16Le bytes text small is, λ spelled. spelled_again Utf16Le bytes text spelled)
decoded_both Utf16Be bytes text small = (λ is. spelled_there Utf16Be bytes text small is, λ spelled. spelled_again Utf16Be bytes text spelled)
