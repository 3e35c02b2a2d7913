-- A text in UTF-16 is printed code point by code point.
use Rattle.std.proofs.Common.{◌≡◌, ℕ, ◌+◌, ◌-◌, ◌*◌, ◌<◌, ◌≤◌, ◌&&◌, nat_lt, Bool, true, false, if◌then◌else◌, List, [], ◌∷◌, ◌++◌, length, slice_index, refl, sym, ap, ◌∙◌, append-nil, inl, inr, arith}
use Rattle.std.proofs.lemmas.Bool.{cases_lt}
use Rattle.std.proofs.lemmas.Bool.Decides.{nat_tests}
use Rattle.std.proofs.str.Utf16.{one_unit, pair_units}
use Rattle.std.specs.Prelude.{encode_utf8}
use Rattle.std.specs.Char.Escape.{encode_utf16}
use Rattle.std.specs.Char.Utf16.{is_high_surrogate, is_low_surrogate, surrogate_pair_char}
use Rattle.std.specs.List.{flat_map}
use Rattle.sx_bytes.specs.declared.encoding.Encoding.{Encoding}
use Rattle.sx_bytes.specs.Decoding.{unit_bytes, units_of, odd_byte, IsBytes}
use Rattle.sx_bytes.proofs.Spelling.{IsUnits, units_small, pair_bytes}
use Rattle.sx_record.specs.Codes.{AreApart, code_text, IsPrintedByCodes}
use Rattle.sx_record.specs.Escape.{unit_text}
use Rattle.sx_record.specs.Utf16.{units_text, last_text, utf16_text}

-- units are these code points, and the text is what stands for each
record AreCodes (units text : List ℕ) : Type 0 where
  pub codes : List ℕ
  pub apart : AreApart codes
  pub stored : units ≡ flat_map encode_utf16 codes
  pub printed : text ≡ flat_map code_text codes

-- a code point of one unit, and one of two
one_text : (unit : ℕ) → unit < 0x1_0000 → code_text unit ≡ unit_text unit
one_text unit small = let low : nat_lt unit 0x1_0000 ≡ true = grind (arith, nat_tests) in rw low refl

two_text : (code : ℕ) → 0x1_0000 ≤ code → code_text code ≡ encode_utf8 code
two_text code large = let high : nat_lt code 0x1_0000 ≡ false = grind (arith, nat_tests) in rw high refl

-- what two tests of surrogates say
record IsPair (unit second : ℕ) : Type 0 where
  pub high : 0xD800 ≤ unit
  pub high_end : unit < 0xDC00
  pub low : 0xDC00 ≤ second
  pub low_end : second < 0xE000

pair_of : (unit second : ℕ) → (is_high_surrogate unit && is_low_surrogate second) ≡ true → IsPair unit second
pair_of unit second pair = record {
  high = grind (arith, nat_tests);
  high_end = grind (arith, nat_tests);
  low = grind (arith, nat_tests);
  low_end = grind (arith, nat_tests);
}

-- neither half can be past the units
large_high : (code : ℕ) (low : Bool) → 0x1_0000 ≤ code → (is_high_surrogate code && low) ≡ false
large_high code low large = let none : is_high_surrogate code ≡ false = grind (arith, nat_tests) in rw none refl

large_low : (code : ℕ) → 0x1_0000 ≤ code → is_low_surrogate code ≡ false
large_low code large = grind (arith, nat_tests)

and_false : (b : Bool) → (b && false) ≡ false
and_false true = refl
and_false false = refl

-- the first code point of units is their first unit, or no half of a pair
first_of : (unit second : ℕ) (units codes : List ℕ) → (is_high_surrogate unit && is_low_surrogate second) ≡ false → second ∷ units ≡ flat_map encode_utf16 codes
    → (is_high_surrogate unit && is_low_surrogate (slice_index codes 0)) ≡ false
first_of unit second units [] alone is = absurd (let none : length (second ∷ units) ≡ 0 = ap length is in omega arith)
first_of unit second units (code ∷ codes) alone is = elim (cases_lt code 0x1_0000) [
  | inl small ↦
      let stored : second ∷ units ≡ code ∷ flat_map encode_utf16 codes = rw (one_unit code small) at is in
      let same : second ≡ code = ap (λ list. slice_index list 0) stored in
      rw same at alone
  | inr large ↦ rw (large_low code large) (and_false (is_high_surrogate unit))
]

codes_of : (units : List ℕ) → IsUnits units → AreCodes units (units_text units)
unfolding units_text
codes_of [] small = record { codes = []; apart = tt; stored = refl; printed = refl }
codes_of (unit ∷ []) small = record {
  codes = unit ∷ [];
  apart = (omega (arith, small.0), and_false (is_high_surrogate unit), tt);
  stored = rw (one_unit unit small.0) refl;
  printed = rw (one_text unit small.0) (sym (append-nil (unit_text unit)));
}
codes_of (unit ∷ second ∷ units) small =
    codes_two unit second units small (is_high_surrogate unit && is_low_surrogate second) refl (codes_of units small.1.1) (codes_of (second ∷ units) small.1)
  where
    codes_two : (unit second : ℕ) (units : List ℕ) → IsUnits (unit ∷ second ∷ units) → (pair : Bool) → (is_high_surrogate unit && is_low_surrogate second) ≡ pair
        → AreCodes units (units_text units) → AreCodes (second ∷ units) (units_text (second ∷ units))
        → AreCodes (unit ∷ second ∷ units) (if pair then encode_utf8 (surrogate_pair_char unit second) ++ units_text units else unit_text unit ++ units_text (second ∷ units))
    codes_two unit second units small true is behind other =
        let pair = pair_of unit second is in
        let code = surrogate_pair_char unit second in
        let large : 0x1_0000 ≤ code = omega (arith, pair.high) in
        let same : code ≡ 0x1_0000 + ((unit - 0xD800) * 0x400 + (second - 0xDC00)) = omega arith in
        let here : encode_utf16 code ≡ unit ∷ second ∷ [] = ap encode_utf16 same ∙ pair_units unit second pair.high pair.low pair.low_end in
        record {
          codes = code ∷ behind.codes;
          apart = (omega (arith, pair.high_end, pair.low_end), large_high code (is_low_surrogate (slice_index behind.codes 0)) large, behind.apart);
          stored = rw here (ap (λ units. unit ∷ second ∷ units) behind.stored);
          printed = rw (two_text code large) (ap (λ text. encode_utf8 code ++ text) behind.printed);
        }
    codes_two unit second units small false is other behind = record {
      codes = unit ∷ behind.codes;
      apart = (omega (arith, small.0), first_of unit second units behind.codes is behind.stored, behind.apart);
      stored = rw (one_unit unit small.0) (ap (λ units. unit ∷ units) behind.stored);
      printed = rw (one_text unit small.0) (ap (λ text. unit_text unit ++ text) behind.printed);
    }

-- bytes are their units and the single last byte
bytes_back : (encoding : Encoding) (bytes : List ℕ) → IsBytes bytes → bytes ≡ flat_map (unit_bytes encoding) (units_of encoding bytes) ++ odd_byte bytes
unfolding units_of odd_byte
bytes_back encoding [] small = refl
bytes_back encoding (byte ∷ []) small = refl
bytes_back encoding (first ∷ second ∷ rest) small =
    rw (pair_bytes encoding first second small.0 small.1.0) (ap (λ bytes. first ∷ second ∷ bytes) (bytes_back encoding rest small.1.1))

one_last : (bytes : List ℕ) → length (odd_byte bytes) ≤ 1
unfolding odd_byte
one_last [] = omega arith
one_last (byte ∷ []) = omega arith
one_last (first ∷ second ∷ rest) = one_last rest

pub printed_by_codes : (encoding : Encoding) (bytes : List ℕ) → IsBytes bytes → IsPrintedByCodes encoding bytes (utf16_text encoding bytes)
unfolding utf16_text
printed_by_codes encoding bytes small =
    let of_units = codes_of (units_of encoding bytes) (units_small encoding bytes small) in
    record {
      codes = of_units.codes;
      last = odd_byte bytes;
      apart = of_units.apart;
      single = one_last bytes;
      stored = bytes_back encoding bytes small ∙ ap (λ units. flat_map (unit_bytes encoding) units ++ odd_byte bytes) of_units.stored;
      printed = ap (λ text. text ++ last_text (odd_byte bytes)) of_units.printed;
    }
