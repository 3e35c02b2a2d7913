-- Bytes and units of UTF-16 that don't stand as characters in a printed text, and those that do.
use Rattle.std.specs.Prelude.{ℕ, ◌/◌, ◌%◌, Bool, not, ◌&&◌, ◌||◌, ◌==◌, nat_le, nat_lt, if◌then◌else◌, List, [], ◌∷◌, encode_utf8}
use Rattle.std.specs.Char.Utf16.{is_high_surrogate, is_low_surrogate}
use Rattle.hex.specs.Hex.{encode_lower}

-- the apostrophe and the backslash
abbrev pub is_marked : ℕ → Bool
is_marked code = code == 39 || code == 92

-- from the space to the tilde
abbrev pub is_printable : ℕ → Bool
is_printable code = nat_le 0x20 code && nat_le code 0x7e

-- printable without a backslash
abbrev pub is_plain : ℕ → Bool
is_plain code = is_printable code && not (is_marked code)

-- a printable character: itself, with a backslash before an apostrophe or a backslash
abbrev pub printed : ℕ → List ℕ
printed code = if is_marked code then 92 ∷ code ∷ [] else code ∷ []

-- `\x` and two digits
unfoldable pub escaped_byte : ℕ → List ℕ
escaped_byte byte = 92 ∷ 120 ∷ encode_lower (byte ∷ [])

-- `\u` and four digits
unfoldable pub escaped_unit : ℕ → List ℕ
escaped_unit unit = 92 ∷ 117 ∷ encode_lower ((unit / 256) ∷ (unit % 256) ∷ [])

-- a byte that is part of no character from U+00A0 up
unfoldable pub byte_text : ℕ → List ℕ
byte_text byte = if is_printable byte then printed byte else escaped_byte byte

-- the unit isn't a character that is printed by its bytes: below U+00A0 or a surrogate
abbrev pub is_escaped : ℕ → Bool
is_escaped unit = nat_lt unit 0xa0 || is_high_surrogate unit || is_low_surrogate unit

-- a unit that is no half of a pair
unfoldable pub unit_text : ℕ → List ℕ
unit_text unit = if is_printable unit then printed unit else (if is_escaped unit then escaped_unit unit else encode_utf8 unit)
