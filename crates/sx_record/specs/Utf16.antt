-- Texts in UTF-16 as they are printed.
use Rattle.std.specs.Prelude.{ℕ, ◌&&◌, if◌then◌else◌, List, [], ◌∷◌, ◌++◌, encode_utf8}
use Rattle.std.specs.Char.Utf16.{is_high_surrogate, is_low_surrogate, surrogate_pair_char}
use Rattle.sx_bytes.specs.declared.encoding.Encoding.{Encoding}
use Rattle.sx_bytes.specs.Decoding.{units_of, odd_byte}
use Rattle.sx_record.specs.Escape.{unit_text, escaped_byte}

-- units: the two halves of a pair stand as their character, and each other unit by itself
unfoldable pub units_text : List ℕ → List ℕ
units_text [] = []
units_text (unit ∷ []) = unit_text unit
units_text (unit ∷ second ∷ units) =
    if is_high_surrogate unit && is_low_surrogate second
    then encode_utf8 (surrogate_pair_char unit second) ++ units_text units
    else unit_text unit ++ units_text (second ∷ units)

-- the single last byte, if there is one
abbrev pub last_text : List ℕ → List ℕ
last_text [] = []
last_text (byte ∷ _) = escaped_byte byte

-- a text as it is printed: its units from the front, and then a single last byte
unfoldable pub utf16_text : Encoding → List ℕ → List ℕ
utf16_text encoding bytes = units_text (units_of encoding bytes) ++ last_text (odd_byte bytes)
