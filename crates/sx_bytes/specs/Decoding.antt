-- The bytes of a stored text as the UTF-8 of its characters ("Text encoding"), and where there are none.
use Rattle.std.specs.Prelude.{◌≡◌, ℕ, ◌+◌, ◌*◌, ◌/◌, ◌%◌, ◌<◌, ◌==◌, nat_eq, Bool, true, false, if◌then◌else◌, List, [], ◌∷◌, ◌++◌, length, take, drop, Option, Some, None, encode_utf8, encode_utf8_all}
use Rattle.std.specs.List.{flat_map}
use Rattle.std.specs.Cmp.Lexicographic.{pointwise}
use Rattle.std.specs.Option.{option_map}
use Rattle.std.specs.Str.{all_scalars}
use Rattle.std.specs.Char.Escape.{encode_utf16}
use Rattle.std.specs.Char.Utf16.{utf16_chars}
use Rattle.sx_bytes.specs.declared.encoding.Encoding.{Encoding}
use Rattle.sx_bytes.specs.declared.encoding.Encoding.TheVariants.{Utf8, Utf16Le}

-- the unit of UTF-16 in two bytes: under UTF-16le its low byte comes first, else its high byte
abbrev pub unit_of : Encoding → ℕ → ℕ → ℕ
unit_of Utf16Le first second = first + 256 * second
unit_of _ first second = 256 * first + second

-- the units of a text from its front on; a single last byte belongs to none
unfoldable pub units_of : Encoding → List ℕ → List ℕ
units_of encoding [] = []
units_of encoding (byte ∷ []) = []
units_of encoding (first ∷ second ∷ rest) = unit_of encoding first second ∷ units_of encoding rest

-- the single last byte of a text of an odd number of bytes
unfoldable pub odd_byte : List ℕ → List ℕ
odd_byte [] = []
odd_byte (byte ∷ []) = byte ∷ []
odd_byte (first ∷ second ∷ rest) = odd_byte rest

-- the UTF-8 of characters, or None where one of them is missing
abbrev pub joined : List (Option ℕ) → Option (List ℕ)
joined [] = Some []
joined (None ∷ characters) = None
joined (Some character ∷ characters) = option_map (λ rest. encode_utf8 character ++ rest) (joined characters)

-- the bytes begin with others
abbrev pub begins_with : List ℕ → List ℕ → Bool
begins_with front bytes = pointwise nat_eq (take (length front) bytes) front

-- a text decoded: itself under UTF-8; else the UTF-8 of the characters that its units spell, or None where its length
-- is odd or a surrogate has no partner
unfoldable pub decoded : Encoding → List ℕ → Option (List ℕ)
decoded Utf8 bytes = Some bytes
decoded encoding bytes = if length bytes % 2 == 1 then None else joined (utf16_chars (units_of encoding bytes))

-- the bytes are the UTF-8 of the characters, none of which is missing
abbrev pub is_spelled : List (Option ℕ) → List ℕ → Bool
is_spelled [] bytes = length bytes == 0
is_spelled (None ∷ characters) bytes = false
is_spelled (Some character ∷ characters) bytes =
    if begins_with (encode_utf8 character) bytes then is_spelled characters (drop (length (encode_utf8 character)) bytes) else false

-- the two bytes of a unit
abbrev pub unit_bytes : Encoding → ℕ → List ℕ
unit_bytes Utf16Le unit = unit % 256 ∷ (unit / 256) ∷ []
unit_bytes _ unit = (unit / 256) ∷ (unit % 256) ∷ []

-- each number is a byte
abbrev pub IsBytes : List ℕ → Type 0
IsBytes [] = Unit {0}
IsBytes (byte ∷ bytes) = (byte < 256) × IsBytes bytes

-- the bytes are some characters in UTF-16, and the text is the same characters in UTF-8
pub record IsSpelled (encoding : Encoding) (bytes text : List ℕ) : Type 0 where
  pub characters : List ℕ
  pub scalars : all_scalars characters ≡ true
  pub stored : bytes ≡ flat_map (unit_bytes encoding) (flat_map encode_utf16 characters)
  pub spelled : text ≡ encode_utf8_all characters

-- the text is what the bytes say: the same bytes under UTF-8, else the same characters
abbrev pub Decodes : Encoding → List ℕ → List ℕ → Type 0
Decodes Utf8 bytes text = text ≡ bytes
Decodes encoding bytes text = IsSpelled encoding bytes text
