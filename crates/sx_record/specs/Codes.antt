-- A text in UTF-16 as it is printed, said of its code points.
use Rattle.std.specs.Prelude.{◌≡◌, ℕ, ◌<◌, ◌≤◌, ◌&&◌, nat_lt, false, if◌then◌else◌, List, [], ◌∷◌, ◌++◌, length, slice_index, encode_utf8}
use Rattle.std.specs.Char.Escape.{encode_utf16}
use Rattle.std.specs.Char.Utf16.{is_high_surrogate, is_low_surrogate}
use Rattle.std.specs.List.{flat_map}
use Rattle.sx_bytes.specs.declared.encoding.Encoding.{Encoding}
use Rattle.sx_bytes.specs.Decoding.{unit_bytes}
use Rattle.sx_record.specs.Escape.{unit_text}
use Rattle.sx_record.specs.Utf16.{last_text}

-- none is past the last character, and no first half of a pair stands before a second one
abbrev pub AreApart : List ℕ → Type 0
AreApart [] = Unit {0}
AreApart (code ∷ codes) = (code < 0x11_0000) × ((is_high_surrogate code && is_low_surrogate (slice_index codes 0)) ≡ false) × AreApart codes

-- what stands for a code point: that of its unit, or the character's UTF-8 where it has two
abbrev pub code_text : ℕ → List ℕ
code_text code = if nat_lt code 0x1_0000 then unit_text code else encode_utf8 code

-- the bytes are code points in UTF-16 and at most one byte behind them, and the text is what stands for each of these
pub record IsPrintedByCodes (encoding : Encoding) (bytes text : List ℕ) : Type 0 where
  pub codes : List ℕ
  pub last : List ℕ
  pub apart : AreApart codes
  pub single : length last ≤ 1
  pub stored : bytes ≡ flat_map (unit_bytes encoding) (flat_map encode_utf16 codes) ++ last
  pub printed : text ≡ flat_map code_text codes ++ last_text last
