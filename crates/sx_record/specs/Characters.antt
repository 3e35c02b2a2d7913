-- Characters from U+00A0 up in UTF-8, by what their bytes are and not by the table of well-formed sequences.
use Rattle.std.specs.Prelude.{◌≡◌, ℕ, ◌≤◌, List, ◌++◌, length, encode_utf8}
use Rattle.std.specs.Char.{IsScalar}

-- the bytes begin with the UTF-8 of a character from U+00A0 up, which has so many bytes
pub record BeginsWithCharacter (bytes : List ℕ) (len : ℕ) : Type 0 where
  pub character : ℕ
  pub rest : List ℕ
  pub scalar : IsScalar character
  pub least : 0xa0 ≤ character
  pub parts : bytes ≡ encode_utf8 character ++ rest
  pub long : len ≡ length (encode_utf8 character)
