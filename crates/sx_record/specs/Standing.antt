-- Bytes at the front of a text that stand as they are when it is printed.
use Rattle.std.specs.Prelude.{◌≡◌, ℕ, List, ◌++◌, take, drop}
use Rattle.std.specs.Str.{IsUtf8}
use Rattle.sx_record.specs.Utf8.{utf8_text}

-- so many bytes at the front are UTF-8 and stand as they are
pub record Stands (bytes : List ℕ) (len : ℕ) : Type 0 where
  pub printed : utf8_text bytes ≡ take len bytes ++ utf8_text (drop len bytes)
  pub valid : IsUtf8 (take len bytes)
