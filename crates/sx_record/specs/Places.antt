-- Which bytes of a text in UTF-8 stand as they are when it is printed, said of each byte by itself.
use Rattle.std.specs.Prelude.{◌≡◌, ℕ, ◌+◌, ◌<◌, ◌≤◌, List, [], ◌∷◌, length, drop, slice_index, slice_get, Some}
use Rattle.std.specs.List.{flat_map}
use Rattle.sx_record.specs.Escape.{byte_text}
use Rattle.sx_record.specs.Utf8.{character_len}

-- the byte at a place is part of a well-formed sequence of a character from U+00A0 up, wherever in the text that begins
pub record IsPart (bytes : List ℕ) (place : ℕ) : Type 0 where
  pub start : ℕ
  pub before : start ≤ place
  pub reaches : place < start + character_len (drop start bytes)

-- a piece for each byte: the byte itself where it is part of such a sequence, and what stands for a single byte else
pub record IsPrinted (bytes text : List ℕ) : Type 0 where
  pub pieces : List (List ℕ)
  pub joined : text ≡ flat_map (λ piece. piece) pieces
  pub count : length pieces ≡ length bytes
  pub part : (place : ℕ) → place < length bytes → IsPart bytes place → slice_get pieces place ≡ Some (slice_index bytes place ∷ [])
  pub single : (place : ℕ) → place < length bytes → (IsPart bytes place → ⊥) → slice_get pieces place ≡ Some (byte_text (slice_index bytes place))
