-- What the value of a column holds, its bytes as a list.
use Rattle.std.specs.Prelude.{ℕ, ℤ, List}
use Rattle.sx_record.specs.declared.value.Value.{Value}
use Rattle.sx_record.specs.declared.value.Value.TheVariants.{Null, Int, Real, Text, Blob}

-- what the value of a column holds
pub data Content : Type 0 where
  null : Content
  integer : ℤ → Content
  real : List ℕ → Content
  text : List ℕ → Content
  blob : List ℕ → Content

-- what a value holds
abbrev pub content_of : Value → Content
content_of Null = null
content_of (Int number) = integer number
content_of (Real bytes) = real bytes.now
content_of (Text bytes) = text bytes.now
content_of (Blob bytes) = blob bytes.now
