-- What a deletion leaves: a whole cell whose first four bytes were overwritten by those of a freeblock.
use Rattle.std.specs.Prelude.{◌≡◌, ◌⊎◌, ℕ, ◌+◌, ◌≤◌, Bool, true, false, List, ◌∷◌, ◌++◌, length, take, drop}
use Rattle.sx_base.specs.Bytes.{two_bytes_at}
use Rattle.sx_record.specs.SerialTypes.{body_len}
use Rattle.sx_record.specs.Records.{bodies_len}
use Rattle.sx_grammar.specs.declared.shape.ShapeKey.{ShapeKey}
use Rattle.sx_grammar.specs.Shorts.{IsShort, AreTypes}
use Rattle.sx_grammar.specs.Records.{IsHeader}
use Rattle.sx_grammar.specs.Clips.{Setting, Fits}
use Rattle.sx_grammar.specs.Choice.{Among}

-- a cell of a table leaf that stands whole, with every number spelled as short as can be and a header of at most 127 bytes
pub record IsCell (longest : ℕ) (cell : List ℕ) : Type 0 where
  pub payload : ℕ
  pub rowid : ℕ
  pub payload_text : List ℕ
  pub rowid_text : List ℕ
  pub header : List ℕ
  pub types_text : List ℕ
  pub types : List ℕ
  pub bodies : List ℕ
  pub parts : cell ≡ payload_text ++ (rowid_text ++ (header ++ bodies))
  pub size : IsShort payload_text payload
  pub key : IsShort rowid_text rowid
  pub typed : IsHeader header types_text types
  pub filled : length bodies ≡ bodies_len types
  pub whole : payload ≡ length (header ++ bodies)
  pub local : payload ≤ longest
  pub few : length header ≤ 127

-- a shape by its parts
abbrev pub shape_of : ℕ → Bool → ShapeKey
shape_of columns alias = record { columns = columns; alias = alias }

-- some shape has so many columns
pub record HasColumns (shapes : List ShapeKey) (columns : ℕ) : Type 0 where
  pub alias : Bool
  pub is : Among (shape_of columns alias) shapes

-- the first type is one byte
pub record IsShortFirst (types_text types : List ℕ) (type : ℕ) (others : List ℕ) : Type 0 where
  pub text : List ℕ
  pub rest : List ℕ
  pub parts : types_text ≡ text ++ rest
  pub one : length text ≡ 1
  pub is : IsShort text type
  pub first : types ≡ type ∷ others
  pub spelled : AreTypes others rest

-- a case in which the first type is overwritten too: the first column is an alias, with a body of no bytes, or a plain one,
-- and then the size is exactly the span's
abbrev pub IsCase : List ShapeKey → Bool → ℕ → ℕ → Bool → ℕ → ℕ → Type 0
IsCase shapes true columns type block len size = Among (shape_of columns true) shapes × (body_len type ≡ 0) × Fits block len size
IsCase shapes false columns type block len size = Among (shape_of columns false) shapes × (len ≡ size)

-- the first type was one byte that is overwritten too, and one of the two cases holds
pub record IsHidden (shapes : List ShapeKey) (types_text types : List ℕ) (block : Bool) (len size : ℕ) : Type 0 where
  pub type : ℕ
  pub others : List ℕ
  pub first : IsShortFirst types_text types type others
  pub alias : Bool
  pub case : IsCase shapes alias (length types) type block len size

-- what is known beside, by how many bytes of the four were those of the payload's length and the rowid
abbrev pub IsKnown : List ShapeKey → List ℕ → List ℕ → ℕ → Bool → ℕ → ℕ → Type 0
IsKnown shapes types_text types lens block len size =
    ((4 ≤ lens) × Fits block len size)
    ⊎ ((((lens ≡ 3) × HasColumns shapes (length types)) × Fits block len size)
    ⊎ ((lens ≡ 2) × IsHidden shapes types_text types block len size))

-- a freed cell: it differs at most in its first four bytes from a cell, and these are those of a freeblock
pub record IsFreed (shapes : List ShapeKey) (setting : Setting) (span : List ℕ) : Type 0 where
  pub cell : List ℕ
  pub is : IsCell setting.longest cell
  pub long : length cell ≡ length span
  pub same : drop 4 cell ≡ drop 4 span
  pub next : (two_bytes_at (take 4 span) 0 ≡ 0) ⊎ (setting.offset + two_bytes_at (take 4 span) 2 ≤ two_bytes_at (take 4 span) 0)
  pub known : IsKnown shapes is.types_text is.types (length is.payload_text + length is.rowid_text) setting.block (length span) (two_bytes_at (take 4 span) 2)
