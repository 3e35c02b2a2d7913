-- What a cell is: its fields stand one after the other from its place on ("B-tree Pages"). Cells and the two faults are
-- told here by texts, the bytes of each field; Reading tells how they are read.
use Rattle.std.specs.Prelude.{◌≡◌, ◌↔◌, ℕ, ℤ, ◌+◌, max, nat_lt, if◌then◌else◌, ◌<◌, ◌≤◌, Bool, true, false, List, [], ◌++◌, length, take, drop, Option, Some, None, IsSome, IsTrue, Ok}
use Rattle.sx_base.specs.Bytes.{word_at}
use Rattle.sx_bytes.specs.Varints.{IsVarint, EndsInside}
use Rattle.sx_cell.specs.declared.cell.Kind.{Kind}
use Rattle.sx_cell.specs.declared.cell.Kind.TheVariants.{TableLeaf, TableInner, IndexLeaf, IndexInner}
use Rattle.sx_cell.specs.declared.cell.Cell.{Cell}
use Rattle.sx_cell.specs.Kinds.{is_table, has_child}
use Rattle.sx_cell.specs.Local.{longest_payload, local_of}
use Rattle.sx_cell.specs.Fields.{signed}
use Rattle.sx_cell.specs.Reading.{cell_of}

-- the text is a word
abbrev pub IsWord : List ℕ → ℕ → Type 0
IsWord text value = (length text ≡ 4) × (value ≡ word_at text 0)

-- the text is a word where there is one, and else empty
abbrev pub IsWordIf : Bool → List ℕ → Option ℕ → Type 0
IsWordIf true text found = (value : ℕ) × IsWord text value × (found ≡ Some value)
IsWordIf false text found = (text ≡ []) × (found ≡ None)

-- the text is the page number of a cell's left child
abbrev pub IsChild : Kind → List ℕ → Option ℕ → Type 0
IsChild kind text child = IsWordIf (has_child kind) text child

-- the text is the length of a cell's payload
abbrev pub IsSize : Kind → List ℕ → ℕ → Type 0
IsSize TableLeaf text payload = IsVarint text payload
IsSize TableInner text payload = (text ≡ []) × (payload ≡ 0)
IsSize IndexLeaf text payload = IsVarint text payload
IsSize IndexInner text payload = IsVarint text payload

-- the text is a signed number
abbrev pub IsSigned : List ℕ → Option ℤ → Type 0
IsSigned text found = (bits : ℕ) × IsVarint text bits × (found ≡ Some (signed bits))

-- the text is a rowid or a key
abbrev pub IsKey : Kind → List ℕ → Option ℤ → Type 0
IsKey TableLeaf text key = IsSigned text key
IsKey TableInner text key = IsSigned text key
IsKey IndexLeaf text key = (text ≡ []) × (key ≡ None)
IsKey IndexInner text key = (text ≡ []) × (key ≡ None)

-- the texts of a cell's fields in their order: those that its kind doesn't have are empty
pub record Texts : Type 0 where
  pub child : List ℕ
  pub size : List ℕ
  pub key : List ℕ
  pub local : List ℕ
  pub link : List ℕ

-- the bytes of the fields, and what follows
abbrev pub spelled : Texts → List ℕ → List ℕ
spelled t rest = t.child ++ (t.size ++ (t.key ++ (t.local ++ (t.link ++ rest))))

-- how many bytes stand in front of the payload
abbrev pub head_len : Texts → ℕ
head_len t = length t.child + (length t.size + length t.key)

-- how many bytes the fields have
abbrev pub whole_len : Texts → ℕ
whole_len t = head_len t + (length t.local + length t.link)

-- the texts are those of the cell
pub record IsSpelled (kind : Kind) (at usable : ℕ) (cell : Cell) (t : Texts) : Type 0 where
  pub place : cell.at ≡ at
  pub child : IsChild kind t.child cell.child
  pub size : IsSize kind t.size cell.payload
  pub limit : cell.payload ≤ longest_payload
  pub key : IsKey kind t.key cell.rowid
  pub local : cell.local ≡ local_of kind cell.payload usable
  pub held : length t.local ≡ cell.local
  pub link : IsWordIf (nat_lt cell.local cell.payload) t.link cell.overflow
  pub local_at : cell.local_at ≡ at + head_len t
  pub len : cell.len ≡ max 4 (whole_len t)

-- the cell stands at the place: its fields do, one after the other, and what it owns ends within the usable bytes
pub record StandsAt (kind : Kind) (page : List ℕ) (at usable : ℕ) (cell : Cell) : Type 0 where
  pub texts : Texts
  pub rest : List ℕ
  pub parts : drop at (take usable page) ≡ spelled texts rest
  pub fields : IsSpelled kind at usable cell texts
  pub owned : at + cell.len ≤ usable

-- the fields up to the payload's length stand at the place, and that is above the greatest
pub record IsTooLong (kind : Kind) (page : List ℕ) (at usable : ℕ) : Type 0 where
  pub child_text : List ℕ
  pub size_text : List ℕ
  pub rest : List ℕ
  pub parts : drop at (take usable page) ≡ child_text ++ (size_text ++ rest)
  pub child : Option ℕ
  pub is_child : IsChild kind child_text child
  pub payload : ℕ
  pub is_size : IsSize kind size_text payload
  pub above : longest_payload < payload

-- ---- where the bytes end too early

-- they end inside a word
abbrev pub IsCutWord : List ℕ → Type 0
IsCutWord bytes = length bytes < 4

-- they end inside a word where there is one
abbrev pub IsCutWordIf : Bool → List ℕ → Type 0
IsCutWordIf there bytes = IsTrue there × IsCutWord bytes

-- they end inside the length of a payload
abbrev pub IsCutSize : Kind → List ℕ → Type 0
IsCutSize TableLeaf bytes = EndsInside bytes
IsCutSize TableInner bytes = ⊥
IsCutSize IndexLeaf bytes = EndsInside bytes
IsCutSize IndexInner bytes = EndsInside bytes

-- they end inside a rowid or a key
abbrev pub IsCutKey : Kind → List ℕ → Type 0
IsCutKey TableLeaf bytes = EndsInside bytes
IsCutKey TableInner bytes = EndsInside bytes
IsCutKey IndexLeaf bytes = ⊥
IsCutKey IndexInner bytes = ⊥

-- behind the child's number the bytes end inside the length of the payload
pub record EndsInSize (kind : Kind) (bytes : List ℕ) : Type 0 where
  pub child_text : List ℕ
  pub rest : List ℕ
  pub parts : bytes ≡ child_text ++ rest
  pub child : Option ℕ
  pub is_child : IsChild kind child_text child
  pub inside : IsCutSize kind rest

-- behind these two they end inside the rowid or the key
pub record EndsInKey (kind : Kind) (bytes : List ℕ) : Type 0 where
  pub child_text : List ℕ
  pub size_text : List ℕ
  pub rest : List ℕ
  pub parts : bytes ≡ child_text ++ (size_text ++ rest)
  pub child : Option ℕ
  pub is_child : IsChild kind child_text child
  pub payload : ℕ
  pub is_size : IsSize kind size_text payload
  pub limit : payload ≤ longest_payload
  pub inside : IsCutKey kind rest

-- how many bytes stand behind the fields in front of a payload: its local part, and the number of its first overflow page
-- where it is longer
abbrev pub body_len : ℕ → ℕ → ℕ
body_len local payload = local + (if nat_lt local payload then 4 else 0)

-- behind all three they end inside the local part of the payload or the number of its first overflow page
pub record EndsInBody (kind : Kind) (usable : ℕ) (bytes : List ℕ) : Type 0 where
  pub child_text : List ℕ
  pub size_text : List ℕ
  pub key_text : List ℕ
  pub rest : List ℕ
  pub parts : bytes ≡ child_text ++ (size_text ++ (key_text ++ rest))
  pub child : Option ℕ
  pub is_child : IsChild kind child_text child
  pub payload : ℕ
  pub is_size : IsSize kind size_text payload
  pub limit : payload ≤ longest_payload
  pub key : Option ℤ
  pub is_key : IsKey kind key_text key
  pub inside : length rest < body_len (local_of kind payload usable) payload

-- all fields stand there, and what the cell owns ends past the usable bytes
pub record OwnsPast (kind : Kind) (at usable : ℕ) (bytes : List ℕ) : Type 0 where
  pub cell : Cell
  pub texts : Texts
  pub rest : List ℕ
  pub parts : bytes ≡ spelled texts rest
  pub fields : IsSpelled kind at usable cell texts
  pub past : usable < at + cell.len

-- the usable bytes from the place on end inside a field behind those that stand there, or before what the cell owns: past
-- the usable bytes none are left for the first field
pub data IsOutside (kind : Kind) (page : List ℕ) (at usable : ℕ) : Type 0 where
  in_child : IsCutWordIf (has_child kind) (drop at (take usable page)) → IsOutside kind page at usable
  in_size : EndsInSize kind (drop at (take usable page)) → IsOutside kind page at usable
  in_key : EndsInKey kind (drop at (take usable page)) → IsOutside kind page at usable
  in_body : EndsInBody kind usable (drop at (take usable page)) → IsOutside kind page at usable
  owns_past : OwnsPast kind at usable (drop at (take usable page)) → IsOutside kind page at usable

-- ---- cells that were read

-- what holds of each cell of a page with so many usable bytes
pub record HasRanges (kind : Kind) (usable : ℕ) (cell : Cell) : Type 0 where
  pub least : 4 ≤ cell.len
  pub owned : cell.at + cell.len ≤ usable
  pub child : IsSome cell.child ↔ IsTrue (has_child kind)
  pub rowid : IsSome cell.rowid ↔ IsTrue (is_table kind)
  pub limit : cell.payload ≤ longest_payload
  pub local : cell.local ≡ local_of kind cell.payload usable
  pub part : cell.local ≤ cell.payload
  pub held : cell.local_at + cell.local ≤ usable
  pub spilled : IsSome cell.overflow ↔ (cell.local < cell.payload)

-- the cell was read from the page, at its place
pub record WasRead (page : List ℕ) (usable : ℕ) (cell : Cell) : Type 0 where
  pub kind : Kind
  pub read : cell_of kind page cell.at usable ≡ Ok cell
