-- The forms of a candidate as predicates on one span of bytes.
use Rattle.std.specs.Prelude.{◌≡◌, ℕ, ◌+◌, ◌<◌, ◌≤◌, Bool, true, false, nat_lt, List, [], ◌++◌, length, Option, Some, None}
use Rattle.std.specs.Int.{w64, cast_signed}
use Rattle.sx_base.specs.Bytes.{word_at}
use Rattle.sx_cell.specs.declared.cell.Kind.TheVariants.{TableLeaf}
use Rattle.sx_cell.specs.Local.{longest_local, local_of}
use Rattle.sx_record.specs.Records.{bodies_len}
use Rattle.sx_grammar.specs.Shorts.{IsShort}
use Rattle.sx_grammar.specs.Sightings.{Sighting, whole as whole_sighting, seen}
use Rattle.sx_grammar.specs.Records.{IsHeader}

-- the number of an overflow page that isn't 0, where there is one
abbrev pub IsLink : Bool → List ℕ → Option ℕ → Type 0
IsLink true text page = (length text ≡ 4) × (0 < word_at text 0) × (page ≡ Some (word_at text 0))
IsLink false text page = (text ≡ []) × (page ≡ None)

-- Full: a whole cell of a table leaf, with every number spelled as short as can be; where its payload is longer than a cell
-- can hold, the local part holds the record's header, and a page number follows
pub record IsFull (usable : ℕ) (span : List ℕ) (sighting : Sighting) : Type 0 where
  pub payload : ℕ
  pub rowid : ℕ
  pub payload_text : List ℕ
  pub rowid_text : List ℕ
  pub header : List ℕ
  pub types_text : List ℕ
  pub types : List ℕ
  pub bodies : List ℕ
  pub link : List ℕ
  pub page : Option ℕ
  pub parts : span ≡ payload_text ++ (rowid_text ++ ((header ++ bodies) ++ link))
  pub size : IsShort payload_text payload
  pub key : IsShort rowid_text rowid
  pub limit : payload ≤ 2147483647
  pub typed : IsHeader header types_text types
  pub whole : payload ≡ length header + bodies_len types
  pub local : length (header ++ bodies) ≡ local_of TableLeaf payload usable
  pub linked : IsLink (nat_lt (longest_local TableLeaf usable) payload) link page
  pub is : sighting ≡ whole_sighting (length span) (cast_signed w64 rowid) payload (header ++ bodies) page (seen types bodies)

-- the bytes begin with a span of a form
pub record Begins (form : List ℕ → Sighting → Type 0) (bytes : List ℕ) (sighting : Sighting) : Type 0 where
  pub span : List ℕ
  pub rest : List ℕ
  pub parts : bytes ≡ span ++ rest
  pub accepts : form span sighting
