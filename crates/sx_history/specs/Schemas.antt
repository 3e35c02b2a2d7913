-- The schema at one moment after the other, over one list of page numbers ("Storage Of The SQL Database Schema").
use Rattle.std.specs.Prelude.{◌≡◌, ℕ, Bool, true, false, List, map, slice_index, Option, is_some, ⊤}
use Rattle.std.specs.List.{Contains}
use Rattle.sx_bytes.specs.declared.encoding.Encoding.{Encoding}
use Rattle.sx_schema.specs.declared.listing.Schema.{Schema}
use Rattle.sx_schema.specs.Entries.{Entry, schema_of}
use Rattle.sx_schema.specs.Given.{entries_by}
use Rattle.sx_history.specs.Marks.{is_marked, view_at}
use Rattle.sx_history.specs.Standing.{IsWatched}

-- the numbers of the pages that any of the moments may hold, the view of each at the moment, and the entries of the schema. The
-- rank of a page is its place in the list of numbers
pub record WalkedSchema : Type 0 where
  pub numbers : List ℕ
  pub views : List (Option (List ℕ))
  pub entries : List Entry

-- the walk stands at the moment with these views, with so many usable bytes and this encoding
pub record IsSchemaAt (size : ℕ) (view : ℕ → Option (List ℕ)) (usable : ℕ) (encoding : Encoding) (walk : WalkedSchema) : Type 0 where
  pub views : walk.views ≡ map view walk.numbers
  pub entries : walk.entries ≡ schema_of size view usable encoding

-- a page with one view and then another is held as before, and has the same view where it may be a page of the tree
pub record IsStillPage (before now : Option (List ℕ)) (node chain : Bool) : Type 0 where
  pub held : is_some now ≡ is_some before
  pub node_same : node ≡ true → now ≡ before
  pub chain_same : chain ≡ true → now ≡ before

-- so are all pages whose ranks are listed
abbrev pub AreStill : List ℕ → List (Option (List ℕ)) → (ℕ → Option (List ℕ)) → List Bool → List Bool → List ℕ → Type 0
AreStill numbers views view nodes chains changed =
    (rank : ℕ) → Contains changed rank → IsStillPage (view_at views rank) (view (slice_index numbers rank)) (is_marked nodes rank) (is_marked chains rank)

-- what is kept of a moment: its pages, marks on those that the tree at page 1 may have, and its schema
pub record IsSchemaKept (numbers : List ℕ) (views : List (Option (List ℕ))) (size usable : ℕ) (encoding : Encoding) (schema : Schema) (nodes chains : List Bool) : Type 0 where
  pub watched : IsWatched numbers views usable 1 nodes chains
  pub entries_are : entries_by schema ≡ schema_of size watched.view usable encoding

-- so it is, where it is said to
abbrev pub IfSchemaKept : Bool → List ℕ → List (Option (List ℕ)) → ℕ → ℕ → Encoding → Schema → List Bool → List Bool → Type 0
IfSchemaKept false numbers views size usable encoding schema nodes chains = ⊤
IfSchemaKept true numbers views size usable encoding schema nodes chains = IsSchemaKept numbers views size usable encoding schema nodes chains
