-- Pages that a walk over a tree may go to: into some as b-tree pages, over others as overflow pages.
use Rattle.std.specs.Prelude.{◌≡◌, ◌⊎◌, ℕ, ℤ, ◌≤◌, List, length, Option, Some, is_some, Ok}
use Rattle.std.specs.List.{All}
use Rattle.sx_node.specs.Nodes.{NodePage, node_of}
use Rattle.sx_node.specs.declared.targets.NodeTarget.{NodeTarget}
use Rattle.sx_node.specs.declared.targets.NodeTarget.TheVariants.{Child, Overflow, Right}
use Rattle.sx_node.specs.Targets.{targets_of}
use Rattle.sx_overflow.specs.Chains.{link_of}
use Rattle.sx_history.specs.Leaves.{StaysLeaf}

-- a page that is named is among those that it is named as one of
abbrev pub IsNamed : (ℕ → Type 0) → (ℕ → Type 0) → NodeTarget → Type 0
IsNamed Node Chain (Child index page) = Node page
IsNamed Node Chain (Overflow index page rest) = Chain page
IsNamed Node Chain (Right page) = Node page

-- all pages that a b-tree page names are among them
abbrev pub AllNamed : (ℕ → Type 0) → (ℕ → Type 0) → ℕ → ℕ → Option (List ℕ) → Type 0
AllNamed Node Chain usable number view =
    (page : List ℕ) (node : NodePage) → view ≡ Some page → node_of page number usable ≡ Ok node → All (IsNamed Node Chain) (targets_of node)

-- the page that an overflow page links to is among them
abbrev pub IsLinked : (ℕ → Type 0) → Option (List ℕ) → Type 0
IsLinked Chain view = (page : List ℕ) → view ≡ Some page → Chain (link_of page)

-- with each page they have all that it leads to
pub record IsClosed (view : ℕ → Option (List ℕ)) (usable : ℕ) (Node Chain : ℕ → Type 0) : Type 0 where
  pub nodes : (number : ℕ) → Node number → AllNamed Node Chain usable number (view number)
  pub chains : (number : ℕ) → Chain number → IsLinked Chain (view number)

-- from some views to others each page stays held or not, each overflow page has the same view, and each b-tree page too unless
-- it is a leaf that says the same of the rowid
pub record IsSteady (usable : ℕ) (rowid : ℤ) (view next : ℕ → Option (List ℕ)) (Node Chain : ℕ → Type 0) : Type 0 where
  pub held : (number : ℕ) → is_some (next number) ≡ is_some (view number)
  pub node : (number : ℕ) → Node number → (next number ≡ view number) ⊎ StaysLeaf usable number rowid (view number) (next number)
  pub chain : (number : ℕ) → Chain number → next number ≡ view number

-- over the pages that a walk from a root may go to, two lists of views are alike: the pages have all usable bytes, and what changed
-- is steady
pub record AreAlike (usable root : ℕ) (rowid : ℤ) (view next : ℕ → Option (List ℕ)) (Node Chain : ℕ → Type 0) : Type 0 where
  pub least : 480 ≤ usable
  pub room : (number : ℕ) (page : List ℕ) → view number ≡ Some page → usable ≤ length page
  pub room_now : (number : ℕ) (page : List ℕ) → next number ≡ Some page → usable ≤ length page
  pub closed : IsClosed view usable Node Chain
  pub steady : IsSteady usable rowid view next Node Chain
  pub at_root : Node root
