-- The pages of a tree: the root and, with each page, the children that it names, as far as they are held. Damaged trees
-- may name a page more than once, or go round in a circle; so what names a page is counted.
use Rattle.std.specs.Prelude.{◌≡◌, ◌<◌, ℕ, zero, suc, Bool, true, List, [], ◌∷◌, ◌++◌, Option, Some, None, Result, Ok, Err, length, is_some, filter, fold, count_by, nat_eq, if◌then◌else◌}
use Rattle.std.specs.List.{flat_map, list_any}
use Rattle.sx_base.specs.Held.{held_pages}
use Rattle.sx_node.specs.declared.node.NodeFault.{NodeFault}
use Rattle.sx_node.specs.Nodes.{NodePage, node_of}
use Rattle.sx_node.specs.declared.targets.NodeTarget.{NodeTarget}
use Rattle.sx_node.specs.declared.targets.NodeTarget.TheVariants.{Child, Overflow, Right}
use Rattle.sx_node.specs.Targets.{targets_of}

-- a tree: the size of the moment in pages, the views of its pages, how many bytes of a page are in use, and the root
pub record Tree : Type 0 where
  pub size : ℕ
  pub view : ℕ → Option (List ℕ)
  pub usable : ℕ
  pub root : ℕ

-- the tree of these
abbrev pub tree_in : ℕ → (ℕ → Option (List ℕ)) → ℕ → ℕ → Tree
tree_in size view usable root = record { size = size; view = view; usable = usable; root = root }

-- neither page 0 nor a page past the size has a view
pub record IsBounded (tree : Tree) : Type 0 where
  pub within : (number : ℕ) → tree.size < number → tree.view number ≡ None
  pub from_one : tree.view 0 ≡ None

-- a page is held where it has a view
abbrev pub is_held : Tree → ℕ → Bool
is_held tree number = is_some (tree.view number)

-- the child that a page names
abbrev pub child_in : NodeTarget → List ℕ
child_in (Child index page) = page ∷ []
child_in (Overflow index page rest) = []
child_in (Right page) = page ∷ []

-- the children among all pages that a b-tree page names, in order
abbrev pub children_of : NodePage → List ℕ
children_of node = flat_map child_in (targets_of node)

-- the children that a page which was read names: a page that is no b-tree page names none
abbrev pub node_children : Result NodePage NodeFault → List ℕ
node_children (Ok node) = children_of node
node_children (Err fault) = []

-- the children that the page with these bytes names, if it is held
abbrev pub view_children : ℕ → ℕ → Option (List ℕ) → List ℕ
view_children usable number None = []
view_children usable number (Some page) = node_children (node_of page number usable)

-- the children that the page of a number names
unfoldable pub children : Tree → ℕ → List ℕ
children tree number = view_children tree.usable number (tree.view number)

-- what names pages: the root itself, and the children of these pages in order
abbrev pub names : Tree → List ℕ → List ℕ
names tree pages = tree.root ∷ flat_map (children tree) pages

-- a number stands in a list
abbrev pub stands_in : List ℕ → ℕ → Bool
stands_in numbers number = list_any (nat_eq number) numbers

-- a number more, unless it is there
abbrev pub with_number : List ℕ → ℕ → List ℕ
with_number numbers number = if stands_in numbers number then numbers else numbers ++ number ∷ []

-- each number of a list once, where it stands first
unfoldable pub each_once : List ℕ → List ℕ
each_once numbers = fold with_number [] numbers

-- the held pages that these pages or the root name
abbrev pub named_by : Tree → List ℕ → List ℕ
named_by tree pages = each_once (filter (is_held tree) (names tree pages))

-- so many rounds, from no page on: each finds what the pages of the one before name
abbrev pub rounds : Tree → ℕ → List ℕ
rounds tree zero = []
rounds tree (suc n) = named_by tree (rounds tree n)

-- how many pages are held
abbrev pub held_count : Tree → ℕ
held_count tree = length (held_pages tree.size tree.view)

-- the pages of the tree: as many rounds as pages are held find them all
unfoldable pub tree_pages : Tree → List ℕ
tree_pages tree = rounds tree (held_count tree)

-- how often a number stands in a list
abbrev pub times : ℕ → List ℕ → ℕ
times number numbers = count_by (nat_eq number) numbers

-- how often a page is named: as a child by the pages of the tree, and once more as the root
unfoldable pub references : Tree → ℕ → ℕ
references tree number = times number (names tree (tree_pages tree))

-- a set of pages has the root, if it is held, and with each of its pages the held children that this one names
pub record IsClosed (tree : Tree) (set : ℕ → Bool) : Type 0 where
  pub root : is_held tree tree.root ≡ true → set tree.root ≡ true
  pub child : (page child : ℕ) → set page ≡ true → stands_in (children tree page) child ≡ true → is_held tree child ≡ true → set child ≡ true
