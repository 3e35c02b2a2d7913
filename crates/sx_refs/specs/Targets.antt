-- What a page in a role names, each target with its source ("B-tree Pages", "Cell Payload Overflow Pages", "The
-- Freelist").
use Rattle.std.specs.Prelude.{ℕ, ◌==◌, if◌then◌else◌, Bool, true, false, List, [], ◌∷◌, ◌++◌, map, Result, Ok, Err}
use Rattle.std.specs.List.{range_with_len}
use Rattle.sx_base.specs.Bytes.{word_at}
use Rattle.sx_node.specs.declared.node.NodeFault.{NodeFault}
use Rattle.sx_node.specs.Nodes.{NodePage, node_of}
use Rattle.sx_node.specs.Targets.{targets_of as names_of}
use Rattle.sx_node.specs.declared.targets.NodeTarget.{NodeTarget}
use Rattle.sx_node.specs.declared.targets.NodeTarget.TheVariants.{Child, Overflow as OverflowTarget, Right}
use Rattle.sx_free.specs.declared.trunk.TrunkFault.{TrunkFault}
use Rattle.sx_free.specs.Trunks.{TrunkPage, next_trunk, leaf_count, leaf_at, trunk_of}
use Rattle.sx_base.specs.declared.role.Role.{Role}
use Rattle.sx_base.specs.declared.role.Role.TheVariants.{Node, Overflow, Trunk, FreeLeaf, PointerMap}
use Rattle.sx_closure.specs.declared.pair.Pair.{Pair}
use Rattle.sx_closure.specs.declared.pair.Source.{Source}
use Rattle.sx_closure.specs.declared.pair.Source.TheVariants.{Cell as CellSource, Page as PageSource}
use Rattle.sx_closure.specs.declared.pair.Target.{Target}

-- a page in a role, named there; `rest` bytes of a payload stand behind the cell that names an overflow page
abbrev pub target : ℕ → Role → Source → ℕ → Target
target page role source rest = record { pair = record { page = page; role = role }; source = source; rest = rest }

-- the page, where 0 stands for none
unfoldable pub linked : ℕ → Role → Source → List Target
linked page role source = if page == 0 then [] else target page role source 0 ∷ []

-- what a b-tree page of that number names, with its source: the cell, or the page where it is the right-most child
abbrev pub from_node : ℕ → NodeTarget → Target
from_node page (Child cell child) = target child Node (CellSource page cell) 0
from_node page (OverflowTarget cell first rest) = target first Overflow (CellSource page cell) rest
from_node page (Right child) = target child Node (PageSource page) 0

-- what a b-tree page names: for each cell that can be read its child and its first overflow page, by the index of the
-- cell, then the right-most child
abbrev pub node_targets : ℕ → NodePage → List Target
node_targets page node = map (from_node page) (names_of node)

-- the first so many leaves of a freelist trunk page
unfoldable pub leaves_targets : ℕ → TrunkPage → ℕ → List Target
leaves_targets page trunk count = map (λ index. target (leaf_at trunk index) FreeLeaf (PageSource page) 0) (range_with_len 0 count)

-- what a freelist trunk page names: the next trunk page, then its leaves
unfoldable pub trunk_targets : ℕ → TrunkPage → List Target
trunk_targets page trunk = linked (next_trunk trunk) Trunk (PageSource page) ++ leaves_targets page trunk (leaf_count trunk)

-- a faulty page names nothing
abbrev pub if_node : ℕ → Result NodePage NodeFault → List Target
if_node page (Ok node) = node_targets page node
if_node page (Err fault) = []

abbrev pub if_trunk : ℕ → Result TrunkPage TrunkFault → List Target
if_trunk page (Ok trunk) = trunk_targets page trunk
if_trunk page (Err fault) = []

-- a page in the role may name others
abbrev pub may_name : Role → Bool
may_name Node = true
may_name Overflow = true
may_name Trunk = true
may_name FreeLeaf = false
may_name PointerMap = false

-- what a page with these bytes names in each role
abbrev pub in_role : List ℕ → ℕ → ℕ → Role → List Target
in_role bytes page usable Node = if_node page (node_of bytes page usable)
in_role bytes page usable Overflow = linked (word_at bytes 0) Overflow (PageSource page)
in_role bytes page usable Trunk = if_trunk page (trunk_of bytes usable)
in_role bytes page usable FreeLeaf = []
in_role bytes page usable PointerMap = []

-- what a pair names, of a page with these bytes
unfoldable pub targets_of : List ℕ → Pair → ℕ → List Target
targets_of bytes pair usable = in_role bytes pair.page usable pair.role
