-- What each byte of a page is at a moment. Bytes count from 0; the first case that applies is the label.
use Rattle.std.specs.Prelude.{ℕ, ◌+◌, ◌-◌, ◌*◌, ◌/◌, ◌==◌, nat_lt, nat_le, min, if◌then◌else◌, List, [], ◌∷◌, map, filter, Option, Some, None, Result, Ok, Err}
use Rattle.std.specs.List.{range_with_len}
use Rattle.sx_base.specs.Maps.{lock_page_of}
use Rattle.sx_base.specs.declared.layout.Layout.{Layout}
use Rattle.sx_base.specs.declared.role.Role.{Role}
use Rattle.sx_base.specs.declared.role.Role.TheVariants.{Node, Overflow, Trunk, FreeLeaf as FreeLeafRole, PointerMap}
use Rattle.sx_base.specs.declared.label.Label.{Label}
use Rattle.sx_base.specs.declared.label.Label.TheVariants.{LockPage, Reserved, Entries, TrunkHead, Link, Body, Gap, Fragment, MapRest, TrunkRest, FreeLeaf, Unreached, Tail, Absent, DoubleClaim, BadNode, BadArray, BadTrunk, Behind, LongChain, Overlap}
use Rattle.sx_node.specs.declared.node.NodeFault.{NodeFault}
use Rattle.sx_node.specs.declared.node.NodeFault.TheVariants.{BadFlag, BadArray as ArrayFault}
use Rattle.sx_node.specs.Nodes.{NodePage, content_start, node_of}
use Rattle.sx_node.specs.Claims.{Claim, claims_of}
use Rattle.sx_free.specs.declared.trunk.TrunkFault.{TrunkFault}
use Rattle.sx_free.specs.Trunks.{TrunkPage, leaf_count, trunk_of}
use Rattle.sx_closure.specs.declared.pair.Target.{Target}
use Rattle.sx_closure.specs.Graph.{Graph, references_to}
use Rattle.sx_seglist.specs.Claims.{holds}
use Rattle.sx_prov.specs.Places.{left_in}

-- ---- b-tree pages ("B-tree Pages")

-- a byte that nothing claims
abbrev pub unclaimed_label : NodePage → ℕ → Label
unclaimed_label node at = if nat_lt at (content_start node) then Gap else Fragment

-- the claims that hold a byte are counted: one gives its own label, two or more hide what the byte is
abbrev pub claimed_label : NodePage → ℕ → List Claim → Label
claimed_label node at [] = unclaimed_label node at
claimed_label node at (claim ∷ []) = claim.1
claimed_label node at (claim ∷ other ∷ claims) = Overlap

unfoldable pub node_label : NodePage → ℕ → Label
node_label node at = claimed_label node at (filter (holds at) (claims_of node))

abbrev pub if_node : Result NodePage NodeFault → ℕ → Label
if_node (Ok node) at = node_label node at
if_node (Err BadFlag) at = BadNode
if_node (Err ArrayFault) at = BadArray

-- ---- the other kinds of pages

-- a pointer-map page: as many entries of 5 bytes as fit ("Pointer Map or Ptrmap Pages")
abbrev pub map_label : ℕ → ℕ → Label
map_label usable at = if nat_lt at (5 * (usable / 5)) then Entries else MapRest

-- a freelist trunk page: a word for the next, a word for the count, a word for each leaf ("The Freelist")
abbrev pub trunk_label : Result TrunkPage TrunkFault → ℕ → Label
trunk_label (Ok trunk) at = if nat_lt at (8 + 4 * leaf_count trunk) then TrunkHead else TrunkRest
trunk_label (Err fault) at = BadTrunk

-- an overflow page that holds so many bytes of a payload: a word for the next, then these bytes
abbrev pub body_label : ℕ → ℕ → Label
body_label count at = if nat_lt at 4 then Link else (if nat_lt at (4 + count) then Body else Tail)

-- an overflow page, at which so many bytes of its cell's payload are still to come: behind no cell, behind the last page
-- that its cell needs, or one that holds some of them
abbrev pub overflow_label : ℕ → Option ℕ → ℕ → Label
overflow_label usable None at = Behind
overflow_label usable (Some left) at = if left == 0 then LongChain else body_label (min (usable - 4) left) at

-- ---- any page

-- a page with one reference, by the role in which it is named
abbrev pub role_label : List ℕ → ℕ → ℕ → Option ℕ → Role → ℕ → Label
role_label bytes page usable left Node at = if_node (node_of bytes page usable) at
role_label bytes page usable left Overflow at = overflow_label usable left at
role_label bytes page usable left Trunk at = trunk_label (trunk_of bytes usable) at
role_label bytes page usable left FreeLeafRole at = FreeLeaf
role_label bytes page usable left PointerMap at = map_label usable at

-- by the references to the page
abbrev pub reference_label : List ℕ → ℕ → ℕ → Option ℕ → List Target → ℕ → Label
reference_label bytes page usable left [] at = Unreached
reference_label bytes page usable left (target ∷ []) at = role_label bytes page usable left target.pair.role at
reference_label bytes page usable left (target ∷ other ∷ targets) at = DoubleClaim

-- a page with these bytes: behind the usable ones they are reserved
abbrev pub used_label : List ℕ → ℕ → ℕ → Option ℕ → List Target → ℕ → Label
used_label bytes page usable left targets at = if nat_le usable at then Reserved else reference_label bytes page usable left targets at

-- a page that may have a view
abbrev pub view_label : Graph → ℕ → ℕ → Option (List ℕ) → ℕ → Label
view_label graph usable page None at = Absent
view_label graph usable page (Some bytes) at = used_label bytes page usable (left_in graph (usable - 4) page) (references_to graph page) at

-- a byte of a page of a moment with that layout and these views, where the graph says what refers to what
unfoldable pub label_of : Graph → Layout → (ℕ → Option (List ℕ)) → ℕ → ℕ → Label
label_of graph layout view page at =
    if page == lock_page_of layout.page_size then LockPage else view_label graph layout.usable page (view page) at

-- the labels of all bytes of the page, in order
unfoldable pub labels_of : Graph → Layout → (ℕ → Option (List ℕ)) → ℕ → List Label
labels_of graph layout view page = map (label_of graph layout view page) (range_with_len 0 layout.page_size)
