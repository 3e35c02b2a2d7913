-- What of a moment decides the labels of a page's bytes, besides these bytes.
use Rattle.std.specs.Prelude.{◌≡◌, ◌≢◌, ℕ, ◌-◌, ◌==◌, nat_le, min, if◌then◌else◌, List, length, map, ℤ, Option, Some, None}
use Rattle.std.specs.List.{range_with_len}
use Rattle.sx_base.specs.Maps.{lock_page_of}
use Rattle.sx_base.specs.declared.layout.Layout.{Layout}
use Rattle.sx_base.specs.declared.role.Role.{Role}
use Rattle.sx_base.specs.declared.role.Role.TheVariants.{Node as NodeRole, Overflow, Trunk as TrunkRole, FreeLeaf as FreeLeafRole, PointerMap}
use Rattle.sx_base.specs.declared.label.Label.{Label}
use Rattle.sx_base.specs.declared.label.Label.TheVariants.{LockPage, Reserved, Absent, FreeLeaf as FreeLeafLabel, Unreached as UnreachedLabel, DoubleClaim as DoubleClaimLabel, Behind as BehindLabel, LongChain as LongChainLabel}
use Rattle.sx_node.specs.Nodes.{node_of}
use Rattle.sx_free.specs.Trunks.{trunk_of}
use Rattle.sx_closure.specs.declared.pair.Target.{Target}
use Rattle.sx_closure.specs.Tallying.{Table, count_at, one_at, left_at, IsTableOf}
use Rattle.sx_refs.specs.Pages.{graph_of}
use Rattle.sx_prov.specs.Labels.{map_label, trunk_label, body_label, if_node, label_of, labels_of}
use Rattle.sx_prov.specs.declared.key.Standing.{Standing}
use Rattle.sx_prov.specs.declared.key.Standing.TheVariants.{Unreached, DoubleClaim, Map, Trunk, FreeLeaf, Behind, LongChain, Body, FirstNode, Node}
use Rattle.sx_prov.specs.declared.key.PageKey.{PageKey}

-- the label of a used byte of a page with these bytes; page 2 stands for any b-tree page but page 1
unfoldable pub standing_label : Standing → List ℕ → ℕ → ℕ → Label
standing_label Unreached bytes usable at = UnreachedLabel
standing_label DoubleClaim bytes usable at = DoubleClaimLabel
standing_label Map bytes usable at = map_label usable at
standing_label Trunk bytes usable at = trunk_label (trunk_of bytes usable) at
standing_label FreeLeaf bytes usable at = FreeLeafLabel
standing_label Behind bytes usable at = BehindLabel
standing_label LongChain bytes usable at = LongChainLabel
standing_label (Body count) bytes usable at = body_label count at
standing_label FirstNode bytes usable at = if_node (node_of bytes 1 usable) at
standing_label Node bytes usable at = if_node (node_of bytes 2 usable) at

-- the label of a byte: behind the usable ones it is reserved
unfoldable pub key_label : PageKey → List ℕ → ℕ → Label
key_label key bytes at = if nat_le key.usable at then Reserved else standing_label key.standing bytes key.usable at

-- the labels of all bytes
unfoldable pub keyed_labels : PageKey → List ℕ → List Label
keyed_labels key bytes = map (key_label key bytes) (range_with_len 0 (length bytes))

-- how an overflow page stands at which so many bytes of its cell's payload are still to come
abbrev pub overflow_standing : ℕ → Option ℕ → Standing
overflow_standing usable None = Behind
overflow_standing usable (Some left) = if left == 0 then LongChain else Body (min (usable - 4) left)

abbrev pub role_standing : ℕ → ℕ → Option ℕ → Role → Standing
role_standing usable page left NodeRole = if page == 1 then FirstNode else Node
role_standing usable page left Overflow = overflow_standing usable left
role_standing usable page left TrunkRole = Trunk
role_standing usable page left FreeLeafRole = FreeLeaf
role_standing usable page left PointerMap = Map

-- how a page stands with so many references, and with that one where it has no other
abbrev pub standing_by : ℕ → ℕ → ℕ → Option ℕ → Option Target → Standing
standing_by usable page count left None = if count == 0 then Unreached else DoubleClaim
standing_by usable page count left (Some target) = role_standing usable page left target.pair.role

-- the key of a page, as the table has it
unfoldable pub key_of : Table → ℕ → ℕ → PageKey
key_of table usable page = record {
  usable = usable;
  standing = standing_by usable page (count_at table page) (left_at table page) (one_at table page);
}

-- the labels by a key are those of a page of the moment whose graph the table belongs to
abbrev pub IsKeyOf : ℕ → (ℕ → Option (List ℕ)) → Layout → Table → ℕ → PageKey → Type 0
IsKeyOf pages view layout table page key =
    (roots : List ℤ) (bytes : List ℕ) (at : ℕ)
    → IsTableOf (graph_of pages view layout roots) (layout.usable - 4) table
    → page ≢ lock_page_of layout.page_size → view page ≡ Some bytes
    → label_of (graph_of pages view layout roots) layout view page at ≡ key_label key bytes at

-- labels are those of a page of the moment whose graph the table belongs to
abbrev pub AreLabels : ℕ → (ℕ → Option (List ℕ)) → Layout → Table → ℕ → List Label → Type 0
AreLabels pages view layout table page labels =
    (roots : List ℤ) → IsTableOf (graph_of pages view layout roots) (layout.usable - 4) table
    → labels ≡ labels_of (graph_of pages view layout roots) layout view page

-- the labels of a page with or without a view
abbrev pub viewed_labels : Table → ℕ → ℕ → ℕ → Option (List ℕ) → List Label
viewed_labels table page_size usable page None = map (λ at. Absent) (range_with_len 0 page_size)
viewed_labels table page_size usable page (Some bytes) = keyed_labels (key_of table usable page) bytes

-- the labels of a page, as the table has it
unfoldable pub table_labels : Table → Layout → (ℕ → Option (List ℕ)) → ℕ → List Label
table_labels table layout view page =
    if page == lock_page_of layout.page_size then map (λ at. LockPage) (range_with_len 0 layout.page_size)
    else viewed_labels table layout.page_size layout.usable page (view page)
