-- What stands where: roots in no page, and what a pair names in its page; and of overflow pages only one of a chain is named
-- in no cell.
use Rattle.std.proofs.Common.{◌≡◌, ℕ, ◌==◌, Bool, true, false, cond, ℤ, pos, List, [], ◌∷◌, ◌++◌, map, filter, Option, Some, None, Result, Ok, Err, refl}
use Rattle.std.specs.List.{All, AllByRecursion, flat_map, range_with_len}
use Rattle.std.specs.Ordering.{int_eq}
use Rattle.std.proofs.lemmas.Bool.{false≢true}
use Rattle.std.proofs.lemmas.List.Elements.{All-nil, All-cons}
use Rattle.sx_base.specs.declared.layout.Layout.{Layout}
use Rattle.sx_base.specs.Held.{held_pages}
use Rattle.sx_base.specs.Bytes.{word_at}
use Rattle.sx_base.specs.declared.role.Role.{Role}
use Rattle.sx_base.specs.declared.role.Role.TheVariants.{Node, Overflow, Trunk, FreeLeaf, PointerMap}
use Rattle.sx_node.specs.declared.node.NodeFault.{NodeFault}
use Rattle.sx_node.specs.Nodes.{NodePage, node_of}
use Rattle.sx_node.specs.Targets.{targets_of as names_of}
use Rattle.sx_node.specs.declared.targets.NodeTarget.{NodeTarget}
use Rattle.sx_node.specs.declared.targets.NodeTarget.TheVariants.{Child, Overflow as OverflowTarget, Right}
use Rattle.sx_free.specs.declared.trunk.TrunkFault.{TrunkFault}
use Rattle.sx_free.specs.Trunks.{TrunkPage, next_trunk, leaf_count, leaf_at, trunk_of}
use Rattle.sx_closure.specs.declared.pair.Pair.{Pair}
use Rattle.sx_closure.specs.declared.pair.Source.TheVariants.{Root, Cell, Page as PageSource}
use Rattle.sx_closure.specs.declared.pair.Target.{Target}
use Rattle.sx_closure.specs.Chains.{page_of, is_role_overflow}
use Rattle.sx_follow.specs.Climbing.{source_page, IsSourced}
use Rattle.sx_refs.specs.Targets.{target, linked, from_node, leaves_targets, trunk_targets, if_node, if_trunk, in_role, targets_of}
use Rattle.sx_refs.specs.Pages.{root_page, root_targets, roots_targets, is_map_in, maps_targets, all_roots, if_held, graph_of}

-- what holds of each target that a page in a role names: it stands in that page, and where it is an overflow page and in no
-- cell, the page is one in that role itself
abbrev pub IsFrom : ℕ → Role → Target → Type 0
IsFrom page role one =
    (source_page one.source ≡ Some page) × ((before : ℕ) → page_of one.source ≡ Some before → is_role_overflow one.pair.role ≡ true → is_role_overflow role ≡ true)

abbrev pub AreFrom : ℕ → Role → List Target → Type 0
AreFrom page role targets = AllByRecursion (IsFrom page role) targets

from_append : (page : ℕ) (role : Role) (some others : List Target) → AreFrom page role some → AreFrom page role others → AreFrom page role (some ++ others)
from_append page role [] others first second = second
from_append page role (one ∷ some) others first second = (first.0, from_append page role some others first.1 second)

cond_from : (page : ℕ) (role : Role) (b : Bool) (one : Target) → IsFrom page role one → AreFrom page role (cond b [] (one ∷ []))
cond_from page role true one is = tt
cond_from page role false one is = (is, tt)

in_cell : (page cell before : ℕ) (role : Role) → page_of (Cell page cell) ≡ Some before → is_role_overflow role ≡ true
in_cell page cell before role is = let never : None ≡ Some before = is in cc

names_from : (page : ℕ) (names : List NodeTarget) → AreFrom page Node (map (from_node page) names)
names_from page [] = tt
names_from page (Child cell child ∷ names) = ((refl, λ before is over. in_cell page cell before Node is), names_from page names)
names_from page (OverflowTarget cell first rest ∷ names) = ((refl, λ before is over. in_cell page cell before Node is), names_from page names)
names_from page (Right child ∷ names) = ((refl, λ before is over. absurd (false≢true over)), names_from page names)

leaves_from : (page : ℕ) (trunk : TrunkPage) (xs : List ℕ) → AreFrom page Trunk (map (λ index. target (leaf_at trunk index) FreeLeaf (PageSource page) 0) xs)
leaves_from page trunk [] = tt
leaves_from page trunk (x ∷ xs) = ((refl, λ before is over. absurd (false≢true over)), leaves_from page trunk xs)

link_from : (page next : ℕ) → AreFrom page Trunk (linked next Trunk (PageSource page))
unfolding linked
link_from page next = cond_from page Trunk (next == 0) (target next Trunk (PageSource page) 0) (refl, λ before is over. absurd (false≢true over))

trunk_from : (page : ℕ) (trunk : TrunkPage) → AreFrom page Trunk (trunk_targets page trunk)
unfolding trunk_targets leaves_targets
trunk_from page trunk =
    from_append page Trunk (linked (next_trunk trunk) Trunk (PageSource page)) (map (λ index. target (leaf_at trunk index) FreeLeaf (PageSource page) 0) (range_with_len 0 (leaf_count trunk)))
    (link_from page (next_trunk trunk)) (leaves_from page trunk (range_with_len 0 (leaf_count trunk)))

chain_from : (page next : ℕ) → AreFrom page Overflow (linked next Overflow (PageSource page))
unfolding linked
chain_from page next = cond_from page Overflow (next == 0) (target next Overflow (PageSource page) 0) (refl, λ before is over. refl)

if_node_from : (page : ℕ) (read : Result NodePage NodeFault) → AreFrom page Node (if_node page read)
if_node_from page (Ok node) = names_from page (names_of node)
if_node_from page (Err fault) = tt

if_trunk_from : (page : ℕ) (read : Result TrunkPage TrunkFault) → AreFrom page Trunk (if_trunk page read)
if_trunk_from page (Ok trunk) = trunk_from page trunk
if_trunk_from page (Err fault) = tt

role_from : (bytes : List ℕ) (page usable : ℕ) (role : Role) → AreFrom page role (in_role bytes page usable role)
role_from bytes page usable Node = if_node_from page (node_of bytes page usable)
role_from bytes page usable Overflow = chain_from page (word_at bytes 0)
role_from bytes page usable Trunk = if_trunk_from page (trunk_of bytes usable)
role_from bytes page usable FreeLeaf = tt
role_from bytes page usable PointerMap = tt

pub held_from : (found : Option (List ℕ)) (pair : Pair) (usable : ℕ) → AreFrom pair.page pair.role (if_held found pair usable)
unfolding targets_of
held_from None pair usable = tt
held_from (Some bytes) pair usable = role_from bytes pair.page usable pair.role

each_from : (page : ℕ) (role : Role) (targets : List Target) → AreFrom page role targets → All (λ one. source_page one.source ≡ Some page) targets
each_from page role [] are = All-nil (λ one. source_page one.source ≡ Some page)
each_from page role (one ∷ targets) are = All-cons (λ t. source_page t.source ≡ Some page) one targets are.0.0 (each_from page role targets are.1)

-- ---- roots

abbrev pub AreRoots : List Target → Type 0
AreRoots targets = AllByRecursion (λ one. source_page one.source ≡ None) targets

roots_append : (some others : List Target) → AreRoots some → AreRoots others → AreRoots (some ++ others)
roots_append [] others first second = second
roots_append (one ∷ some) others first second = (first.0, roots_append some others first.1 second)

cond_root : (b : Bool) (page : ℕ) (role : Role) → AreRoots (cond b [] (target page role Root 0 ∷ []))
cond_root true page role = tt
cond_root false page role = (refl, tt)

linked_roots : (page : ℕ) (role : Role) → AreRoots (linked page role Root)
unfolding linked
linked_roots page role = cond_root (page == 0) page role

schema_roots : (roots : List ℤ) → AreRoots (roots_targets roots)
unfolding roots_targets root_targets
schema_roots [] = tt
schema_roots (root ∷ roots) =
    roots_append (root_targets root) (flat_map root_targets roots) (cond_root (int_eq root (pos 0)) (root_page root) Node) (schema_roots roots)

maps_roots : (held : List ℕ) → AreRoots (map (λ page. target page PointerMap Root 0) held)
maps_roots [] = tt
maps_roots (page ∷ held) = (refl, maps_roots held)

pub all_roots_are : (held : List ℕ) (layout : Layout) (roots : List ℤ) → AreRoots (all_roots held layout roots)
unfolding all_roots maps_targets
all_roots_are held layout roots =
    let maps = map (λ page. target page PointerMap Root 0) (filter (is_map_in layout) held) in (
      refl,
      roots_append (linked layout.free_head Trunk Root) (roots_targets roots ++ maps) (linked_roots layout.free_head Trunk)
          (roots_append (roots_targets roots) maps (schema_roots roots) (maps_roots (filter (is_map_in layout) held))),
    )

root_each : (targets : List Target) → AreRoots targets → All (λ one. source_page one.source ≡ None) targets
root_each [] are = All-nil (λ one. source_page one.source ≡ None)
root_each (one ∷ targets) are = All-cons (λ t. source_page t.source ≡ None) one targets are.0 (root_each targets are.1)

pub is_sourced : (size : ℕ) (view : ℕ → Option (List ℕ)) (layout : Layout) (roots : List ℤ) → IsSourced (graph_of size view layout roots)
unfolding graph_of
is_sourced size view layout roots = record {
  roots = root_each (all_roots (held_pages size view) layout roots) (all_roots_are (held_pages size view) layout roots);
  pairs = λ pair. each_from pair.page pair.role (if_held (view pair.page) pair layout.usable) (held_from (view pair.page) pair layout.usable);
}
