-- What holds of the graph of the pages of a moment.
use Rattle.std.proofs.Common.{◌≡◌, ℕ, ◌+◌, ◌-◌, ◌*◌, ◌/◌, ◌^◌, ◌<◌, ◌≤◌, ◌==◌, ◌||◌, nat_lt, Bool, true, false, cond, ℤ, pos, List, [], ◌∷◌, ◌++◌, map, filter, length, length-append, get_or, Option, Some, None, Result, Ok, Err, is_some, refl, arith}
use Rattle.std.specs.List.{All, AllByRecursion, flat_map, range_with_len}
use Rattle.std.specs.Ordering.{int_eq}
use Rattle.std.proofs.lemmas.Bool.{ltb-false, eq-eqb, false≢true}
use Rattle.std.proofs.lemmas.List.Sums.{length-filter, count_by-le-length}
use Rattle.std.proofs.lemmas.List.{length-map}
use Rattle.std.proofs.lemmas.List.Elements.{All-nil, All-cons}
use Rattle.std.proofs.lemmas.List.FromFn.{length-range_with_len, get_or-range_with_len}
use Rattle.std.proofs.lemmas.List.Kept.{AllPairs-filter, AllPairs-from_increasing}
use Rattle.sx_base.specs.declared.layout.Layout.{Layout}
use Rattle.sx_base.specs.Held.{held_pages}
use Rattle.sx_node.specs.declared.node.NodeFault.{NodeFault}
use Rattle.sx_node.specs.Nodes.{NodePage, array_end, cell_count, header_at, kind_of, of_kind, with_array, node_of}
use Rattle.sx_node.specs.Targets.{targets_of as names_of}
use Rattle.sx_node.specs.declared.targets.NodeTarget.{NodeTarget}
use Rattle.sx_node.specs.declared.targets.NodeTarget.TheVariants.{Child, Overflow as OverflowTarget, Right}
use Rattle.sx_node.proofs.TargetLemmas.{few_names}
use Rattle.sx_cell.specs.declared.cell.Kind.{Kind}
use Rattle.sx_base.specs.Bytes.{byte_at, word_at}
use Rattle.sx_free.specs.declared.trunk.TrunkFault.{TrunkFault}
use Rattle.sx_free.specs.Trunks.{TrunkPage, next_trunk, leaf_count, leaf_at, trunk_of}
use Rattle.sx_base.specs.declared.role.Role.{Role}
use Rattle.sx_base.specs.declared.role.Role.TheVariants.{Node, Overflow, Trunk, FreeLeaf, PointerMap}
use Rattle.sx_closure.specs.declared.pair.Pair.{Pair}
use Rattle.sx_closure.specs.declared.pair.Source.{Source}
use Rattle.sx_closure.specs.declared.pair.Source.TheVariants.{Root, Page as PageSource}
use Rattle.sx_closure.specs.declared.pair.Target.{Target}
use Rattle.sx_closure.specs.Graph.{role_number, same_pair, is_named, comes_from, comes_from_no_page, Rises, IsGraph}
use Rattle.sx_closure.proofs.Pairs.{same_is}
use Rattle.sx_refs.specs.Targets.{target, linked, from_node, node_targets, leaves_targets, trunk_targets, if_node, if_trunk, in_role, targets_of}
use Rattle.sx_refs.specs.Pages.{root_page, root_targets, roots_targets, is_map_in, maps_targets, all_roots, if_held, graph_of}

-- ---- the held pages rise

range_up : (first n : ℕ) (k : ℕ) → k + 1 < length (range_with_len first n) → get_or (range_with_len first n) k 0 < get_or (range_with_len first n) (k + 1) 0
range_up first n k below =
    let long = length-range_with_len first n in
    let one = get_or-range_with_len first n k 0 (omega (arith, long, below)) in
    let two = get_or-range_with_len first n (k + 1) 0 (omega (arith, long, below)) in
    omega (arith, one, two)

pub held_rise : (size : ℕ) (view : ℕ → Option (List ℕ)) → Rises (held_pages size view)
unfolding held_pages
held_rise size view =
    let pairs = AllPairs-filter (λ x y. x < y) (λ number. is_some (view number)) (range_with_len 1 size) (AllPairs-from_increasing (range_with_len 1 size) (range_up 1 size)) in
    λ i j less below. pairs i j 0 less below

-- ---- what a page names is no pointer map, and comes from that page

-- what holds of each target that a page names
abbrev IsNamed : ℕ → Target → Type 0
IsNamed page one = (role_number one.pair.role < 4) × (comes_from page one.source ≡ true)

abbrev AreNamed : ℕ → List Target → Type 0
AreNamed page targets = AllByRecursion (IsNamed page) targets

named_append : (page : ℕ) (some others : List Target) → AreNamed page some → AreNamed page others → AreNamed page (some ++ others)
named_append page [] others first second = second
named_append page (one ∷ some) others first second = (first.0, named_append page some others first.1 second)

cond_named : (page : ℕ) (b : Bool) (one : Target) → IsNamed page one → AreNamed page (cond b [] (one ∷ []))
cond_named page true one is = tt
cond_named page false one is = (is, tt)

linked_named : (page link : ℕ) (role : Role) → role_number role < 4 → AreNamed page (linked link role (PageSource page))
unfolding linked
linked_named page link role low = cond_named page (link == 0) (target link role (PageSource page) 0) (low, eq-eqb page page refl)

names_named : (page : ℕ) (names : List NodeTarget) → AreNamed page (map (from_node page) names)
names_named page [] = tt
names_named page (Child cell child ∷ names) = ((omega arith, refl), names_named page names)
names_named page (OverflowTarget cell first rest ∷ names) = ((omega arith, refl), names_named page names)
names_named page (Right child ∷ names) = ((omega arith, eq-eqb page page refl), names_named page names)

leaves_named : (page : ℕ) (trunk : TrunkPage) (xs : List ℕ) → AreNamed page (map (λ index. target (leaf_at trunk index) FreeLeaf (PageSource page) 0) xs)
leaves_named page trunk [] = tt
leaves_named page trunk (x ∷ xs) = ((omega arith, eq-eqb page page refl), leaves_named page trunk xs)

trunk_named : (page : ℕ) (trunk : TrunkPage) → AreNamed page (trunk_targets page trunk)
unfolding trunk_targets leaves_targets
trunk_named page trunk =
    named_append page (linked (next_trunk trunk) Trunk (PageSource page)) (map (λ index. target (leaf_at trunk index) FreeLeaf (PageSource page) 0) (range_with_len 0 (leaf_count trunk)))
    (linked_named page (next_trunk trunk) Trunk (omega arith)) (leaves_named page trunk (range_with_len 0 (leaf_count trunk)))

if_node_named : (page : ℕ) (read : Result NodePage NodeFault) → AreNamed page (if_node page read)
if_node_named page (Ok node) = names_named page (names_of node)
if_node_named page (Err fault) = tt

if_trunk_named : (page : ℕ) (read : Result TrunkPage TrunkFault) → AreNamed page (if_trunk page read)
if_trunk_named page (Ok trunk) = trunk_named page trunk
if_trunk_named page (Err fault) = tt

role_named : (bytes : List ℕ) (page usable : ℕ) (role : Role) → AreNamed page (in_role bytes page usable role)
role_named bytes page usable Node = if_node_named page (node_of bytes page usable)
role_named bytes page usable Overflow = linked_named page (word_at bytes 0) Overflow (omega arith)
role_named bytes page usable Trunk = if_trunk_named page (trunk_of bytes usable)
role_named bytes page usable FreeLeaf = tt
role_named bytes page usable PointerMap = tt

held_named : (found : Option (List ℕ)) (pair : Pair) (usable : ℕ) → AreNamed pair.page (if_held found pair usable)
unfolding targets_of
held_named None pair usable = tt
held_named (Some bytes) pair usable = role_named bytes pair.page usable pair.role

low_case : (pair : Pair) (one : Target) (b : Bool) → same_pair pair one.pair ≡ b → role_number one.pair.role < 4 → (others : Bool) → (others ≡ true → role_number pair.role < 4)
    → (same_pair pair one.pair || others) ≡ true → role_number pair.role < 4
low_case pair one true is low others more named = let it : pair ≡ one.pair = same_is pair one.pair is in rw it low
low_case pair one false is low others more named = more (rw is at named)

low_role : (page : ℕ) (targets : List Target) (pair : Pair) → AreNamed page targets → is_named targets pair ≡ true → role_number pair.role < 4
low_role page [] pair are named = absurd (false≢true named)
low_role page (one ∷ targets) pair are named =
    low_case pair one (same_pair pair one.pair) refl are.0.0 (is_named targets pair) (low_role page targets pair are.1) named

from_each : (page : ℕ) (targets : List Target) → AreNamed page targets → All (λ one. comes_from page one.source ≡ true) targets
from_each page [] are = All-nil (λ one. comes_from page one.source ≡ true)
from_each page (one ∷ targets) are = All-cons (λ t. comes_from page t.source ≡ true) one targets are.0.1 (from_each page targets are.1)

-- ---- no page names more than it has bytes

few_cond : (b : Bool) (one : Target) → length (cond b [] (one ∷ [])) ≤ 1
few_cond true one = omega arith
few_cond false one = omega arith

few_linked : (page : ℕ) (role : Role) (source : Source) → length (linked page role source) ≤ 1
unfolding linked
few_linked page role source = few_cond (page == 0) (target page role source 0)

few_node : (page : ℕ) (node : NodePage) → length (node_targets page node) ≤ 2 * cell_count node + 1
few_node page node = omega (arith, length-map (names_of node) (from_node page), few_names node)

few_trunk : (page : ℕ) (trunk : TrunkPage) → length (trunk_targets page trunk) ≤ leaf_count trunk + 1
unfolding trunk_targets leaves_targets
few_trunk page trunk =
    let leaf : ℕ → Target = λ index. target (leaf_at trunk index) FreeLeaf (PageSource page) 0 in
    let link = few_linked (next_trunk trunk) Trunk (PageSource page) in
    omega (
      arith,
      link,
      length-range_with_len 0 (leaf_count trunk),
      length-map (range_with_len 0 (leaf_count trunk)) leaf,
      length-append (linked (next_trunk trunk) Trunk (PageSource page)) (map leaf (range_with_len 0 (leaf_count trunk))),
    )

-- a page that was read has no more cells than its usable bytes hold
array_case : (page : ℕ) (node : NodePage) (usable : ℕ) (b : Bool) → nat_lt usable (array_end node) ≡ b → usable ≤ 65536 → node.usable ≡ usable
    → length (if_node page (with_array node)) ≤ 2 ^ 17
unfolding with_array cell_count
array_case page node usable true past small same = let there : nat_lt node.usable (array_end node) ≡ true = rw same past in rw there (omega arith)
array_case page node usable false past small same =
    let fits : array_end node ≤ usable = ltb-false usable (array_end node) past in
    let there : nat_lt node.usable (array_end node) ≡ false = rw same past in
    let many = few_node page node in
    rw there (omega (arith, fits, many, small))

kind_case : (bytes : List ℕ) (page usable : ℕ) (kind : Option Kind) → usable ≤ 65536 → length (if_node page (of_kind bytes page usable kind)) ≤ 2 ^ 17
kind_case bytes page usable None small = omega arith
kind_case bytes page usable (Some kind) small =
    let node : NodePage = record { page = bytes; number = page; usable = usable; kind = kind } in
    array_case page node usable (nat_lt usable (array_end node)) refl small refl

few_in_node : (bytes : List ℕ) (page usable : ℕ) → usable ≤ 65536 → length (if_node page (node_of bytes page usable)) ≤ 2 ^ 17
unfolding node_of
few_in_node bytes page usable small = kind_case bytes page usable (kind_of (byte_at bytes (header_at page))) small

trunk_case : (page : ℕ) (trunk : TrunkPage) (most : ℕ) (b : Bool) (fault : TrunkFault) → nat_lt most (leaf_count trunk) ≡ b → most ≤ 65536
    → length (if_trunk page (cond b (Err fault) (Ok trunk))) ≤ 2 ^ 17
trunk_case page trunk most true fault past small = omega arith
trunk_case page trunk most false fault past small =
    let fits : leaf_count trunk ≤ most = ltb-false most (leaf_count trunk) past in
    let many = few_trunk page trunk in
    omega (arith, fits, many, small)

few_in_trunk : (bytes : List ℕ) (page usable : ℕ) → usable ≤ 65536 → length (if_trunk page (trunk_of bytes usable)) ≤ 2 ^ 17
unfolding trunk_of
few_in_trunk bytes page usable small =
    let trunk : TrunkPage = record { page = bytes; usable = usable } in
    trunk_case page trunk (usable / 4 - 2) (nat_lt (usable / 4 - 2) (leaf_count trunk)) _ refl (omega arith)

few_role : (bytes : List ℕ) (page usable : ℕ) (role : Role) → usable ≤ 65536 → length (in_role bytes page usable role) ≤ 2 ^ 17
few_role bytes page usable Node small = few_in_node bytes page usable small
few_role bytes page usable Overflow small = let one = few_linked (word_at bytes 0) Overflow (PageSource page) in omega (arith, one)
few_role bytes page usable Trunk small = few_in_trunk bytes page usable small
few_role bytes page usable FreeLeaf small = omega arith
few_role bytes page usable PointerMap small = omega arith

few_held : (found : Option (List ℕ)) (pair : Pair) (usable : ℕ) → usable ≤ 65536 → length (if_held found pair usable) ≤ 2 ^ 17
unfolding targets_of
few_held None pair usable small = omega arith
few_held (Some bytes) pair usable small = few_role bytes pair.page usable pair.role small

-- ---- the roots

few_roots : (roots : List ℤ) → length (roots_targets roots) ≤ length roots
unfolding roots_targets root_targets
few_roots [] = omega arith
few_roots (root ∷ roots) =
    let one = few_cond (int_eq root (pos 0)) (target (root_page root) Node Root 0) in
    let more = few_roots roots in
    simp length-append (omega (arith, one, more))

filter_few : (test : ℕ → Bool) (xs : List ℕ) → length (filter test xs) ≤ length xs
filter_few test xs = omega (arith, length-filter test xs, count_by-le-length test xs)

few_maps : (layout : Layout) (held : List ℕ) → length (maps_targets layout held) ≤ length held
unfolding maps_targets
few_maps layout held =
    let kept = filter_few (is_map_in layout) held in
    omega (arith, kept, length-map (filter (is_map_in layout) held) (λ page. target page PointerMap Root 0))

few_all : (held : List ℕ) (layout : Layout) (roots : List ℤ) → length (all_roots held layout roots) ≤ length roots + length held + 2
unfolding all_roots
few_all held layout roots =
    let link = few_linked layout.free_head Trunk Root in
    let schema = few_roots roots in
    let maps = few_maps layout held in
    simp length-append (omega (arith, link, schema, maps))

-- roots come from no page
abbrev AreRoots : List Target → Type 0
AreRoots targets = AllByRecursion (λ one. comes_from_no_page one.source ≡ true) targets

roots_append : (some others : List Target) → AreRoots some → AreRoots others → AreRoots (some ++ others)
roots_append [] others first second = second
roots_append (one ∷ some) others first second = (first.0, roots_append some others first.1 second)

cond_root : (b : Bool) (page : ℕ) (role : Role) → AreRoots (cond b [] (target page role Root 0 ∷ []))
cond_root true page role = tt
cond_root false page role = (refl, tt)

linked_roots : (page : ℕ) (role : Role) → AreRoots (linked page role Root)
unfolding linked
linked_roots page role = cond_root (page == 0) page role

schema_roots : (roots : List ℤ) → AreRoots (roots_targets roots)
unfolding roots_targets root_targets
schema_roots [] = tt
schema_roots (root ∷ roots) =
    roots_append (root_targets root) (flat_map root_targets roots) (cond_root (int_eq root (pos 0)) (root_page root) Node) (schema_roots roots)

maps_roots : (held : List ℕ) → AreRoots (map (λ page. target page PointerMap Root 0) held)
maps_roots [] = tt
maps_roots (page ∷ held) = (refl, maps_roots held)

all_roots_are : (held : List ℕ) (layout : Layout) (roots : List ℤ) → AreRoots (all_roots held layout roots)
unfolding all_roots maps_targets
all_roots_are held layout roots =
    let maps = map (λ page. target page PointerMap Root 0) (filter (is_map_in layout) held) in (
      refl,
      roots_append (linked layout.free_head Trunk Root) (roots_targets roots ++ maps) (linked_roots layout.free_head Trunk)
          (roots_append (roots_targets roots) maps (schema_roots roots) (maps_roots (filter (is_map_in layout) held))),
    )

root_each : (targets : List Target) → AreRoots targets → All (λ one. comes_from_no_page one.source ≡ true) targets
root_each [] are = All-nil (λ one. comes_from_no_page one.source ≡ true)
root_each (one ∷ targets) are = All-cons (λ t. comes_from_no_page t.source ≡ true) one targets are.0 (root_each targets are.1)

-- ---- the graph

-- usable bytes within a page are few
pub within_small : (usable page_size : ℕ) → usable ≤ page_size → page_size ≤ 65536 → usable ≤ 65536
within_small usable page_size within small = omega arith

pub graph_held : (size : ℕ) (view : ℕ → Option (List ℕ)) (layout : Layout) (roots : List ℤ) → (graph_of size view layout roots).held ≡ held_pages size view
unfolding graph_of
graph_held size view layout roots = refl

pub graph_roots : (size : ℕ) (view : ℕ → Option (List ℕ)) (layout : Layout) (roots : List ℤ)
    → (graph_of size view layout roots).roots ≡ all_roots (held_pages size view) layout roots
unfolding graph_of
graph_roots size view layout roots = refl

pub is_graph : (size : ℕ) (view : ℕ → Option (List ℕ)) (layout : Layout) (roots : List ℤ) → length (held_pages size view) < 2 ^ 32 → length roots < 2 ^ 61
    → layout.usable ≤ 65536 → IsGraph (graph_of size view layout roots)
unfolding graph_of
is_graph size view layout roots few short small = record {
  rising = held_rise size view;
  few = few;
  no_maps = λ pair t named. low_role pair.page (if_held (view pair.page) pair layout.usable) t.pair (held_named (view pair.page) pair layout.usable) named;
  some = λ pair. few_held (view pair.page) pair layout.usable small;
  few_roots = let many = few_all (held_pages size view) layout roots in omega (arith, many, few, short);
  sources = λ pair. from_each pair.page (if_held (view pair.page) pair layout.usable) (held_named (view pair.page) pair layout.usable);
  root_sources = root_each (all_roots (held_pages size view) layout roots) (all_roots_are (held_pages size view) layout roots);
}
