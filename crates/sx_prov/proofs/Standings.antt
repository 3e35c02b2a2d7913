-- The labels of a key are those of the page whose key it is.
use Rattle.std.proofs.Common.{◌≡◌, ◌≢◌, ℕ, suc, ◌+◌, ◌-◌, ◌==◌, Bool, true, false, cond, nat_le, nat_lt, min, List, [], ◌∷◌, length, map, Option, Some, None, Ok, Err, refl, sym, ap, subst, ◌∙◌, arith}
use Rattle.std.specs.Prelude.{filter}
use Rattle.std.specs.List.{range_with_len}
use Rattle.std.proofs.lemmas.Bool.{false≢true, eqb-true}
use Rattle.std.proofs.lemmas.List.FromFn.{length-map-range_with_len, get_or-map-range_with_len, fill_by_all}
use Rattle.sx_base.specs.Maps.{lock_page_of}
use Rattle.sx_base.specs.declared.layout.Layout.{Layout}
use Rattle.sx_base.specs.declared.role.Role.{Role}
use Rattle.sx_base.specs.declared.role.Role.TheVariants.{Node as NodeRole, Overflow, Trunk as TrunkRole, FreeLeaf as FreeLeafRole, PointerMap}
use Rattle.sx_base.specs.declared.label.Label.{Label}
use Rattle.sx_base.specs.declared.label.Label.TheVariants.{Reserved, Gap, Fragment, LockPage, Absent, LongChain as LongChainLabel}
use Rattle.sx_base.specs.Bytes.{byte_at}
use Rattle.sx_cell.specs.declared.cell.Kind.{Kind}
use Rattle.sx_node.specs.declared.node.NodeFault.TheVariants.{BadArray}
use Rattle.sx_node.specs.Nodes.{NodePage, header_at, first_freeblock, cell_count, content_start, pointer_at, array_end, with_array, of_kind, kind_of, node_of}
use Rattle.sx_node.specs.Claims.{Claim, cell_claims_from, claims_of}
use Rattle.sx_closure.specs.declared.pair.Target.{Target}
use Rattle.sx_closure.specs.Graph.{Graph, references_to, only}
use Rattle.sx_closure.specs.Chains.{is_overflow, is_role_overflow}
use Rattle.sx_closure.specs.Tallying.{Table, count_at, one_at, left_at, IsTableOf}
use Rattle.sx_refs.specs.Pages.{graph_of}
use Rattle.sx_seglist.specs.Claims.{holds}
use Rattle.sx_prov.specs.declared.key.Standing.{Standing}
use Rattle.sx_prov.specs.declared.key.Standing.TheVariants.{Unreached, DoubleClaim, LongChain, Body, FirstNode, Node}
use Rattle.sx_prov.specs.Places.{left_in}
use Rattle.sx_prov.specs.Labels.{node_label, claimed_label, if_node, overflow_label, role_label, reference_label, view_label, label_of, labels_of, body_label}
use Rattle.sx_prov.specs.Keys.{standing_label, key_label, keyed_labels, overflow_standing, role_standing, standing_by, key_of, IsKeyOf, AreLabels, viewed_labels, table_labels}
use Rattle.sx_prov.proofs.Chains.{left_same}

-- ---- a b-tree page but page 1, whatever its number

not_first : (page : ℕ) → (page == 1) ≡ false → header_at page ≡ header_at 2
unfolding header_at
not_first page other = ap (λ b. cond b 100 0) other

same_claims : (bytes : List ℕ) (page usable : ℕ) (kind : Kind) → (page == 1) ≡ false → header_at page ≡ header_at 2
    → claims_of (record { page = bytes; number = page; usable = usable; kind = kind }) ≡ claims_of (record { page = bytes; number = 2; usable = usable; kind = kind })
unfolding cell_claims_from first_freeblock cell_count pointer_at
same_claims bytes page usable kind other header = rw (header, other) refl

same_content : (bytes : List ℕ) (page usable : ℕ) (kind : Kind) → header_at page ≡ header_at 2
    → content_start (record { page = bytes; number = page; usable = usable; kind = kind }) ≡ content_start (record { page = bytes; number = 2; usable = usable; kind = kind })
unfolding content_start
same_content bytes page usable kind header = rw header refl

claimed_case : (node two : NodePage) (at : ℕ) (claims : List Claim) → content_start node ≡ content_start two → claimed_label node at claims ≡ claimed_label two at claims
claimed_case node two at [] same = ap (λ content. cond (nat_lt at content) Gap Fragment) same
claimed_case node two at (claim ∷ []) same = refl
claimed_case node two at (claim ∷ other ∷ claims) same = refl

same_label : (bytes : List ℕ) (page usable at : ℕ) (kind : Kind) → (page == 1) ≡ false → header_at page ≡ header_at 2
    → node_label (record { page = bytes; number = page; usable = usable; kind = kind }) at ≡ node_label (record { page = bytes; number = 2; usable = usable; kind = kind }) at
unfolding node_label
same_label bytes page usable at kind other header =
    let node : NodePage = record { page = bytes; number = page; usable = usable; kind = kind } in
    let two : NodePage = record { page = bytes; number = 2; usable = usable; kind = kind } in
    ap (λ claims. claimed_label node at (filter (holds at) claims)) (same_claims bytes page usable kind other header)
    ∙ claimed_case node two at (filter (holds at) (claims_of two)) (same_content bytes page usable kind header)

array_case : (node two : NodePage) (at : ℕ) (b c : Bool) → b ≡ c → node_label node at ≡ node_label two at
    → if_node (cond b (Err BadArray) (Ok node)) at ≡ if_node (cond c (Err BadArray) (Ok two)) at
array_case node two at true true same label = refl
array_case node two at true false same label = absurd (false≢true (sym same))
array_case node two at false true same label = absurd (false≢true same)
array_case node two at false false same label = label

same_array : (bytes : List ℕ) (page usable : ℕ) (kind : Kind) → header_at page ≡ header_at 2
    → array_end (record { page = bytes; number = page; usable = usable; kind = kind }) ≡ array_end (record { page = bytes; number = 2; usable = usable; kind = kind })
unfolding cell_count
same_array bytes page usable kind header = rw header refl

same_kind : (bytes : List ℕ) (page usable at : ℕ) (kind : Option Kind) → (page == 1) ≡ false → header_at page ≡ header_at 2
    → if_node (of_kind bytes page usable kind) at ≡ if_node (of_kind bytes 2 usable kind) at
unfolding with_array
same_kind bytes page usable at None other header = refl
same_kind bytes page usable at (Some kind) other header =
    array_case (record { page = bytes; number = page; usable = usable; kind = kind }) (record { page = bytes; number = 2; usable = usable; kind = kind }) at
    (nat_lt usable (array_end (record { page = bytes; number = page; usable = usable; kind = kind })))
    (nat_lt usable (array_end (record { page = bytes; number = 2; usable = usable; kind = kind })))
    (ap (nat_lt usable) (same_array bytes page usable kind header))
    (same_label bytes page usable at kind other header)

same_node : (bytes : List ℕ) (page usable at : ℕ) → (page == 1) ≡ false → if_node (node_of bytes page usable) at ≡ if_node (node_of bytes 2 usable) at
unfolding node_of
same_node bytes page usable at other =
    let header = not_first page other in
    same_kind bytes page usable at (kind_of (byte_at bytes (header_at page))) other header
    ∙ ap (λ place. if_node (of_kind bytes 2 usable (kind_of (byte_at bytes place))) at) header

-- ---- by role

node_case : (bytes : List ℕ) (page usable at : ℕ) (b : Bool) → (page == 1) ≡ b
    → if_node (node_of bytes page usable) at ≡ standing_label (cond b FirstNode Node) bytes usable at
unfolding standing_label
node_case bytes page usable at true is = ap (λ number. if_node (node_of bytes number usable) at) (eqb-true page 1 is)
node_case bytes page usable at false is = same_node bytes page usable at is

left_by : (bytes : List ℕ) (usable left at : ℕ) (b : Bool)
    → cond b LongChainLabel (body_label (min (usable - 4) left) at) ≡ standing_label (cond b LongChain (Body (min (usable - 4) left))) bytes usable at
unfolding standing_label
left_by bytes usable left at true = refl
left_by bytes usable left at false = refl

overflow_case : (bytes : List ℕ) (usable at : ℕ) (left : Option ℕ) → overflow_label usable left at ≡ standing_label (overflow_standing usable left) bytes usable at
unfolding standing_label
overflow_case bytes usable at None = refl
overflow_case bytes usable at (Some left) = left_by bytes usable left at (left == 0)

role_case : (bytes : List ℕ) (page usable at : ℕ) (left told : Option ℕ) (role : Role) → (is_role_overflow role ≡ true → told ≡ left)
    → role_label bytes page usable left role at ≡ standing_label (role_standing usable page told role) bytes usable at
unfolding standing_label
role_case bytes page usable at left told NodeRole same = node_case bytes page usable at (page == 1) refl
role_case bytes page usable at left told Overflow same =
    overflow_case bytes usable at left ∙ ap (λ l. standing_label (overflow_standing usable l) bytes usable at) (sym (same refl))
role_case bytes page usable at left told TrunkRole same = refl
role_case bytes page usable at left told FreeLeafRole same = refl
role_case bytes page usable at left told PointerMap same = refl

not_zero : (n : ℕ) (b : Bool) → (suc (suc n) == 0) ≡ b → (suc (suc n) == 0) ≡ false
not_zero n true is = absurd (let none = eqb-true (suc (suc n)) 0 is in omega arith)
not_zero n false is = is

some_more : (n : ℕ) → (suc (suc n) == 0) ≡ false
some_more n = not_zero n (suc (suc n) == 0) refl

references_case : (bytes : List ℕ) (page usable at : ℕ) (left told : Option ℕ) (targets : List Target) → (is_overflow (only targets) ≡ true → told ≡ left)
    → reference_label bytes page usable left targets at ≡ standing_label (standing_by usable page (length targets) told (only targets)) bytes usable at
unfolding standing_label
references_case bytes page usable at left told [] same = refl
references_case bytes page usable at left told (target ∷ []) same = role_case bytes page usable at left told target.pair.role same
references_case bytes page usable at left told (target ∷ other ∷ targets) same =
    ap (λ b. standing_label (cond b Unreached DoubleClaim) bytes usable at) (sym (some_more (length targets)))

table_case : (bytes : List ℕ) (page usable at count : ℕ) (left told : Option ℕ) (one : Option Target) (targets : List Target) → count ≡ length targets → one ≡ only targets
    → (is_overflow (only targets) ≡ true → told ≡ left)
    → reference_label bytes page usable left targets at ≡ standing_label (standing_by usable page count told one) bytes usable at
table_case bytes page usable at count left told one targets long is same =
    references_case bytes page usable at left told targets same
    ∙ ap (λ n. standing_label (standing_by usable page n told (only targets)) bytes usable at) (sym long)
    ∙ ap (λ o. standing_label (standing_by usable page count told o) bytes usable at) (sym is)

-- ---- a page with a view

pub view_is : (graph : Graph) (usable page at : ℕ) (bytes : List ℕ) (table : Table) → IsTableOf graph (usable - 4) table
    → view_label graph usable page (Some bytes) at ≡ key_label (key_of table usable page) bytes at
unfolding key_label key_of
view_is graph usable page at bytes table is =
    ap (λ label. cond (nat_le usable at) Reserved label)
    (table_case bytes page usable at (count_at table page) (left_in graph (usable - 4) page) (left_at table page) (one_at table page) (references_to graph page)
    (is.counts page) (is.ones page) (λ role. left_same graph (usable - 4) page (left_at table page) role (is.lefts page)))

not_lock : (page lock : ℕ) → page ≢ lock → (b : Bool) → (page == lock) ≡ b → (page == lock) ≡ false
not_lock page lock other true is = absurd (other (eqb-true page lock is))
not_lock page lock other false is = is

pub key_is : (pages : ℕ) (view : ℕ → Option (List ℕ)) (layout : Layout) (table : Table) (page : ℕ) → IsKeyOf pages view layout table page (key_of table layout.usable page)
unfolding label_of
key_is pages view layout table page roots bytes at is other held =
    let graph = graph_of pages view layout roots in
    let lock = lock_page_of layout.page_size in
    ap (λ b. cond b LockPage (view_label graph layout.usable page (view page) at)) (not_lock page lock other (page == lock) refl)
    ∙ ap (λ v. view_label graph layout.usable page v at) held
    ∙ view_is graph layout.usable page at bytes table is

pub key_by : (pages : ℕ) (view : ℕ → Option (List ℕ)) (layout : Layout) (table : Table) (page : ℕ) (standing : Standing)
    → standing ≡ standing_by layout.usable page (count_at table page) (left_at table page) (one_at table page)
    → IsKeyOf pages view layout table page (record { usable = layout.usable; standing = standing })
unfolding key_of
key_by pages view layout table page standing is =
    subst (λ s. IsKeyOf pages view layout table page (record { usable = layout.usable; standing = s })) (sym is) (key_is pages view layout table page)

-- ---- any page

same_all : (one other : ℕ → Label) (len : ℕ) → ((at : ℕ) → one at ≡ other at) → map one (range_with_len 0 len) ≡ map other (range_with_len 0 len)
same_all one other len same =
    fill_by_all other (map one (range_with_len 0 len)) len Absent (length-map-range_with_len one 0 len)
    (λ at within. get_or-map-range_with_len one 0 len at at Absent within (let place : 0 + at ≡ at = omega arith in place) ∙ same at)

viewed_case : (graph : Graph) (table : Table) (page_size usable page : ℕ) (held : Option (List ℕ)) → IsTableOf graph (usable - 4) table
    → ((bytes : List ℕ) → held ≡ Some bytes → length bytes ≡ page_size)
    → viewed_labels table page_size usable page held ≡ map (view_label graph usable page held) (range_with_len 0 page_size)
unfolding keyed_labels
viewed_case graph table page_size usable page None is whole = same_all (λ at. Absent) (view_label graph usable page None) page_size (λ at. refl)
viewed_case graph table page_size usable page (Some bytes) is whole =
    same_all (key_label (key_of table usable page) bytes) (view_label graph usable page (Some bytes)) (length bytes) (λ at. sym (view_is graph usable page at bytes table is))
    ∙ ap (λ len. map (view_label graph usable page (Some bytes)) (range_with_len 0 len)) (whole bytes refl)

lock_case : (graph : Graph) (layout : Layout) (view : ℕ → Option (List ℕ)) (table : Table) (page : ℕ) (b : Bool) → IsTableOf graph (layout.usable - 4) table
    → ((bytes : List ℕ) → view page ≡ Some bytes → length bytes ≡ layout.page_size)
    → cond b (map (λ at. LockPage) (range_with_len 0 layout.page_size)) (viewed_labels table layout.page_size layout.usable page (view page))
    ≡ map (λ at. cond b LockPage (view_label graph layout.usable page (view page) at)) (range_with_len 0 layout.page_size)
lock_case graph layout view table page true is whole = refl
lock_case graph layout view table page false is whole = viewed_case graph table layout.page_size layout.usable page (view page) is whole

pub labels_are : (pages : ℕ) (view : ℕ → Option (List ℕ)) (layout : Layout) (table : Table) (page : ℕ) (made : List Label)
    → ((bytes : List ℕ) → view page ≡ Some bytes → length bytes ≡ layout.page_size)
    → made ≡ table_labels table layout view page → AreLabels pages view layout table page made
unfolding table_labels labels_of label_of
labels_are pages view layout table page made whole exact roots is =
    exact
    ∙ lock_case (graph_of pages view layout roots) layout view table page (page == lock_page_of layout.page_size) is whole
