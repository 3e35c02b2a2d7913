-- The freeblocks that a key gives are those of the page whose key it is.
use Rattle.std.proofs.Common.{◌≡◌, ℕ, ◌+◌, ◌-◌, ◌==◌, Bool, true, false, cond, nat_lt, min, List, Option, Some, None, Ok, Err, refl, sym, ap, ◌∙◌}
use Rattle.std.proofs.lemmas.Bool.{false≢true, eqb-true}
use Rattle.sx_base.specs.Bytes.{byte_at, two_bytes_at}
use Rattle.sx_base.specs.declared.role.Role.{Role}
use Rattle.sx_base.specs.declared.role.Role.TheVariants.{Node as NodeRole, Overflow, Trunk as TrunkRole, FreeLeaf as FreeLeafRole, PointerMap}
use Rattle.sx_cell.specs.declared.cell.Kind.{Kind}
use Rattle.sx_node.specs.declared.node.NodeFault.TheVariants.{BadArray}
use Rattle.sx_node.specs.Nodes.{NodePage, header_at, first_freeblock, cell_count, array_end, with_array, of_kind, kind_of, node_of}
use Rattle.sx_node.specs.Freeblocks.{blocks_from, freeblocks_of}
use Rattle.sx_closure.specs.declared.pair.Target.{Target}
use Rattle.sx_closure.specs.Tallying.{Table, count_at, one_at, left_at}
use Rattle.sx_prov.specs.declared.key.Standing.TheVariants.{Unreached, DoubleClaim, LongChain, Body, FirstNode, Node}
use Rattle.sx_prov.specs.Keys.{overflow_standing, role_standing, standing_by, key_of}
use Rattle.sx_sweep.specs.Owning.{blocks_begin, block_begins, role_begins, one_begins}
use Rattle.sx_sweep.specs.Passing.{standing_begins, key_begins}

-- ---- a b-tree page but page 1, whatever its number

not_first : (page : ℕ) → (page == 1) ≡ false → header_at page ≡ header_at 2
unfolding header_at
not_first page other = ap (λ b. cond b 100 0) other

same_blocks : (bytes : List ℕ) (page usable : ℕ) (kind : Kind) → header_at page ≡ header_at 2
    → freeblocks_of (record { page = bytes; number = page; usable = usable; kind = kind }) ≡ freeblocks_of (record { page = bytes; number = 2; usable = usable; kind = kind })
unfolding first_freeblock
same_blocks bytes page usable kind header = ap (λ place. blocks_from bytes usable (two_bytes_at bytes (place + 1))) header

same_array : (bytes : List ℕ) (page usable : ℕ) (kind : Kind) → header_at page ≡ header_at 2
    → array_end (record { page = bytes; number = page; usable = usable; kind = kind }) ≡ array_end (record { page = bytes; number = 2; usable = usable; kind = kind })
unfolding cell_count
same_array bytes page usable kind header = rw header refl

array_case : (node two : NodePage) (at : ℕ) (b c : Bool) → b ≡ c → freeblocks_of node ≡ freeblocks_of two
    → block_begins (cond b (Err BadArray) (Ok node)) at ≡ block_begins (cond c (Err BadArray) (Ok two)) at
array_case node two at true true same blocks = refl
array_case node two at true false same blocks = absurd (false≢true (sym same))
array_case node two at false true same blocks = absurd (false≢true same)
array_case node two at false false same blocks = ap (λ list. blocks_begin list at) blocks

same_kind : (bytes : List ℕ) (page usable at : ℕ) (kind : Option Kind) → header_at page ≡ header_at 2
    → block_begins (of_kind bytes page usable kind) at ≡ block_begins (of_kind bytes 2 usable kind) at
unfolding with_array
same_kind bytes page usable at None header = refl
same_kind bytes page usable at (Some kind) header =
    array_case (record { page = bytes; number = page; usable = usable; kind = kind }) (record { page = bytes; number = 2; usable = usable; kind = kind }) at
    (nat_lt usable (array_end (record { page = bytes; number = page; usable = usable; kind = kind })))
    (nat_lt usable (array_end (record { page = bytes; number = 2; usable = usable; kind = kind })))
    (ap (nat_lt usable) (same_array bytes page usable kind header))
    (same_blocks bytes page usable kind header)

same_node : (bytes : List ℕ) (page usable at : ℕ) → (page == 1) ≡ false → block_begins (node_of bytes page usable) at ≡ block_begins (node_of bytes 2 usable) at
unfolding node_of
same_node bytes page usable at other =
    let header = not_first page other in
    same_kind bytes page usable at (kind_of (byte_at bytes (header_at page))) header
    ∙ ap (λ place. block_begins (of_kind bytes 2 usable (kind_of (byte_at bytes place))) at) header

-- ---- by role

node_case : (bytes : List ℕ) (page usable at : ℕ) (b : Bool) → (page == 1) ≡ b
    → block_begins (node_of bytes page usable) at ≡ standing_begins (cond b FirstNode Node) bytes usable at
node_case bytes page usable at true is = ap (λ number. block_begins (node_of bytes number usable) at) (eqb-true page 1 is)
node_case bytes page usable at false is = same_node bytes page usable at is

left_case : (bytes : List ℕ) (usable left at : ℕ) (b : Bool) → false ≡ standing_begins (cond b LongChain (Body (min (usable - 4) left))) bytes usable at
left_case bytes usable left at true = refl
left_case bytes usable left at false = refl

overflow_case : (bytes : List ℕ) (usable at : ℕ) (left : Option ℕ) → false ≡ standing_begins (overflow_standing usable left) bytes usable at
overflow_case bytes usable at None = refl
overflow_case bytes usable at (Some left) = left_case bytes usable left at (left == 0)

role_case : (bytes : List ℕ) (page usable at : ℕ) (left : Option ℕ) (role : Role) → role_begins role bytes page usable at ≡ standing_begins (role_standing usable page left role) bytes usable at
role_case bytes page usable at left NodeRole = node_case bytes page usable at (page == 1) refl
role_case bytes page usable at left Overflow = overflow_case bytes usable at left
role_case bytes page usable at left TrunkRole = refl
role_case bytes page usable at left FreeLeafRole = refl
role_case bytes page usable at left PointerMap = refl

unclear_case : (bytes : List ℕ) (usable at : ℕ) (b : Bool) → false ≡ standing_begins (cond b Unreached DoubleClaim) bytes usable at
unclear_case bytes usable at true = refl
unclear_case bytes usable at false = refl

one_case : (bytes : List ℕ) (page usable at count : ℕ) (left : Option ℕ) (one : Option Target) → one_begins one (Some bytes) page usable at ≡ standing_begins (standing_by usable page count left one) bytes usable at
one_case bytes page usable at count left None = unclear_case bytes usable at (count == 0)
one_case bytes page usable at count left (Some target) = role_case bytes page usable at left target.pair.role

-- the blocks of a page with a view
pub one_key : (table : Table) (bytes : List ℕ) (page usable at : ℕ) → one_begins (one_at table page) (Some bytes) page usable at ≡ key_begins (key_of table usable page) bytes at
unfolding key_of key_begins
one_key table bytes page usable at = one_case bytes page usable at (count_at table page) (left_at table page) (one_at table page)
