-- What is kept while targets are counted: for each held page its count of references, the last of them and the roles in
-- which it was named; the pairs met, in the order in which they were met; the count of dead links.
use Rattle.std.specs.Prelude.{◌≡◌, ℕ, ◌+◌, ◌-◌, ◌^◌, ◌==◌, Bool, true, false, if◌then◌else◌, min, List, [], ◌∷◌, ◌++◌, length, map, slice_index_or, slice_set, fold, Option, Some, None, option_map}
use Rattle.sx_base.specs.declared.role.Role.{Role}
use Rattle.sx_base.specs.declared.role.Role.TheVariants.{Node, Overflow, Trunk, FreeLeaf, PointerMap}
use Rattle.sx_closure.specs.declared.pair.Pair.{Pair}
use Rattle.sx_closure.specs.declared.pair.Source.TheVariants.{Root}
use Rattle.sx_closure.specs.declared.pair.Target.{Target}
use Rattle.sx_closure.specs.Graph.{Graph, references_to, only, dead_links}
use Rattle.sx_closure.specs.Chains.{page_before, number_of, is_overflow, one_reference, IsLeft}
use Rattle.sx_closure.specs.declared.table.Marks.{Marks}
use Rattle.sx_closure.specs.declared.table.Entry.{Entry}

-- the page was named in the role
abbrev pub is_marked : Marks → Role → Bool
is_marked marks Node = marks.node
is_marked marks Overflow = marks.overflow
is_marked marks Trunk = marks.trunk
is_marked marks FreeLeaf = marks.free_leaf
is_marked marks PointerMap = marks.pointer_map

-- and in one role more
abbrev pub with_mark : Marks → Role → Marks
with_mark marks Node = record marks { node = true }
with_mark marks Overflow = record marks { overflow = true }
with_mark marks Trunk = record marks { trunk = true }
with_mark marks FreeLeaf = record marks { free_leaf = true }
with_mark marks PointerMap = record marks { pointer_map = true }

-- one more, up to the last value of a counter of 64 bits
abbrev pub one_more : ℕ → ℕ
one_more count = min (count + 1) (2 ^ 64 - 1)

-- a page that nothing names
abbrev pub blank : Entry
blank = record {
  count = 0;
  role = Node;
  source = Root;
  rest = 0;
  marks = record { node = false; overflow = false; trunk = false; free_leaf = false; pointer_map = false };
}

-- a page that one reference more names
abbrev pub counted : Entry → Target → Entry
counted entry target = record {
  count = one_more entry.count;
  role = target.pair.role;
  source = target.source;
  rest = target.rest;
  marks = with_mark entry.marks target.pair.role;
}

-- at which place among the held pages a page stands
abbrev pub rank_of : List ℕ → ℕ → Option ℕ
rank_of [] page = None
rank_of (number ∷ held) page = if number == page then Some 0 else option_map (λ rank. rank + 1) (rank_of held page)

pub record Tallied : Type 0 where
  pub held : List ℕ
  pub entries : List Entry
  pub met : List Pair
  pub dead : ℕ

-- the pairs met, when a page with these marks is named in a role
abbrev pub meets : List Pair → Marks → Pair → List Pair
meets met marks pair = if is_marked marks pair.role then met else met ++ pair ∷ []

-- one target more
abbrev pub added_at : Tallied → Target → Option ℕ → Tallied
added_at tally target None = record tally { dead = one_more tally.dead }
added_at tally target (Some rank) = record tally {
  entries = slice_set tally.entries rank (counted (slice_index_or tally.entries rank blank) target);
  met = meets tally.met (slice_index_or tally.entries rank blank).marks target.pair;
}

unfoldable pub added : Tallied → Target → Tallied
added tally target = added_at tally target (rank_of tally.held target.pair.page)

-- one list of targets more
unfoldable pub added_all : Tallied → List Target → Tallied
added_all tally targets = fold added tally targets

-- what is kept of a page, if it is held
abbrev pub entry_at : List ℕ → List Entry → ℕ → Option Entry
entry_at held entries page = option_map (λ rank. slice_index_or entries rank blank) (rank_of held page)

-- how many references it has
abbrev pub count_of : Option Entry → ℕ
count_of None = 0
count_of (Some entry) = entry.count

-- the one that it has, where it has no other
abbrev pub one_of : ℕ → Option Entry → Option Target
one_of page None = None
one_of page (Some entry) =
    if entry.count == 1 then Some (record { pair = record { page = page; role = entry.role }; source = entry.source; rest = entry.rest }) else None

-- what is known in the end
pub record Table : Type 0 where
  pub held : List ℕ
  pub entries : List Entry
  pub lefts : List (Option ℕ)
  pub dead : ℕ

-- how many references a page has
abbrev pub count_at : Table → ℕ → ℕ
count_at table page = count_of (entry_at table.held table.entries page)

-- the one reference to a page, where it has no other
abbrev pub one_at : Table → ℕ → Option Target
one_at table page = one_of page (entry_at table.held table.entries page)

-- the entry of a page with so many references, and that one where it has no other
abbrev pub entry_of : ℕ → Option Target → Entry
entry_of count None = record blank { count = count }
entry_of count (Some target) = record blank { count = count; role = target.pair.role; source = target.source; rest = target.rest }

abbrev pub put_at : Table → Entry → Option ℕ → Table
put_at table entry None = table
put_at table entry (Some rank) = record table { entries = slice_set table.entries rank entry }

-- the table with another entry of a page, where that is held
unfoldable pub put : Table → ℕ → Entry → Table
put table page entry = put_at table entry (rank_of table.held page)

-- what is kept of a page's number, if it is held
abbrev pub left_by_rank : List (Option ℕ) → Option ℕ → Option ℕ
left_by_rank lefts None = None
left_by_rank lefts (Some rank) = slice_index_or lefts rank None

-- the number of a page: how many bytes of the payload are still to come there
abbrev pub number_at : Table → ℕ → Option ℕ
number_at table page = left_by_rank table.lefts (rank_of table.held page)

-- the number of the page before, where the reference comes from a page
abbrev pub number_before : Table → Option ℕ → Option ℕ
number_before table None = None
number_before table (Some before) = number_at table before

-- one page numbered, by its one reference and the page before it
abbrev pub numbered_at : ℕ → Table → ℕ → Option ℕ → Table
numbered_at body table page None = table
numbered_at body table page (Some rank) = record table {
  lefts = slice_set table.lefts rank (number_of body (one_at table page) (number_before table (page_before (one_at table page))));
}

unfoldable pub numbered : ℕ → Table → Pair → Table
numbered body table pair = numbered_at body table pair.page (rank_of table.held pair.page)

-- the number of a page, where its one reference is of the role of overflow pages
abbrev pub left_at : Table → ℕ → Option ℕ
left_at table page = if is_overflow (one_at table page) then number_at table page else None

-- the number of the page before, where the reference comes from a page and that has a number of the role
abbrev pub left_before : Table → Option ℕ → Option ℕ
left_before table None = None
left_before table (Some before) = left_at table before

-- the number that a page has by its one reference and by the number of the page before it
abbrev pub ruled : ℕ → Table → ℕ → Option ℕ
ruled body table page = number_of body (one_at table page) (left_before table (page_before (one_at table page)))

abbrev pub put_left_at : Table → Option ℕ → Option ℕ → Table
put_left_at table left None = table
put_left_at table left (Some rank) = record table { lefts = slice_set table.lefts rank left }

-- the table with another number of a page, where that is held
unfoldable pub put_left : Table → ℕ → Option ℕ → Table
put_left table page left = put_left_at table left (rank_of table.held page)

-- what is kept by a place, or of a page that nothing names
abbrev pub entry_by_rank : List Entry → Option ℕ → Entry
entry_by_rank entries None = blank
entry_by_rank entries (Some rank) = slice_index_or entries rank blank

-- the table with these pages for the held ones: of one that wasn't held it is kept that nothing names it
unfoldable pub widened_table : List ℕ → Table → Table
widened_table numbers table = record {
  held = numbers;
  entries = map (λ page. entry_by_rank table.entries (rank_of table.held page)) numbers;
  lefts = map (λ page. number_at table page) numbers;
  dead = table.dead;
}

-- the table says what the graph defines; a page holds `body` bytes of a payload
pub record IsTableOf (graph : Graph) (body : ℕ) (table : Table) : Type 0 where
  pub counts : (page : ℕ) → count_at table page ≡ length (references_to graph page)
  pub ones : (page : ℕ) → one_at table page ≡ only (references_to graph page)
  pub dead : table.dead ≡ length (dead_links graph)
  pub lefts : (page : ℕ) → IsLeft (one_reference graph) body page (left_at table page)
