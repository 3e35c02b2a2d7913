-- What the cells of a leaf say, one after the other.
use Rattle.std.proofs.Common.{◌≡◌, ℕ, ℤ, suc, ◌+◌, ◌-◌, ◌<◌, ◌≤◌, inl, inr, Bool, true, false, cond, List, [], ◌∷◌, ◌++◌, Option, sym, ap, subst, ◌∙◌, arith, append_assoc}
use Rattle.std.specs.List.{filter_map, count_by, range_with_len}
use Rattle.std.specs.Option.{option_to_list}
use Rattle.std.proofs.lemmas.List.Sums.{sum_by-cons}
use Rattle.std.proofs.lemmas.Bool.{cases_lt}
use Rattle.sx_node.specs.Nodes.{NodePage, cell_count, cell_in}
use Rattle.sx_history.specs.declared.found.Found.{Found}
use Rattle.sx_history.specs.History.{row_found, row_faulty}
use Rattle.sx_history.specs.Leaves.{IsLocal, local_row, leaf_found, leaf_faults}
use Rattle.sx_history.proofs.Gathered.{in_front}

next_in : (count index : ℕ) → index < count → range_with_len index (count - index) ≡ index ∷ range_with_len (index + 1) (count - (index + 1))
next_in count index below = ap (range_with_len index) (let less : count - index ≡ suc (count - (index + 1)) = omega (arith, below) in less)

pub found_next : (rowid : ℤ) (node : NodePage) (index : ℕ) → index < cell_count node
    → leaf_found rowid node index ≡ option_to_list (row_found rowid node.number index (local_row node.page (cell_in node index))) ++ leaf_found rowid node (index + 1)
unfolding leaf_found
found_next rowid node index below =
    ap (filter_map (λ i. row_found rowid node.number i (local_row node.page (cell_in node i)))) (next_in (cell_count node) index below)
    ∙ in_front (row_found rowid node.number index (local_row node.page (cell_in node index))) (leaf_found rowid node (index + 1))

pub faults_next : (node : NodePage) (index : ℕ) → index < cell_count node
    → leaf_faults node index ≡ cond (row_faulty (local_row node.page (cell_in node index))) 1 0 + leaf_faults node (index + 1)
unfolding leaf_faults
faults_next node index below =
    ap (count_by (λ i. row_faulty (local_row node.page (cell_in node i)))) (next_in (cell_count node) index below)
    ∙ sum_by-cons (λ i. cond (row_faulty (local_row node.page (cell_in node i))) 1 0) index (range_with_len (index + 1) (cell_count node - (index + 1)))

pub found_none : (rowid : ℤ) (node : NodePage) (index : ℕ) → cell_count node ≤ index → leaf_found rowid node index ≡ []
unfolding leaf_found
found_none rowid node index past =
    ap (λ n. filter_map (λ i. row_found rowid node.number i (local_row node.page (cell_in node i))) (range_with_len index n)) (let none : cell_count node - index ≡ 0 = omega (arith, past) in none)

pub faults_none : (node : NodePage) (index : ℕ) → cell_count node ≤ index → leaf_faults node index ≡ 0
unfolding leaf_faults
faults_none node index past =
    ap (λ n. count_by (λ i. row_faulty (local_row node.page (cell_in node i))) (range_with_len index n)) (let none : cell_count node - index ≡ 0 = omega (arith, past) in none)

-- one cell more
pub found_more : (rowid : ℤ) (node : NodePage) (index : ℕ) (page : List ℕ) (number : ℕ) (front more all : List Found) (found : Option Found) → node.page ≡ page → node.number ≡ number → index < cell_count node
    → found ≡ row_found rowid number index (local_row page (cell_in node index)) → front ++ leaf_found rowid node index ≡ all → more ≡ front ++ option_to_list found
    → more ++ leaf_found rowid node (index + 1) ≡ all
found_more rowid node index page number front more all found same_page same_number below is before added =
    let own : found ≡ row_found rowid node.number index (local_row node.page (cell_in node index)) =
    is ∙ ap (λ n. row_found rowid n index (local_row page (cell_in node index))) (sym same_number)
    ∙ ap (λ p. row_found rowid node.number index (local_row p (cell_in node index))) (sym same_page) in
    ap (λ l. l ++ leaf_found rowid node (index + 1)) (added ∙ ap (λ o. front ++ option_to_list o) own)
    ∙ append_assoc front (option_to_list (row_found rowid node.number index (local_row node.page (cell_in node index)))) (leaf_found rowid node (index + 1))
    ∙ ap (λ l. front ++ l) (sym (found_next rowid node index below))
    ∙ before

pub faults_more : (node : NodePage) (index : ℕ) (page : List ℕ) (front more all : ℕ) (faulty : Bool) → node.page ≡ page → index < cell_count node
    → faulty ≡ row_faulty (local_row page (cell_in node index)) → front + leaf_faults node index ≡ all → more ≡ front + cond faulty 1 0
    → more + leaf_faults node (index + 1) ≡ all
faults_more node index page front more all faulty same_page below is before added =
    let own : faulty ≡ row_faulty (local_row node.page (cell_in node index)) = is ∙ ap (λ p. row_faulty (local_row p (cell_in node index))) (sym same_page) in
    omega (arith, faults_next node index below, before, added, ap {B = ℕ} (λ b. cond b 1 0) own)

pub local_more : (node : NodePage) (index : ℕ) → ((i : ℕ) → i < index → IsLocal (cell_in node i)) → IsLocal (cell_in node index) → (i : ℕ) → i < index + 1 → IsLocal (cell_in node i)
local_more node index before local i below =
    elim (cases_lt i index) [
      | inl less ↦ before i less
      | inr past ↦ subst (λ k. IsLocal (cell_in node k)) (let same : index ≡ i = omega (arith, past, below) in same) local
    ]

pub one_most : (b : Bool) → cond b 1 0 ≤ 1
one_most true = omega arith
one_most false = omega arith
