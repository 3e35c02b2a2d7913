-- What the items of a tree say, one after the other.
use Rattle.std.proofs.Common.{◌≡◌, ℕ, ◌+◌, Bool, cond, List, ◌∷◌, ◌++◌, Option, Some, None, refl, sym, ap, ◌∙◌, append_assoc, arith}
use Rattle.std.specs.List.{count_by, filter_map, cons_option}
use Rattle.std.specs.Option.{option_to_list}
use Rattle.std.proofs.lemmas.List.Sums.{sum_by-cons}
use Rattle.sx_tree.specs.declared.item.RowItem.{RowItem}
use Rattle.sx_history.specs.declared.found.Found.{Found}

pub in_front : (found : Option Found) (rest : List Found) → cons_option found rest ≡ option_to_list found ++ rest
in_front None rest = refl
in_front (Some found) rest = refl

-- the rows so far, and those of the items to come
pub found_more : (make : RowItem → Option Found) (front more all : List Found) (item : RowItem) (items rest : List RowItem)
    → items ≡ item ∷ rest → front ++ filter_map make items ≡ all → more ≡ front ++ option_to_list (make item)
    → more ++ filter_map make rest ≡ all
found_more make front more all item items rest first is added =
    ap (λ l. l ++ filter_map make rest) added
    ∙ append_assoc front (option_to_list (make item)) (filter_map make rest)
    ∙ ap (λ l. front ++ l) (sym (in_front (make item) (filter_map make rest)))
    ∙ ap (λ l. front ++ filter_map make l) (sym first)
    ∙ is

-- the faults so far, and those of the items to come
pub faults_more : (test : RowItem → Bool) (front more all : ℕ) (item : RowItem) (items rest : List RowItem)
    → items ≡ item ∷ rest → front + count_by test items ≡ all → more ≡ front + cond (test item) 1 0
    → more + count_by test rest ≡ all
faults_more test front more all item items rest first is added =
    let counted : count_by test items ≡ cond (test item) 1 0 + count_by test rest = ap (count_by test) first ∙ sum_by-cons (λ one. cond (test one) 1 0) item rest in
    omega (arith, counted, is, added)
