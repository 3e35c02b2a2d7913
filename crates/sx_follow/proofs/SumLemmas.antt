-- The sums of all held pages, with one target more and one taken back.
use Rattle.std.proofs.Common.{◌≡◌, ℕ, ◌+◌, ◌-◌, ◌==◌, Bool, true, false, cond, List, [], ◌∷◌, map, get_or, set, Option, Some, None, is_some, refl, sym, ap, ◌∙◌, arith}
use Rattle.std.specs.List.Sorted.{IsPermutation}
use Rattle.std.proofs.lemmas.Bool.{eq-eqb}
use Rattle.std.proofs.lemmas.List.Sums.{sum_by-cons}
use Rattle.std.proofs.lemmas.List.Sorted.{sum_by-IsPermutation, sum_by_popped}
use Rattle.sx_base.specs.declared.role.Role.TheVariants.{Node, Overflow, Trunk, FreeLeaf, PointerMap}
use Rattle.sx_closure.specs.declared.pair.Target.{Target}
use Rattle.sx_follow.specs.declared.sums.Sum.{Sum}
use Rattle.sx_closure.specs.Graph.{is_held}
use Rattle.sx_closure.specs.Tallying.{rank_of}
use Rattle.sx_follow.specs.Sums.{of_role, kind_of, page_in, cell_in, weighed, total, summed, plus, minus, nothing, Sums, is_dead, added_at, added, taken_at, taken, AreSums}
use Rattle.sx_closure.proofs.Pairs.{flipped}
use Rattle.sx_closure.proofs.Tallies.{Differ, map_other, set_at_rank, at_rank, rank_is_some}
use Rattle.sx_follow.proofs.Summing.{total_more, total_less, total_same}

-- ---- the sums of one page

more_at : (weight : Target → ℕ) (target : Target) (seen : List Target)
    → total weight target.pair.page (target ∷ seen) ≡ total weight target.pair.page seen + weight target
more_at weight target seen =
    let page = target.pair.page in
    let it : weighed weight page target ≡ weight target = ap (λ b. cond b (weight target) 0) (eq-eqb page page refl) in
    omega (arith, total_more weight page target seen, it)

other_at : (weight : Target → ℕ) (page : ℕ) (target : Target) (seen : List Target) → (target.pair.page == page) ≡ false
    → total weight page (target ∷ seen) ≡ total weight page seen
other_at weight page target seen other =
    let it : weighed weight page target ≡ 0 = ap (λ b. cond b (weight target) 0) other in
    omega (arith, total_more weight page target seen, it)

less_at : (weight : Target → ℕ) (target : Target) (seen rest : List Target) → IsPermutation seen (target ∷ rest)
    → total weight target.pair.page rest ≡ total weight target.pair.page seen - weight target
less_at weight target seen rest perm =
    let page = target.pair.page in
    let it : weighed weight page target ≡ weight target = ap (λ b. cond b (weight target) 0) (eq-eqb page page refl) in
    omega (arith, total_less weight page target seen rest perm, it)

left_at : (weight : Target → ℕ) (page : ℕ) (target : Target) (seen rest : List Target) → IsPermutation seen (target ∷ rest) → (target.pair.page == page) ≡ false
    → total weight page rest ≡ total weight page seen
left_at weight page target seen rest perm other =
    let it : weighed weight page target ≡ 0 = ap (λ b. cond b (weight target) 0) other in
    omega (arith, total_less weight page target seen rest perm, it)

-- sums with equal parts
pub same_sums : (one other : Sum) → one.node ≡ other.node → one.overflow ≡ other.overflow → one.trunk ≡ other.trunk → one.free_leaf ≡ other.free_leaf
    → one.pointer_map ≡ other.pointer_map → one.kind ≡ other.kind → one.page ≡ other.page → one.cell ≡ other.cell → one.rest ≡ other.rest → one ≡ other
same_sums one other node overflow trunk free_leaf pointer_map kind page cell rest =
    ap (λ n. record { node = n; overflow = one.overflow; trunk = one.trunk; free_leaf = one.free_leaf; pointer_map = one.pointer_map; kind = one.kind; page = one.page; cell = one.cell; rest = one.rest }) node
    ∙ ap (λ n. record { node = other.node; overflow = n; trunk = one.trunk; free_leaf = one.free_leaf; pointer_map = one.pointer_map; kind = one.kind; page = one.page; cell = one.cell; rest = one.rest }) overflow
    ∙ ap (λ n. record { node = other.node; overflow = other.overflow; trunk = n; free_leaf = one.free_leaf; pointer_map = one.pointer_map; kind = one.kind; page = one.page; cell = one.cell; rest = one.rest }) trunk
    ∙ ap (λ n. record { node = other.node; overflow = other.overflow; trunk = other.trunk; free_leaf = n; pointer_map = one.pointer_map; kind = one.kind; page = one.page; cell = one.cell; rest = one.rest }) free_leaf
    ∙ ap (λ n. record { node = other.node; overflow = other.overflow; trunk = other.trunk; free_leaf = other.free_leaf; pointer_map = n; kind = one.kind; page = one.page; cell = one.cell; rest = one.rest }) pointer_map
    ∙ ap (λ n. record { node = other.node; overflow = other.overflow; trunk = other.trunk; free_leaf = other.free_leaf; pointer_map = other.pointer_map; kind = n; page = one.page; cell = one.cell; rest = one.rest }) kind
    ∙ ap (λ n. record { node = other.node; overflow = other.overflow; trunk = other.trunk; free_leaf = other.free_leaf; pointer_map = other.pointer_map; kind = other.kind; page = n; cell = one.cell; rest = one.rest }) page
    ∙ ap (λ n. record { node = other.node; overflow = other.overflow; trunk = other.trunk; free_leaf = other.free_leaf; pointer_map = other.pointer_map; kind = other.kind; page = other.page; cell = n; rest = one.rest }) cell
    ∙ ap (λ n. record { node = other.node; overflow = other.overflow; trunk = other.trunk; free_leaf = other.free_leaf; pointer_map = other.pointer_map; kind = other.kind; page = other.page; cell = other.cell; rest = n }) rest

abbrev source_kind : Target → ℕ
source_kind target = kind_of target.source

abbrev source_page : Target → ℕ
source_page target = page_in target.source

abbrev source_cell : Target → ℕ
source_cell target = cell_in target.source

abbrev source_rest : Target → ℕ
source_rest target = target.rest

summed_by : (some others : List Target) (page : ℕ) → ((weight : Target → ℕ) → total weight page some ≡ total weight page others) → summed some page ≡ summed others page
summed_by some others page same =
    same_sums (summed some page) (summed others page) (same (of_role Node)) (same (of_role Overflow)) (same (of_role Trunk)) (same (of_role FreeLeaf)) (same (of_role PointerMap))
    (same source_kind) (same source_page) (same source_cell) (same source_rest)

summed_more : (target : Target) (seen : List Target) → summed (target ∷ seen) target.pair.page ≡ plus (summed seen target.pair.page) target
summed_more target seen =
    let at : (weight : Target → ℕ) → total weight target.pair.page (target ∷ seen) ≡ total weight target.pair.page seen + weight target = λ weight. more_at weight target seen in
    same_sums (summed (target ∷ seen) target.pair.page) (plus (summed seen target.pair.page) target) (at (of_role Node)) (at (of_role Overflow)) (at (of_role Trunk)) (at (of_role FreeLeaf))
    (at (of_role PointerMap)) (at source_kind) (at source_page) (at source_cell) (at source_rest)

summed_less : (target : Target) (seen rest : List Target) → IsPermutation seen (target ∷ rest) → summed rest target.pair.page ≡ minus (summed seen target.pair.page) target
summed_less target seen rest perm =
    let at : (weight : Target → ℕ) → total weight target.pair.page rest ≡ total weight target.pair.page seen - weight target = λ weight. less_at weight target seen rest perm in
    same_sums (summed rest target.pair.page) (minus (summed seen target.pair.page) target) (at (of_role Node)) (at (of_role Overflow)) (at (of_role Trunk)) (at (of_role FreeLeaf))
    (at (of_role PointerMap)) (at source_kind) (at source_page) (at source_cell) (at source_rest)

-- ---- all pages

pub sums_none : (held : List ℕ) → AreSums [] (record { held = held; sums = map (λ page. nothing) held; dead = 0 })
sums_none held = record { sums = refl; dead = refl }

-- in another order
map_all : (some others : List Target) (held : List ℕ) → ((page : ℕ) → summed some page ≡ summed others page) → map (summed some) held ≡ map (summed others) held
map_all some others [] same = refl
map_all some others (page ∷ held) same =
    ap (λ sum. sum ∷ map (summed some) held) (same page) ∙ ap (λ rest. summed others page ∷ rest) (map_all some others held same)

pub sums_same : (some others : List Target) (all : Sums) → IsPermutation some others → AreSums some all → AreSums others all
sums_same some others all perm are = record {
  sums = are.sums ∙ map_all some others all.held (λ page. summed_by some others page (λ weight. sym (total_same weight page some others perm)));
  dead = are.dead ∙ sym (sum_by-IsPermutation (is_dead all.held) some others perm);
}

dead_is : (held : List ℕ) (target : Target) (b : Bool) → is_held held target.pair.page ≡ b → is_dead held target ≡ cond b 0 1
dead_is held target b is = ap (λ t. cond t 0 1) is

more_case : (seen : List Target) (all : Sums) (target : Target) → Differ all.held → AreSums seen all → (o : Option ℕ) → rank_of all.held target.pair.page ≡ o
    → AreSums (target ∷ seen) (added_at all target o)
more_case seen all target differ are None ranked =
    let missing : is_held all.held target.pair.page ≡ false = sym (rank_is_some all.held target.pair.page) ∙ ap is_some ranked in
    record {
      sums = are.sums ∙ map_other all.held target.pair.page (summed seen) (summed (target ∷ seen)) missing
          (λ page other. summed_by (target ∷ seen) seen page (λ weight. other_at weight page target seen (flipped page target.pair.page false other)));
      dead = omega (arith, are.dead, sum_by-cons (is_dead all.held) target seen, dead_is all.held target false missing);
    }
more_case seen all target differ are (Some rank) ranked =
    let page = target.pair.page in
    let there : is_held all.held page ≡ true = sym (rank_is_some all.held page) ∙ ap is_some ranked in
    let old : get_or all.sums rank nothing ≡ summed seen page = ap (λ sums. get_or sums rank nothing) are.sums ∙ at_rank all.held page rank (summed seen) nothing ranked in
    record {
      sums = ap (λ sums. set sums rank (plus (get_or all.sums rank nothing) target)) are.sums
          ∙ set_at_rank all.held page rank (summed seen) (summed (target ∷ seen)) (plus (get_or all.sums rank nothing) target) differ ranked
          (summed_more target seen ∙ ap (λ sum. plus sum target) (sym old))
          (λ q other. summed_by (target ∷ seen) seen q (λ weight. other_at weight q target seen (flipped q page false other)));
      dead = omega (arith, are.dead, sum_by-cons (is_dead all.held) target seen, dead_is all.held target true there);
    }

pub sums_more : (seen : List Target) (all : Sums) (target : Target) → Differ all.held → AreSums seen all → AreSums (target ∷ seen) (added all target)
unfolding added
sums_more seen all target differ are = more_case seen all target differ are (rank_of all.held target.pair.page) refl

less_case : (seen rest : List Target) (all : Sums) (target : Target) → Differ all.held → IsPermutation seen (target ∷ rest) → AreSums seen all
    → (o : Option ℕ) → rank_of all.held target.pair.page ≡ o → AreSums rest (taken_at all target o)
less_case seen rest all target differ perm are None ranked =
    let missing : is_held all.held target.pair.page ≡ false = sym (rank_is_some all.held target.pair.page) ∙ ap is_some ranked in
    record {
      sums = are.sums ∙ map_other all.held target.pair.page (summed seen) (summed rest) missing
          (λ page other. summed_by rest seen page (λ weight. left_at weight page target seen rest perm (flipped page target.pair.page false other)));
      dead = omega (arith, are.dead, sum_by_popped (is_dead all.held) target seen rest perm, dead_is all.held target false missing);
    }
less_case seen rest all target differ perm are (Some rank) ranked =
    let page = target.pair.page in
    let there : is_held all.held page ≡ true = sym (rank_is_some all.held page) ∙ ap is_some ranked in
    let old : get_or all.sums rank nothing ≡ summed seen page = ap (λ sums. get_or sums rank nothing) are.sums ∙ at_rank all.held page rank (summed seen) nothing ranked in
    record {
      sums = ap (λ sums. set sums rank (minus (get_or all.sums rank nothing) target)) are.sums
          ∙ set_at_rank all.held page rank (summed seen) (summed rest) (minus (get_or all.sums rank nothing) target) differ ranked
          (summed_less target seen rest perm ∙ ap (λ sum. minus sum target) (sym old))
          (λ q other. summed_by rest seen q (λ weight. left_at weight q target seen rest perm (flipped q page false other)));
      dead = omega (arith, are.dead, sum_by_popped (is_dead all.held) target seen rest perm, dead_is all.held target true there);
    }

pub sums_less : (seen rest : List Target) (all : Sums) (target : Target) → Differ all.held → IsPermutation seen (target ∷ rest) → AreSums seen all
    → AreSums rest (taken all target)
unfolding taken
sums_less seen rest all target differ perm are = less_case seen rest all target differ perm are (rank_of all.held target.pair.page) refl
