-- What the loop over the pairs that are met keeps, and the table with which it ends.
use Rattle.std.proofs.Common.{◌≡◌, ℕ, ◌+◌, ◌<◌, ◌≤◌, true, List, [], length, map, fold, get_or, take, take_all, replicate, append-nil, ◌∙◌, Option, Some, None, is_some, refl, sym, ap, subst, arith}
use Rattle.std.specs.Option.{option_map}
use Rattle.sx_base.specs.declared.role.Role.TheVariants.{Node}
use Rattle.sx_closure.specs.declared.pair.Pair.{Pair}
use Rattle.sx_closure.specs.declared.pair.Target.{Target}
use Rattle.sx_closure.specs.Graph.{Graph, IsGraph, is_held}
use Rattle.sx_closure.specs.Chains.{one_reference}
use Rattle.sx_closure.specs.Tallying.{blank, rank_of, Tallied, added_all, entry_at, count_of, one_of, numbered, Table, IsTableOf}
use Rattle.sx_closure.proofs.Tallies.{Differ, rank_is_some, same_each}
use Rattle.sx_closure.proofs.Ranks.{differ}
use Rattle.sx_closure.proofs.Walks.{IsMet, seen_by, is_in_at, is_in_take, IsWalk, loop_start, loop_more, loop_begins}
use Rattle.sx_closure.proofs.Counting.{IsCounted, loop_end}
use Rattle.sx_closure.proofs.Numbering.{IsNamed, named_start, named_more, came_from, only_named, IsMetAt, IsBehind, IsNumbering, numbered_all, lefts_are}

pub record IsClosing (graph : Graph) (next : ℕ) (tally : Tallied) : Type 0 where
  pub walk : IsWalk graph next tally
  pub named : IsNamed graph tally.met

pub closing_start : (graph : Graph) (held : List ℕ) (tally : Tallied) → IsGraph graph → held ≡ graph.held
    → tally ≡ added_all (record { held = held; entries = map (λ page. blank) held; met = []; dead = 0 }) graph.roots → IsClosing graph 0 tally
closing_start graph held tally is same made =
    let walk = loop_start graph held tally is same made in
    record {
      walk = walk;
      named = named_start graph tally.held tally.met
          (subst (λ seen. IsMet tally.held seen tally.met) (append-nil graph.roots) walk.walked.counted_is.met_is);
    }

pub closing_more : (graph : Graph) (next : ℕ) (before tally : Tallied) (source : Pair) → IsGraph graph → IsClosing graph next before
    → (next < length before.met) × (source ≡ get_or before.met next source) → tally ≡ added_all before (graph.targets source)
    → IsClosing graph (next + 1) tally
closing_more graph next before tally source is closing at made =
    let walk = loop_more graph next before tally source is closing.walk at made in
    record {
      walk = walk;
      named = named_more graph tally.held before.met tally.met (next + 1) closing.named (loop_begins graph next before tally source is closing.walk at made)
          (omega (arith, at.0)) walk.walked.counted_is.met_is;
    }

there_case : (graph : Graph) (tally : Tallied) (page : ℕ) (target : Target) → (o : Option ℕ) → rank_of tally.held page ≡ o
    → one_of page (option_map (λ rank. get_or tally.entries rank blank) o) ≡ Some target → is_held tally.held page ≡ true
there_case graph tally page target None ranked one = let never : None ≡ Some target = one in cc
there_case graph tally page target (Some rank) ranked one = sym (rank_is_some tally.held page) ∙ ap is_some ranked

-- a page with one reference is held, and was met
met_at : (graph : Graph) (tally : Tallied) (page : ℕ) (target : Target) → IsCounted graph tally → one_reference graph page ≡ Some target → IsMetAt tally.met page
met_at graph tally page target counts one =
    let there : is_held graph.held page ≡ true =
    ap (λ held. is_held held page) (sym counts.held_is) ∙ there_case graph tally page target (rank_of tally.held page) refl (counts.ones page ∙ one) in
    let named = only_named page (seen_by graph tally.met) target (counts.seen page there ∙ one) in
    record {
      pair = target.pair;
      there = counts.met target.pair named.0 (ap (is_held graph.held) named.1 ∙ there);
      at = named.1;
    }

-- and the page that its reference comes from was met before it
behind : (graph : Graph) (tally : Tallied) (i : ℕ) (d : Pair) → IsGraph graph → IsNamed graph tally.met → IsCounted graph tally → i < length tally.met
    → IsBehind (one_reference graph) (take i tally.met) (get_or tally.met i d).page
behind graph tally i d is named counts within target other before one from other_is =
    let pair = get_or tally.met i d in
    let there : is_held graph.held pair.page ≡ true = counts.held pair (is_in_take tally.met (i + 1) pair (is_in_at tally.met i d within)) in
    came_from graph tally.met i before d target is named within (counts.seen pair.page there ∙ one) from

pub closing_end : (graph : Graph) (next body : ℕ) (tally : Tallied) (lefts : List (Option ℕ)) → IsGraph graph → IsClosing graph next tally → length tally.met ≤ next
    → lefts ≡ replicate (length tally.held) None
    → IsTableOf graph body (fold (numbered body) (record { held = tally.held; entries = tally.entries; lefts = lefts; dead = tally.dead }) tally.met)
closing_end graph next body tally lefts is closing past blank =
    let counts = loop_end graph next tally is closing.walk past in
    let first : Table = record { held = tally.held; entries = tally.entries; lefts = lefts; dead = tally.dead } in
    let table = fold (numbered body) first tally.met in
    let d : Pair = record { page = 0; role = Node } in
    let differ = subst Differ (sym counts.held_is) (differ graph.held is.rising) in
    let whole : take (length tally.met) tally.met ≡ tally.met = take_all (length tally.met) tally.met (omega arith) in
    let numbering : IsNumbering (one_reference graph) body first tally.met table =
    subst (λ met. IsNumbering (one_reference graph) body first met (fold (numbered body) first met)) whole
    (numbered_all (one_reference graph) body first tally.met (length tally.met) d differ counts.ones
    (blank ∙ same_each None tally.held) (λ i within. behind graph tally i d is closing.named counts within) (omega arith)) in
    record {
      counts = λ page. ap (λ held. count_of (entry_at held table.entries page)) numbering.held_is
          ∙ ap (λ entries. count_of (entry_at tally.held entries page)) numbering.entries_is ∙ counts.counts page;
      ones = λ page. ap (λ held. one_of page (entry_at held table.entries page)) numbering.held_is
          ∙ ap (λ entries. one_of page (entry_at tally.held entries page)) numbering.entries_is ∙ counts.ones page;
      dead = numbering.dead_is ∙ counts.dead;
      lefts = λ page. lefts_are (one_reference graph) body first table tally.met page counts.ones numbering
          (λ target one. met_at graph tally page target counts one);
    }
