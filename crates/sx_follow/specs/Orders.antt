-- Orders of the pairs that are reached.
use Rattle.std.specs.Prelude.{◌≡◌, ◌||◌, true, false, List, [], ◌∷◌, ⊤}
use Rattle.sx_closure.specs.declared.pair.Pair.{Pair}
use Rattle.sx_closure.specs.Graph.{is_in, is_named, Graph, is_held}
use Rattle.sx_closure.proofs.Walks.{seen_by}

-- the newest first: each is held, stands once, and has lost a name, or is named by a root or by a pair behind it
abbrev pub IsOrder : Graph → List Pair → List Pair → Type 0
IsOrder graph lost [] = ⊤
IsOrder graph lost (pair ∷ met) =
    (is_held graph.held pair.page ≡ true) × (is_in met pair ≡ false) × ((is_in lost pair || is_named (seen_by graph met) pair) ≡ true) × IsOrder graph lost met
