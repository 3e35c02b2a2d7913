-- What is kept while pairs rise that weren't reached before: the sums, the pairs that were named, and those that rose, in the
-- order in which they did.
use Rattle.std.specs.Prelude.{ℕ, ◌==◌, Bool, false, if◌then◌else◌, List, [], ◌∷◌, ◌++◌, fold, slice_index_or, Option, Some, None}
use Rattle.sx_closure.specs.declared.pair.Pair.{Pair}
use Rattle.sx_closure.specs.declared.pair.Target.{Target}
use Rattle.sx_closure.specs.Tallying.{rank_of}
use Rattle.sx_follow.specs.Sums.{nothing, many_of, Sums, added}

-- the pair's page is held, and so many references name the pair
abbrev pub has_at : ℕ → Sums → Pair → Option ℕ → Bool
has_at many all pair None = false
has_at many all pair (Some rank) = many_of (slice_index_or all.sums rank nothing) pair.role == many

abbrev pub has_many : ℕ → Sums → Pair → Bool
has_many many all pair = has_at many all pair (rank_of all.held pair.page)

pub record Rise : Type 0 where
  pub sums : Sums
  pub named : List Pair
  pub todo : List Pair

-- one target more: where none named its pair before, the pair rises
unfoldable pub rose : Rise → Target → Rise
rose state target = record {
  sums = added state.sums target;
  named = state.named ++ target.pair ∷ [];
  todo = if has_many 0 state.sums target.pair then state.todo ++ target.pair ∷ [] else state.todo;
}

unfoldable pub rose_all : Rise → List Target → Rise
rose_all state targets = fold rose state targets
