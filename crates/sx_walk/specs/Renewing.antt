-- The entries of a table written anew from sums.
use Rattle.std.specs.Prelude.{◌≡◌, ℕ, ◌<◌, ◌==◌, ◌⊎◌, Bool, if◌then◌else◌, List, [], ◌∷◌, ◌++◌, length, slice_index, Option, Some, None}
use Rattle.std.specs.List.{Contains, list_any}
use Rattle.sx_closure.specs.declared.pair.Target.{Target}
use Rattle.sx_closure.specs.Tallying.{Table, count_at, one_at, number_at}
use Rattle.sx_follow.specs.Sums.{Sums}
use Rattle.sx_follow.specs.Climbing.{all_of}
use Rattle.sx_follow.specs.Following.{sum_of}
use Rattle.sx_follow.specs.Ones.{the_one}

-- how many references the sums say of a page that is shown; there is none to another
abbrev pub said_count : (ℕ → Bool) → Sums → ℕ → ℕ
said_count shown sums page = if shown page then all_of (sum_of sums page) else 0

-- how many they say of a page that isn't shown
abbrev pub unsaid_count : (ℕ → Bool) → Sums → ℕ → ℕ
unsaid_count shown sums page = if shown page then 0 else all_of (sum_of sums page)

-- which is the one, where there is no other
abbrev pub said_one : (ℕ → Bool) → Sums → ℕ → Option Target
said_one shown sums page = if shown page then the_one sums page else None

-- the table says of a page what the sums say
pub record Agrees (shown : ℕ → Bool) (table : Table) (sums : Sums) (page : ℕ) : Type 0 where
  pub count : count_at table page ≡ said_count shown sums page
  pub one : one_at table page ≡ said_one shown sums page

-- the page of one of these ranks
abbrev pub has_rank : List ℕ → List ℕ → ℕ → Bool
has_rank numbers ranks page = list_any (λ rank. slice_index numbers rank == page) ranks

-- two tables have the same entry of a page
pub record SameEntry (before now : Table) (page : ℕ) : Type 0 where
  pub count : count_at now page ≡ count_at before page
  pub one : one_at now page ≡ one_at before page

-- a rank put behind a list, where there is one
abbrev pub noted : Option ℕ → List ℕ → List ℕ
noted None touched = touched
noted (Some rank) touched = touched ++ rank ∷ []

-- from one table to the next the pages that are told agree with the sums, and what agreed before; the ranks of those that
-- changed are put behind a list; and numbers don't change
pub record Renews (shown : ℕ → Bool) (told : ℕ → Type 0) (sums : Sums) (numbers : List ℕ) (before now : Table) (touched more : List ℕ) : Type 0 where
  pub agrees : (page : ℕ) → told page ⊎ Agrees shown before sums page → Agrees shown now sums page
  pub numbers_stay : (page : ℕ) → number_at now page ≡ number_at before page
  pub grows : (rank : ℕ) → Contains touched rank → Contains more rank
  pub notes : (rank : ℕ) → rank < length numbers → (Contains more rank → ⊥) → SameEntry before now (slice_index numbers rank)
