-- What comes and what goes where the views of pages are taken anew.
use Rattle.std.specs.Prelude.{◌≡◌, ℕ, ◌≤◌, Bool, true, false, List, ◌++◌, length, slice_index_or, Option, Some, None, ⊤}
use Rattle.sx_base.specs.declared.role.Role.{Role}
use Rattle.sx_base.specs.declared.role.Role.TheVariants.{Node, Overflow, Trunk}
use Rattle.sx_closure.specs.declared.pair.Pair.{Pair}
use Rattle.sx_closure.specs.declared.pair.Target.{Target}
use Rattle.sx_closure.specs.Graph.{is_in, Graph}
use Rattle.sx_closure.specs.Tallying.{rank_of}
use Rattle.sx_closure.proofs.Pairs.{Apart}
use Rattle.sx_follow.specs.Sums.{Sums}
use Rattle.sx_follow.specs.Climbing.{is_marked_in}
use Rattle.sx_follow.specs.Gathered.{IsChange, IsGathered}
use Rattle.sx_refs.specs.Pages.{if_held}

-- a page in a role
abbrev pub in_the_role : ℕ → Role → Pair
in_the_role page role = record { page = page; role = role }

-- a view, where there is one, has the usable bytes, and is no longer than a page may be
abbrev pub HasUsable : ℕ → Option (List ℕ) → Type 0
HasUsable usable None = ⊤
HasUsable usable (Some page) = (usable ≤ length page) × (length page ≤ 65536)

-- ---- two lists of targets

-- what comes and what goes between the two is put behind the lists of what came and what went
pub record Exchanges (old new come coming gone going : List Target) : Type 0 where
  pub more : List Target
  pub less : List Target
  pub coming_is : coming ≡ come ++ more
  pub going_is : going ≡ gone ++ less
  pub change : IsChange old new more less

-- so it is where the pair is reached, else nothing is
abbrev pub ExchangesIf : Bool → List Target → List Target → List Target → List Target → List Target → List Target → Type 0
ExchangesIf true old new come coming gone going = Exchanges old new come coming gone going
ExchangesIf false old new come coming gone going = (coming ≡ come) × (going ≡ gone)

-- ---- one page

abbrev pub ExchangesIn : Role → Sums → ℕ → ℕ → Option (List ℕ) → Option (List ℕ) → List Target → List Target → List Target → List Target → Type 0
ExchangesIn role sums usable page before after come coming gone going =
    ExchangesIf (is_marked_in sums (in_the_role page role)) (if_held before (in_the_role page role) usable) (if_held after (in_the_role page role) usable) come coming gone going

-- what a page names is exchanged in each role in which it is reached
pub record ExchangesPage (sums : Sums) (usable page : ℕ) (before after : Option (List ℕ)) (come coming gone going : List Target) : Type 0 where
  pub come_node : List Target
  pub gone_node : List Target
  pub node : ExchangesIn Node sums usable page before after come come_node gone gone_node
  pub come_overflow : List Target
  pub gone_overflow : List Target
  pub overflow : ExchangesIn Overflow sums usable page before after come_node come_overflow gone_node gone_overflow
  pub trunk : ExchangesIn Trunk sums usable page before after come_overflow coming gone_overflow going

-- ---- all pages

abbrev pub view_by : List (Option (List ℕ)) → Option ℕ → Option (List ℕ)
view_by views None = None
view_by views (Some rank) = slice_index_or views rank None

-- the view of a page, as a list by rank has it
abbrev pub view_in : List ℕ → List (Option (List ℕ)) → ℕ → Option (List ℕ)
view_in numbers views number = view_by views (rank_of numbers number)

-- what a pair names by such views
abbrev pub named_in : ℕ → List ℕ → List (Option (List ℕ)) → Pair → List Target
named_in usable numbers views pair = if_held (view_in numbers views pair.page) pair usable

-- the pairs that are reached as the sums tell it
abbrev pub AreMarked : Sums → List Pair → Type 0
AreMarked sums met = (pair : Pair) → is_in met pair ≡ is_marked_in sums pair

-- from one list of views to another what comes and what goes is put behind the lists
pub record HasTurned (next : ℕ → Option (List ℕ)) (sums : Sums) (usable : ℕ) (numbers : List ℕ) (views now : List (Option (List ℕ))) (come coming gone going : List Target) : Type 0 where
  pub gathers : (before graph : Graph) (met : List Pair) → Apart met → AreMarked sums met → ((pair : Pair) → graph.targets pair ≡ if_held (next pair.page) pair usable)
      → IsGathered before graph met (named_in usable numbers views) come gone → IsGathered before graph met (named_in usable numbers now) coming going
