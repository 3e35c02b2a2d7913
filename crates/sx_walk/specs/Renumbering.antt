-- How many bytes of a payload are still to come at each overflow page, numbered anew where references changed ("Cell Payload
-- Overflow Pages").
use Rattle.std.specs.Prelude.{◌≡◌, ℕ, ◌-◌, ◌==◌, Bool, true, false, List, Option, Some, None}
use Rattle.std.specs.List.{Contains, list_any, All}
use Rattle.sx_base.specs.declared.role.Role.TheVariants.{Overflow}
use Rattle.sx_closure.specs.Chains.{page_before, is_overflow}
use Rattle.sx_closure.specs.Tallying.{Table, rank_of, count_at, one_at, number_at, left_at, ruled}
use Rattle.sx_refs.specs.Pages.{if_held}

-- the rank is one of these, where there is one
abbrev pub is_listed : List ℕ → Option ℕ → Bool
is_listed ranks None = false
is_listed ranks (Some rank) = list_any (λ other. other == rank) ranks

-- the page has one of these ranks
abbrev pub is_touched : List ℕ → List ℕ → ℕ → Bool
is_touched numbers ranks page = is_listed ranks (rank_of numbers page)

-- two tables say the same but for the number of one page
pub record SayButNumber (own : ℕ) (before now : Table) : Type 0 where
  pub count : (page : ℕ) → count_at now page ≡ count_at before page
  pub one : (page : ℕ) → one_at now page ≡ one_at before page
  pub number : (page : ℕ) → (own ≡ page → ⊥) → number_at now page ≡ number_at before page
  pub dead : now.dead ≡ before.dead

-- a list has what another has, and maybe more
abbrev pub Grows : List ℕ → List ℕ → Type 0
Grows some more = (item : ℕ) → Contains some item → Contains more item

-- two tables say the same but for the numbers of the pages of these ranks
pub record Renumbers (numbers ranks : List ℕ) (before now : Table) : Type 0 where
  pub count : (page : ℕ) → count_at now page ≡ count_at before page
  pub one : (page : ℕ) → one_at now page ≡ one_at before page
  pub number : (page : ℕ) → is_touched numbers ranks page ≡ false → number_at now page ≡ number_at before page
  pub dead : now.dead ≡ before.dead

-- an overflow page has the number that its one reference gives it, by that of the page before
abbrev pub IsRuled : Table → ℕ → ℕ → Type 0
IsRuled table body page = is_overflow (one_at table page) ≡ true → left_at table page ≡ ruled body table page

-- and where that is a page, some bytes are still to come there, unless it has no number
abbrev pub GoesOn : Table → ℕ → Type 0
GoesOn table page = (before : ℕ) → is_overflow (one_at table page) ≡ true → page_before (one_at table page) ≡ Some before → left_at table before ≡ Some 0 → ⊥

-- what it names as an overflow page is ruled too
pub record HoldsAt (view : ℕ → Option (List ℕ)) (usable : ℕ) (table : Table) (page : ℕ) : Type 0 where
  pub ruled : IsRuled table (usable - 4) page
  pub goes_on : GoesOn table page
  pub behind : All (λ target. IsRuled table (usable - 4) target.pair.page) (if_held (view page) (record { page = page; role = Overflow }) usable)

-- the pages of these ranks are numbered anew, and the numbers fit those of all pages that they touch
pub record IsRenumbered (view : ℕ → Option (List ℕ)) (usable : ℕ) (numbers ranks : List ℕ) (before now : Table) : Type 0 where
  pub renumbers : Renumbers numbers ranks before now
  pub holds : (page : ℕ) → is_touched numbers ranks page ≡ true → HoldsAt view usable now page
