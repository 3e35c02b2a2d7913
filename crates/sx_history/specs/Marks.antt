-- The pages that a walk over a tree may go to, as marks by rank: the rank of a page is its place in a list of numbers.
use Rattle.std.specs.Prelude.{◌≡◌, ◌⊎◌, ℕ, ◌+◌, ◌<◌, ◌≤◌, Bool, true, false, not, List, [], length, count_by, slice_index, slice_index_or, Option, None, Some, ⊤}
use Rattle.std.specs.List.{Contains}
use Rattle.sx_history.specs.Closed.{AllNamed, IsLinked}

-- the rank is marked
abbrev pub is_marked : List Bool → ℕ → Bool
is_marked marks rank = slice_index_or marks rank false

-- a page that has a rank is marked
abbrev pub IsNoted : List ℕ → List Bool → ℕ → Type 0
IsNoted numbers marks number =
    Contains numbers number → (rank : ℕ) × (rank < length numbers) × (slice_index numbers rank ≡ number) × (is_marked marks rank ≡ true)

-- what was marked is
abbrev pub AreKept : List Bool → List Bool → Type 0
AreKept before now = (rank : ℕ) → is_marked before rank ≡ true → is_marked now rank ≡ true

-- some ranks more are marked, and each of them stands on a list of those that are to be looked at
pub record Grows (before now : List Bool) (work more : List ℕ) : Type 0 where
  pub long : length now ≡ length before
  pub kept : AreKept before now
  pub fresh : (rank : ℕ) → is_marked now rank ≡ true → (is_marked before rank ≡ true) ⊎ Contains more rank
  pub listed : (rank : ℕ) → Contains work rank → Contains more rank
  pub count : count_by not now + length more ≡ count_by not before + length work

-- the view of a rank
abbrev pub view_at : List (Option (List ℕ)) → ℕ → Option (List ℕ)
view_at views rank = slice_index_or views rank None

-- what each b-tree page of a marked rank names is marked, but of those that are to be looked at
abbrev pub AreNamedBut : List ℕ → List (Option (List ℕ)) → ℕ → List Bool → List Bool → List ℕ → Type 0
AreNamedBut numbers views usable nodes chains work =
    (rank : ℕ) → rank < length numbers → is_marked nodes rank ≡ true
    → Contains work rank ⊎ AllNamed (IsNoted numbers nodes) (IsNoted numbers chains) usable (slice_index numbers rank) (view_at views rank)

-- what each overflow page of a marked rank links to is marked, but of those that are to be looked at
abbrev pub AreLinkedBut : List ℕ → List (Option (List ℕ)) → List Bool → List ℕ → Type 0
AreLinkedBut numbers views chains work =
    (rank : ℕ) → rank < length numbers → is_marked chains rank ≡ true → Contains work rank ⊎ IsLinked (IsNoted numbers chains) (view_at views rank)

-- the root is marked, and with each marked page what it leads to
pub record AreMarked (numbers : List ℕ) (views : List (Option (List ℕ))) (usable root : ℕ) (nodes chains : List Bool) : Type 0 where
  pub at_root : IsNoted numbers nodes root
  pub named : AreNamedBut numbers views usable nodes chains []
  pub linked : AreLinkedBut numbers views chains []

-- a page has the usable bytes, and is no larger than a page may be
abbrev pub IsWhole : ℕ → Option (List ℕ) → Type 0
IsWhole usable None = ⊤
IsWhole usable (Some page) = (usable ≤ length page) × (length page ≤ 65536)

-- so has the page of each rank
abbrev pub AreWhole : ℕ → List (Option (List ℕ)) → Type 0
AreWhole usable views = (rank : ℕ) → IsWhole usable (view_at views rank)
