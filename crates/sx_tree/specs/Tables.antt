-- The table that is filled while the pages of a tree are found: each held page that was named, in the order in which they
-- were named first, and whether it was named again. No clause of a public call names it.
use Rattle.std.specs.Prelude.{◌≡◌, ℕ, ◌||◌, Bool, false, List, [], ◌∷◌, ◌++◌, Option, is_some, unwrap_or, map, nat_eq, if◌then◌else◌}
use Rattle.std.specs.List.{list_any}
use Rattle.std.specs.Map.{lookup}

-- the table where that page was named again
abbrev pub named_again : List (ℕ × Bool) → ℕ → List (ℕ × Bool)
named_again table number = map (λ entry. (entry.0, nat_eq number entry.0 || entry.1)) table

-- the table after one more name
unfoldable pub with_name : List (ℕ × Bool) → ℕ → List (ℕ × Bool)
with_name table number =
    if is_some (lookup (nat_eq number) table) then named_again table number else table ++ (number, false) ∷ []

-- the table after one more name, where a page that isn't held is left out
unfoldable pub noted : (ℕ → Bool) → List (ℕ × Bool) → ℕ → List (ℕ × Bool)
noted held table number = if held number then with_name table number else table

-- the table of these pages, where `marks` says of each whether it was named again
abbrev pub entries_of : (ℕ → Option Bool) → List ℕ → List (ℕ × Bool)
entries_of marks order = map (λ number. (number, unwrap_or (marks number) false)) order

-- there are marks of exactly these pages
pub record IsMarked (marks : ℕ → Option Bool) (order : List ℕ) : Type 0 where
  pub there : (number : ℕ) → is_some (marks number) ≡ list_any (nat_eq number) order
