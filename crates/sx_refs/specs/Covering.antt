-- Page numbers among which the pages of a moment are.
use Rattle.std.specs.Prelude.{◌≡◌, ℕ, true, List, Option, is_some}
use Rattle.std.specs.List.{Contains}

-- each page that has a view is among the numbers
abbrev pub Covers : List ℕ → (ℕ → Option (List ℕ)) → Type 0
Covers numbers view = (number : ℕ) → is_some (view number) ≡ true → Contains numbers number
