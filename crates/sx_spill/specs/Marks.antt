-- How many pages follow one another, noted by page while chains are gone along. No definition of an answer goes through it.
use Rattle.std.specs.Prelude.{◌≡◌, ◌⊎◌, ℕ, zero, suc, ◌+◌, Bool, true, false, nat_eq, List, [], ◌∷◌, Option, None, Some}
use Rattle.std.specs.List.{list_any}
use Rattle.sx_spill.specs.Chains.{link_of, has_chain, are_distinct}

-- so many distinct pages follow one another from a number on, and no more
pub record Reaches (view : ℕ → Option (List ℕ)) (number len : ℕ) : Type 0 where
  pub whole : has_chain view number len ≡ true
  pub end : has_chain view number (len + 1) ≡ false

-- numbers of pages that lead from one number to another, each page by its first word
abbrev pub IsTrail : (ℕ → Option (List ℕ)) → ℕ → List ℕ → ℕ → Type 0
IsTrail view from [] to = to ≡ from
IsTrail view from (number ∷ trail) to = (number ≡ from) × (page : List ℕ) × (view number ≡ Some page) × IsTrail view (link_of page) trail to

-- a page is noted, other than with 0
abbrev pub is_settled : Option ℕ → Bool
is_settled None = false
is_settled (Some zero) = false
is_settled (Some (suc n)) = true

-- a number is that of a page that is settled, or of none
abbrev pub IsPassed : (ℕ → Option (List ℕ)) → (ℕ → Option ℕ) → ℕ → Type 0
IsPassed view marks number = (is_settled (marks number) ≡ true) ⊎ (view number ≡ None)

-- the pages of a trail are noted with 0; of every other page that is noted it is said how many follow one another from it on,
-- and the page behind it is settled too
pub record IsNoted (view : ℕ → Option (List ℕ)) (trail : List ℕ) (marks : ℕ → Option ℕ) : Type 0 where
  pub right : (number len : ℕ) → marks number ≡ Some (suc len) → Reaches view number (suc len)
  pub half : (number : ℕ) → marks number ≡ Some 0 → list_any (nat_eq number) trail ≡ true
  pub there : (number : ℕ) → list_any (nat_eq number) trail ≡ true → marks number ≡ Some 0
  pub closed : (number : ℕ) (page : List ℕ) → is_settled (marks number) ≡ true → view number ≡ Some page → IsPassed view marks (link_of page)

-- the same where no chain is being gone along
abbrev pub IsKnown : (ℕ → Option (List ℕ)) → (ℕ → Option ℕ) → Type 0
IsKnown view marks = IsNoted view [] marks

-- on the way out: a trail of distinct pages leads from a link to a number
pub record IsOut (view : ℕ → Option (List ℕ)) (link at : ℕ) (trail : List ℕ) (marks : ℕ → Option ℕ) : Type 0 where
  pub leads : IsTrail view link trail at
  pub apart : are_distinct trail ≡ true
  pub noted : IsNoted view trail marks

-- on the way back: besides, it is known how many follow one another from there on
pub record IsBack (view : ℕ → Option (List ℕ)) (link at len : ℕ) (trail : List ℕ) (marks : ℕ → Option ℕ) : Type 0 where
  pub out : IsOut view link at trail marks
  pub passed : IsPassed view marks at
  pub reaches : Reaches view at len
