-- How many overflow pages follow one another, noted by page ("Cell Payload Overflow Pages").
use Rattle.std.specs.Prelude.{◌≡◌, ◌⊎◌, ℕ, true, List, length, Option, Some, nat_eq}
use Rattle.std.specs.List.{list_any}
use Rattle.sx_overflow.specs.Chains.{chain_of}

-- each number that is noted of a page is the length of the chain from that page on, counted up to `most`
abbrev pub IsKnown : (ℕ → Option (List ℕ)) → ℕ → (ℕ → Option ℕ) → Type 0
IsKnown view most marks = (number len : ℕ) → marks number ≡ Some len → len ≡ length (chain_of view number most)

-- the same, but that the pages of a trail are noted with the greatest number until the end of their chain is found
abbrev pub IsHalf : (ℕ → Option (List ℕ)) → ℕ → List ℕ → (ℕ → Option ℕ) → Type 0
IsHalf view most trail marks = (number len : ℕ) → marks number ≡ Some len
    → (len ≡ length (chain_of view number most)) ⊎ ((list_any (nat_eq number) trail ≡ true) × (len ≡ most))
