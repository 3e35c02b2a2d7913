-- How many claims hold a byte of a page. Bytes count from 0.
use Rattle.std.specs.Prelude.{◌≡◌, ℕ, ◌+◌, ◌<◌, Bool, ◌&&◌, nat_le, nat_lt, List, [], ◌∷◌, ◌++◌, length, filter, slice_index_or}
use Rattle.sx_base.specs.declared.label.Label.{Label}
use Rattle.sx_base.specs.declared.evidence.Span.{Span}
use Rattle.sx_seglist.specs.declared.claimed.Claimed.{Claimed}
use Rattle.sx_seglist.specs.declared.claimed.Claimed.TheVariants.{None, One, Many}

-- a claim holds the bytes of its span
abbrev pub holds : ℕ → Span × Label → Bool
holds at claim = nat_le claim.0.start at && nat_lt at (claim.0.start + claim.0.len)

-- what no claim, one claim, two or more claims make of a byte
abbrev pub tally : List (Span × Label) → Claimed
tally [] = None
tally (claim ∷ []) = One claim.1
tally (claim ∷ other ∷ claims) = Many

-- what a list of claims makes of a byte: all those that hold it are counted
unfoldable pub claimed_by : List (Span × Label) → ℕ → Claimed
claimed_by claims at = tally (filter (holds at) claims)

-- each byte is what the claims make of it
abbrev pub AreCounted : List (Span × Label) → List Claimed → Type 0
AreCounted claims states = (at : ℕ) → at < length states → slice_index_or states at None ≡ claimed_by claims at

-- the same page; whatever claims were counted in its bytes, one claim more is counted in them now
pub record Counts (old new : List Claimed) (claim : Span × Label) : Type 0 where
  pub len : length new ≡ length old
  pub counted : (claims : List (Span × Label)) → AreCounted claims old → AreCounted (claims ++ claim ∷ []) new

-- what is claimed of a byte when a claim of this label holds it besides
abbrev pub once_more : Label → Claimed → Claimed
once_more label None = One label
once_more label (One other) = Many
once_more label Many = Many
