-- The maximal spans of the places below a size that pass a test.
use Rattle.std.specs.Prelude.{◌≡◌, ℕ, ◌+◌, ◌-◌, ◌<◌, ◌≤◌, Bool, true, false, ◌&&◌, nat_le, nat_lt, List, [], ◌∷◌, All}
use Rattle.std.specs.List.{list_any}
use Rattle.sx_base.specs.declared.evidence.Span.{Span}

-- a span holds a place
abbrev pub in_span : ℕ → Span → Bool
in_span at span = nat_le span.start at && nat_lt at (span.start + span.len)

-- some span holds a place
unfoldable pub in_spans : List Span → ℕ → Bool
in_spans spans at = list_any (in_span at) spans

-- each place of the span passes, it has one, and neither the place before it nor the one behind it passes
pub record IsMaximal (size : ℕ) (passes : ℕ → Bool) (span : Span) : Type 0 where
  pub some : 0 < span.len
  pub within : span.start + span.len ≤ size
  pub each : (at : ℕ) → span.start ≤ at → at < span.start + span.len → passes at ≡ true
  pub before : 0 < span.start → passes (span.start - 1) ≡ false
  pub behind : span.start + span.len < size → passes (span.start + span.len) ≡ false

-- the spans stand in order, from a place on
abbrev pub Rise : ℕ → List Span → Type 0
Rise least [] = Unit {0}
Rise least (span ∷ spans) = (least ≤ span.start) × Rise (span.start + span.len) spans

-- the spans are all the maximal ones, in order
pub record AreMaximal (size : ℕ) (passes : ℕ → Bool) (spans : List Span) : Type 0 where
  pub maximal : All (IsMaximal size passes) spans
  pub all : (at : ℕ) → at < size → in_spans spans at ≡ passes at
  pub order : Rise 0 spans
