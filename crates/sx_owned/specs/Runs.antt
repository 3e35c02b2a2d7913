-- Sets of places of one image, kept as runs that lie apart.
use Rattle.std.specs.Prelude.{◌≡◌, ℕ, ◌+◌, ◌-◌, ◌<◌, ◌≤◌, min, max, Bool, ◌&&◌, ◌||◌, nat_le, nat_lt, if◌then◌else◌, List, [], ◌∷◌, ◌++◌, length, take, drop}
use Rattle.std.specs.List.{list_any}
use Rattle.sx_base.specs.declared.evidence.Span.{Span}
use Rattle.sx_owned.specs.declared.run.Run.{Run}

-- a run holds a place
abbrev pub holds : ℕ → Run → Bool
holds at run = nat_le run.start at && nat_lt at run.end

-- some run holds a place
unfoldable pub is_owned : List Run → ℕ → Bool
is_owned runs at = list_any (holds at) runs

-- the runs rise from a place on, none is empty, and none touches the next
abbrev pub Apart : ℕ → List Run → Type 0
Apart least [] = Unit {0}
Apart least (run ∷ runs) = (least ≤ run.start) × (run.start < run.end) × Apart (run.end + 1) runs

-- each run ends by this place
abbrev pub Within : ℕ → List Run → Type 0
Within size [] = Unit {0}
Within size (run ∷ runs) = (run.end ≤ size) × Within size runs

-- each run ends before a place
abbrev pub EndBefore : ℕ → List Run → Type 0
EndBefore at [] = Unit {0}
EndBefore at (run ∷ runs) = (run.end < at) × EndBefore at runs

-- each run ends at a place or behind it
abbrev pub Reach : ℕ → List Run → Type 0
Reach at [] = Unit {0}
Reach at (run ∷ runs) = (at ≤ run.end) × Reach at runs

-- so many runs at the front end before a place, and the others don't
pub record Splits (at : ℕ) (runs : List Run) (count : ℕ) : Type 0 where
  pub within : count ≤ length runs
  pub before : EndBefore at (take count runs)
  pub behind : Reach at (drop count runs)

-- the places of both and those between
abbrev pub joined : Run → Run → Run
joined a b = record { start = min a.start b.start; end = max a.end b.end }

-- one more run
unfoldable pub with_run : List Run → Run → List Run
with_run [] run = run ∷ []
with_run (first ∷ runs) run =
    if nat_lt first.end run.start then first ∷ with_run runs run
    else (if nat_lt run.end first.start then run ∷ first ∷ runs
    else with_run runs (joined first run))

-- the places from before and those of the run
pub record Extends (old new : List Run) (run : Run) : Type 0 where
  pub owned : (at : ℕ) → is_owned new at ≡ (is_owned old at || holds at run)
  pub within : (size : ℕ) → Within size old → run.end ≤ size → Within size new

-- the span between two places, if there is one
abbrev pub gap : ℕ → ℕ → List Span
gap from to = if nat_lt from to then record { start = from; len = to - from } ∷ [] else []

-- what is between the runs, from a place on up to the end
unfoldable pub free_from : ℕ → ℕ → List Run → List Span
free_from from end [] = gap from end
free_from from end (run ∷ runs) = gap from run.start ++ free_from run.end end runs
