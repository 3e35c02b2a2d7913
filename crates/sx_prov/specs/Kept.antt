-- How the labels of a page are kept: as runs that follow one another.
use Rattle.std.specs.Prelude.{◌≡◌, ◌≢◌, ℕ, ◌+◌, ◌<◌, ◌≤◌, List, [], ◌∷◌, ◌++◌, length, replicate}
use Rattle.sx_base.specs.declared.evidence.Span.{Span}
use Rattle.sx_base.specs.declared.label.Label.{Label}

-- the labels of the bytes of runs
unfoldable pub labels_in : List (Span × Label) → List Label
labels_in [] = []
labels_in (run ∷ runs) = replicate run.0.len run.1 ++ labels_in runs

-- runs don't begin with this label
abbrev pub NextOther : Label → List (Span × Label) → Type 0
NextOther label [] = Unit {0}
NextOther label (run ∷ runs) = label ≢ run.1

-- from a place on the runs follow one another: each has a byte, and the next one has another label
abbrev pub Follow : ℕ → List (Span × Label) → Type 0
Follow at [] = Unit {0}
Follow at (run ∷ runs) = (run.0.start ≡ at) × (0 < run.0.len) × NextOther run.1 runs × Follow (at + run.0.len) runs

-- the runs of a page of that length
pub record IsKept (runs : List (Span × Label)) (len : ℕ) : Type 0 where
  pub follow : Follow 0 runs
  pub long : length (labels_in runs) ≡ len
  pub page : len ≤ 65536
