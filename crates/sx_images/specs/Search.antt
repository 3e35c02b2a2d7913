-- How the code finds a byte's thing. No definition of an answer goes through it.
use Rattle.std.specs.Prelude.{◌≡◌, ℕ, zero, suc, ◌<◌, ◌≤◌, List, [], ◌∷◌, Option, None, Some, if◌then◌else◌, ◌==◌}
use Rattle.sx_images.specs.declared.physical.Physical.{Physical}
use Rattle.sx_images.specs.declared.physical.Physical.TheVariants.{Image}
use Rattle.sx_images.specs.declared.stretch.Stretch.{Stretch}

-- the first of two answers
abbrev pub or_else : Option Physical → Option Physical → Option Physical
or_else None other = other
or_else (Some physical) other = Some physical

-- the runs begin in rising order, from a place on
abbrev pub Heads : ℕ → List Stretch → Type 0
Heads least [] = Unit {0}
Heads least (run ∷ rest) = (least ≤ run.head) × Heads run.head rest

-- so many runs begin at an offset or before it, and the others don't
abbrev pub IsReached : ℕ → List Stretch → ℕ → Type 0
IsReached offset [] number = number ≡ 0
IsReached offset (run ∷ rest) zero = offset < run.head
IsReached offset (run ∷ rest) (suc number) = (run.head ≤ offset) × IsReached offset rest number

-- the image whose first byte this is
abbrev pub begun : Option Physical → Option ℕ
begun (Some (Image i b)) = if b == 0 then Some i else None
begun _ = None
