-- What the trees of a table hold under a rowid, moment after moment: what is kept on the way of a sweep.
use Rattle.std.specs.Prelude.{◌≡◌, ℕ, ℤ, ◌-◌, ◌≤◌, List, map, Option, None, Some, ⊤}
use Rattle.sx_base.specs.declared.moment.Moment.{Moment}
use Rattle.sx_history.specs.History.{faults_of, found_of}
use Rattle.sx_history.specs.Standing.{Walk}
use Rattle.sx_moment.specs.Gathered.{Gathered, size_at}
use Rattle.sx_moment.specs.Sweep.{Swept, moment_at}
use Rattle.sx_moment.specs.Views.{view_of}
use Rattle.sx_schema.specs.Entries.{Entry}

-- the moments of a case as far as they were gone over, the rowid that is looked for, and the entries of the schema that was read
-- last, if one was
pub record OverSweep : Type 0 where
  pub swept : Swept
  pub rowid : ℤ
  pub entries : Option (List Entry)

-- the walk over trees stands at a moment
pub record IsAt (case : Gathered) (moment : Moment) (numbers : List ℕ) (rowid : ℤ) (walk : Walk) : Type 0 where
  pub numbers_are : walk.numbers ≡ numbers
  pub rowid_is : walk.rowid ≡ rowid
  pub views_are : walk.views ≡ map (view_of case moment) numbers

-- it stands at the last settled moment, where there was a tree at one
abbrev pub IsBehind : Swept → ℤ → Option Walk → Type 0
IsBehind swept rowid None = ⊤
IsBehind swept rowid (Some walk) = (1 ≤ swept.settled) × IsAt swept.case (moment_at swept.case (swept.settled - 1)) swept.numbers rowid walk

-- it stands at a moment, and has what the tree of this root says there
pub record Says (case : Gathered) (moment : Moment) (numbers : List ℕ) (usable root : ℕ) (rowid : ℤ) (walk : Walk) : Type 0 where
  pub stands : IsAt case moment numbers rowid walk
  pub found : walk.found ≡ found_of (size_at case moment) (view_of case moment) usable root rowid
  pub faults : walk.faults ≡ faults_of (size_at case moment) (view_of case moment) usable root
