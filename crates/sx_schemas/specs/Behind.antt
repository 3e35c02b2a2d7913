-- The schema of the moment in hand, after that of the last settled one.
use Rattle.std.specs.Prelude.{◌≡◌, ℕ, ◌-◌, ◌≤◌, List, map, Option, None, Some, ⊤}
use Rattle.sx_base.specs.declared.moment.Moment.{Moment}
use Rattle.sx_bytes.specs.declared.encoding.Encoding.{Encoding}
use Rattle.sx_history.specs.Schemas.{WalkedSchema}
use Rattle.sx_moment.specs.Gathered.{Gathered, size_at}
use Rattle.sx_moment.specs.Sweep.{Swept, moment_at}
use Rattle.sx_moment.specs.Views.{view_of}
use Rattle.sx_schema.specs.Entries.{schema_of}

-- the walk over schemas stands at a moment
pub record HasViews (case : Gathered) (moment : Moment) (numbers : List ℕ) (walk : WalkedSchema) : Type 0 where
  pub numbers_are : walk.numbers ≡ numbers
  pub views_are : walk.views ≡ map (view_of case moment) numbers

-- it stands at the last settled moment, where a schema was read at one
abbrev pub IsReadBehind : Swept → Option WalkedSchema → Type 0
IsReadBehind swept None = ⊤
IsReadBehind swept (Some walk) = (1 ≤ swept.settled) × HasViews swept.case (moment_at swept.case (swept.settled - 1)) swept.numbers walk

-- it stands at a moment, and has its schema
pub record TellsSchema (case : Gathered) (moment : Moment) (numbers : List ℕ) (usable : ℕ) (encoding : Encoding) (walk : WalkedSchema) : Type 0 where
  pub stands : HasViews case moment numbers walk
  pub entries : walk.entries ≡ schema_of (size_at case moment) (view_of case moment) usable encoding
