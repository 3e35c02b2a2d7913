-- What the trees of a table hold under a rowid, moment after moment: where it stands.
use Rattle.std.specs.Prelude.{◌≡◌, ℕ, ℤ, ◌+◌, List, Option, ⊤}
use Rattle.std.specs.Option.{option_map}
use Rattle.sx_base.specs.declared.moment.Moment.{Moment}
use Rattle.sx_moment.specs.Gathered.{Gathered}
use Rattle.sx_schema.specs.Entries.{Entry}
use Rattle.sx_schema.specs.Given.{entries_by}
use Rattle.sx_history_text.specs.Trees.{OverSweep}
use Rattle.sx_history_text.specs.declared.trees.Way.{Way}
use Rattle.sx_history_text.specs.declared.trees.Way.TheVariants.{Swept, Alone}

-- a case at one of its moments, and the place of that moment in their list, from 0; the rowid that is looked for; and the entries
-- of the schema that was read last, if one was
pub record Tracked : Type 0 where
  pub case : Gathered
  pub place : ℕ
  pub moment : Moment
  pub rowid : ℤ
  pub entries : Option (List Entry)

-- it went on to the next moment of the list
pub record Follows (before now : Tracked) : Type 0 where
  pub case : now.case ≡ before.case
  pub place : now.place ≡ before.place + 1

-- the entries of the schema that was read last
abbrev pub entries_last : Way → Option (List Entry)
entries_last (Swept trees) = trees.entries
entries_last (Alone schema) = option_map entries_by schema

-- what goes by a sweep stands at the same place of the same case, for the same rowid
pub record AreTogether (case : Gathered) (place : ℕ) (rowid : ℤ) (trees : OverSweep) : Type 0 where
  pub case_is : trees.swept.case ≡ case
  pub place_is : trees.swept.place ≡ place
  pub rowid_is : trees.rowid ≡ rowid

-- so it is where there is a sweep
abbrev pub IsTogether : Gathered → ℕ → ℤ → Way → Type 0
IsTogether case place rowid (Swept trees) = AreTogether case place rowid trees
IsTogether case place rowid (Alone schema) = ⊤
