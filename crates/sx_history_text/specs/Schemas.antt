-- The schemas of the moments of a case: what is kept on the way.
use Rattle.std.specs.Prelude.{◌≡◌, List, Option}
use Rattle.sx_moment.specs.Sweep.{Swept}
use Rattle.sx_schema.specs.Entries.{Entry}

-- the moments of a case as far as they were gone over, and the entries of the schema that was read last, if one was
pub record Reads : Type 0 where
  pub swept : Swept
  pub entries : Option (List Entry)

-- two sweeps over one case stand at the same place
pub record AreInStep (one other : Swept) : Type 0 where
  pub case : other.case ≡ one.case
  pub place : other.place ≡ one.place
