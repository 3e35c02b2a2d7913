-- What was gathered, as it is given.
use Rattle.std.specs.Prelude.{ℕ, List}
use Rattle.sx_history.specs.declared.found.Found.{Found}
use Rattle.sx_history.specs.declared.listing.History.{History}

-- the rows that were found
abbrev pub items_by : History → List Found
items_by history = history.items.items

-- how many faults there were
abbrev pub faults_by : History → ℕ
faults_by history = history.faults
