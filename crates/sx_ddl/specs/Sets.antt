-- Ordered sets of names.
use Rattle.std.specs.Prelude.{ℕ, Bool, List, Vec}
use Rattle.std.specs.Ordering.{nat_cmp}
use Rattle.std.specs.Cmp.Lexicographic.{slice_cmp}
use Rattle.std.specs.BTreeSet.{BTreeSet, contains_by}
use Rattle.std.specs.declared.alloc.Global.{Global}

-- a set has a name
abbrev pub contains_name : BTreeSet (Vec ℕ Global) → List ℕ → Bool
contains_name set name = contains_by (λ key. slice_cmp nat_cmp name key.items) set
