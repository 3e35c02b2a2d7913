-- The three groups of labels. Each label belongs to exactly one of them.
use Rattle.std.specs.Prelude.{Bool, true, false, not, ◌&&◌}
use Rattle.sx_base.specs.declared.label.Label.{Label}
use Rattle.sx_base.specs.declared.label.Label.TheVariants.{DbHeader, LockPage, Reserved, NodeHeader, Pointers, Cell, Entries, TrunkHead, Link, Body, BadHead, Absent, DoubleClaim, BadNode, BadArray, BadTrunk, Behind, LongChain, Overlap}

-- what the database uses
abbrev pub is_owning : Label → Bool
is_owning DbHeader = true
is_owning LockPage = true
is_owning Reserved = true
is_owning NodeHeader = true
is_owning Pointers = true
is_owning (Cell index) = true
is_owning Entries = true
is_owning TrunkHead = true
is_owning Link = true
is_owning Body = true
is_owning _ = false

-- what can't be said, and why
abbrev pub is_fault : Label → Bool
is_fault BadHead = true
is_fault Absent = true
is_fault DoubleClaim = true
is_fault BadNode = true
is_fault BadArray = true
is_fault BadTrunk = true
is_fault Behind = true
is_fault LongChain = true
is_fault Overlap = true
is_fault _ = false

-- what the database leaves unused
abbrev pub is_slack : Label → Bool
is_slack label = not (is_owning label) && not (is_fault label)
