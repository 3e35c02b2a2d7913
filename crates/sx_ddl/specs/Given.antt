-- What a reading gives: what its definition gives, unless memory runs out.
use Rattle.std.specs.Prelude.{◌≡◌, Result, Ok, Err}
use Rattle.sx_ddl.specs.declared.refused.DdlRefused.{DdlRefused}
use Rattle.sx_ddl.specs.declared.refused.DdlRefused.TheVariants.{NotTable, Unknown, Generated, Memory}

-- a result is the expected one, by what it shows, unless memory ran out
abbrev pub Gives : {A B : Type 0} → Result A DdlRefused → Result B DdlRefused → (B → A) → Type 0
Gives expected (Ok value) shown = expected ≡ Ok (shown value)
Gives expected (Err NotTable) shown = expected ≡ Err NotTable
Gives expected (Err (Unknown place)) shown = expected ≡ Err (Unknown place)
Gives expected (Err Generated) shown = expected ≡ Err Generated
Gives expected (Err Memory) shown = Unit {0}
