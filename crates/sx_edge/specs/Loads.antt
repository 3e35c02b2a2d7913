-- What loading a whole file answers.
use Rattle.std.specs.Prelude.{◌≡◌, ℕ, ◌<◌, ◌≤◌, List, length, Option, Some, None, Result, Ok, Err, IsSome, IfSome, IsSomeAnd, IsErrOf, ⊤}
use Rattle.std.specs.declared.alloc.Global.{Global}
use Rattle.std.specs.declared.vec.Vec.{Vec}
use Rattle.sx_base.specs.Causes.{Rose}
use Rattle.sx_base.specs.Files.{Files, file_named}
use Rattle.sx_edge.specs.declared.whole_file.TheConstants.{GREATEST_FILE}
use Rattle.sx_edge.specs.declared.whole_file.LoadRefused.{LoadRefused}
use Rattle.sx_edge.specs.declared.whole_file.LoadRefused.TheVariants.{TooLarge, ReadFault, Memory}

-- a file as it was loaded, or none of that name
abbrev pub Loaded : Type 0
Loaded = Result (Option (Vec ℕ Global)) LoadRefused

-- what the answer says of the told contents: none of the name; its bytes; more bytes than the limit; a file of the name
abbrev pub Loads : Option Files → List ℕ → Loaded → Type 0
Loads contents name (Ok None) = IfSome contents (λ files. file_named files name ≡ None)
Loads contents name (Ok (Some bytes)) =
    IfSome contents (λ files. (file_named files name ≡ Some bytes.items) × (length bytes.items ≤ GREATEST_FILE))
Loads contents name (Err TooLarge) =
    IfSome contents (λ files. IsSomeAnd (file_named files name) (λ bytes. GREATEST_FILE < length bytes))
Loads contents name (Err Memory) = IfSome contents (λ files. IsSome (file_named files name))
Loads contents name (Err ReadFault) = ⊤

-- the count of faults didn't fall, and where a read fault is the answer it rose
pub record HasReadCause {T : Type 0} (before now : ℕ) (result : Result T LoadRefused) : Type 0 where
  pub later : before ≤ now
  pub failed : IsErrOf result ReadFault → Rose before now
