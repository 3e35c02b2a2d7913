-- A store of named files: what its calls answer, where it tells its contents and the bytes left of the started file.
use Rattle.std.specs.Prelude.{◌≡◌, ℕ, ◌+◌, min, Bool, true, false, List, [], Option, Some, None, Result, Ok, Err, IsSome, IfSome}
use Rattle.std.specs.Io.KnownBytes.{IsAtEnd}
use Rattle.sx_base.specs.declared.evidence.Failed.{Failed}
use Rattle.sx_base.specs.Causes.{last_count}
use Rattle.sx_base.specs.Files.{Files, file_named}

-- a start answers whether the contents have the name; then that file's bytes are left, and else nothing is
abbrev pub Starts : Option Files → List ℕ → Option (List ℕ) → Result Bool Failed → Type 0
Starts contents name left (Ok true) = IfSome contents (λ files. IsSome left × (left ≡ file_named files name))
Starts contents name left (Ok false) =
    IsAtEnd left × IfSome contents (λ files. (left ≡ Some []) × (file_named files name ≡ None))
Starts contents name left (Err failed) = IsAtEnd left × IfSome contents (λ _. left ≡ Some [])

-- the start answered that there is no such file
abbrev pub answers_absent : Result Bool Failed → Bool
answers_absent (Ok true) = false
answers_absent (Ok false) = true
answers_absent (Err failed) = false

-- how many bytes were given since the last start, after a read; the count stands still at its last value
abbrev pub given_after : ℕ → Result ℕ Failed → ℕ
given_after before (Ok n) = min (before + n) last_count
given_after before (Err failed) = before
