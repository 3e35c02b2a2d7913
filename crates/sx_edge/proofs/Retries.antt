-- Calls that changed nothing, and then one that did.
use Rattle.std.proofs.Common.{ℕ, List, ◌++◌, Option, None, Some, Result, Ok, Err, take, sym, ◌∙◌, ap}
use Rattle.std.proofs.KnownBytes.{Keeps-trans}
use Rattle.std.specs.Io.KnownBytes.{Keeps, Appends, Consumes, ReadConsumes, WriteAppends}

pub kept_twice : (a b c : Option (List ℕ)) → Keeps a b → Keeps b c → Keeps a c
kept_twice a b c = Keeps-trans a b c

kept_then_consumed : (a b c : Option (List ℕ)) (bytes : List ℕ) → Keeps a b → Consumes b c bytes → Consumes a c bytes
kept_then_consumed None b c bytes kept consumed = tt
kept_then_consumed (Some xs) None c bytes kept consumed = absurd kept
kept_then_consumed (Some xs) (Some ys) None bytes kept consumed = absurd consumed
kept_then_consumed (Some xs) (Some ys) (Some zs) bytes kept consumed = sym kept ∙ consumed

kept_then_appended : (a b c : Option (List ℕ)) (bytes : List ℕ) → Keeps a b → Appends b c bytes → Appends a c bytes
kept_then_appended None b c bytes kept appended = tt
kept_then_appended (Some xs) None c bytes kept appended = absurd kept
kept_then_appended (Some xs) (Some ys) None bytes kept appended = absurd appended
kept_then_appended (Some xs) (Some ys) (Some zs) bytes kept appended = appended ∙ ap (λ l. l ++ bytes) kept

pub kept_then_read : {E : Type 0} (a b c : Option (List ℕ)) (result : Result ℕ E) (buf : List ℕ)
    → Keeps a b → ReadConsumes b c result buf → ReadConsumes a c result buf
kept_then_read a b c (Ok n) buf kept read = (kept_then_consumed a b c (take n buf) kept read.0, read.1)
kept_then_read a b c (Err e) buf kept read = Keeps-trans a b c kept read

pub kept_then_written : {E : Type 0} (a b c : Option (List ℕ)) (result : Result ℕ E) (piece : List ℕ)
    → Keeps a b → WriteAppends b c result piece → WriteAppends a c result piece
kept_then_written a b c (Ok n) piece kept written = kept_then_appended a b c (take n piece) kept written
kept_then_written a b c (Err e) piece kept written = Keeps-trans a b c kept written
