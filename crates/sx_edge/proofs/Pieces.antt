-- Pieces that are written or read one after the other.
use Rattle.std.proofs.Common.{◌≡◌, ℕ, ◌+◌, ◌-◌, List, ◌++◌, length, take, drop, Option, sym, ◌∙◌, ap, subst}
use Rattle.std.proofs.Math.Seq.{take-add}
use Rattle.std.proofs.lemmas.List.{take_rest}
use Rattle.std.proofs.KnownBytes.{Appends-trans}
use Rattle.std.specs.Io.KnownBytes.{Appends}

-- a front was written, and then a front of the rest
pub appended_further : (first now next : Option (List ℕ)) (piece : List ℕ) (done n : ℕ)
    → Appends first now (take done piece)
    → Appends now next (take n (take (length piece - done) (drop done piece)))
    → Appends first next (take (done + n) piece)
appended_further first now next piece done n before more =
    let joined : take done piece ++ take n (take (length piece - done) (drop done piece)) ≡ take (done + n) piece =
    ap (λ l. take done piece ++ take n l) (take_rest piece done) ∙ sym (take-add done n piece) in
    subst (Appends first next) joined (Appends-trans first now next _ _ before more)
