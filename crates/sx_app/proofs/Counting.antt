-- How many items an iterator gives, which shows the list of those that are left.
use Rattle.std.proofs.Common.{◌≡◌, suc, List, [], ◌∷◌, length, sym, ap, ◌∙◌}
use Rattle.std.specs.Iterator.{Drains, Yields, YieldsFirst}

given : {A : Type 0} (s xs t : List A) → Yields (YieldsFirst (λ (l : List A). l)) s xs t → t ≡ [] → length xs ≡ length s
given s [] t same none = sym (ap length (same ∙ none))
given s (x ∷ xs) t goes none = ap suc (given goes.0 xs t goes.2 none) ∙ sym (ap length goes.1)

pub drained : {A : Type 0} (s xs : List A) → Drains (YieldsFirst (λ (l : List A). l)) s xs → length xs ≡ length s
drained s xs drains = given s xs drains.1.0 drains.1.1 drains.1.2.0
