-- Targets may be added and taken back list by list.
use Rattle.std.specs.Prelude.{◌≡◌, List, [], ◌++◌, refl}
use Rattle.std.proofs.Common.{sym}
use Rattle.std.proofs.lemmas.List.Sums.{fold-append}
use Rattle.sx_closure.specs.declared.pair.Target.{Target}
use Rattle.sx_follow.specs.Rising.{Rise, rose, rose_all}
use Rattle.sx_follow.specs.Falling.{Fall, fell, fell_all}

pub rose_none : (state : Rise) → rose_all state [] ≡ state
unfolding rose_all
rose_none state = refl

pub rose_joins : (state : Rise) (some others : List Target) → rose_all (rose_all state some) others ≡ rose_all state (some ++ others)
unfolding rose_all
rose_joins state some others = sym (fold-append rose state some others)

pub fell_none : (state : Fall) → fell_all state [] ≡ state
unfolding fell_all
fell_none state = refl

pub fell_joins : (state : Fall) (some others : List Target) → fell_all (fell_all state some) others ≡ fell_all state (some ++ others)
unfolding fell_all
fell_joins state some others = sym (fold-append fell state some others)
