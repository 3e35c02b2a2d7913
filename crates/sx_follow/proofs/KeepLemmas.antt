-- The sums of pages that aren't named stay, target by target.
use Rattle.std.proofs.Common.{◌≡◌, ℕ, ◌+◌, ◌-◌, ◌==◌, false, List, [], ◌∷◌, ◌++◌, fold, get_or, set, Option, Some, None, IfSome, refl, sym, ap, subst, ◌∙◌}
use Rattle.std.proofs.lemmas.Bool.{or_parts, eq-eqb, false≢true}
use Rattle.std.proofs.lemmas.List.{get_or-set_other}
use Rattle.std.proofs.lemmas.List.Folds.{list_any-append}
use Rattle.sx_closure.specs.declared.pair.Pair.{Pair}
use Rattle.sx_closure.specs.declared.pair.Target.{Target}
use Rattle.sx_closure.specs.Tallying.{rank_of}
use Rattle.sx_closure.proofs.Putting.{one_rank}
use Rattle.sx_follow.specs.declared.sums.Sum.{Sum}
use Rattle.sx_follow.specs.Sums.{nothing, plus, minus, Sums, sum_at, added_at, added, taken_at, taken}
use Rattle.sx_follow.specs.Following.{sum_of}
use Rattle.sx_follow.specs.Rising.{Rise, rose, rose_all}
use Rattle.sx_follow.specs.Falling.{Fall, fell, fell_all}
use Rattle.sx_follow.specs.Keeping.{has_page, AreKeptBut, Keeps}
use Rattle.sx_follow.specs.declared.followed.Followed.{Followed}

-- a sum that is set is that of no other page
set_case : (all : Sums) (page other rank : ℕ) (sum : Sum) (o : Option ℕ) → rank_of all.held page ≡ Some rank → rank_of all.held other ≡ o
    → (page ≡ other → ⊥) → sum_at (record all { sums = set all.sums rank sum }) o ≡ sum_at all o
set_case all page other rank sum None ranked at differ = refl
set_case all page other rank sum (Some place) ranked at differ =
    get_or-set_other all.sums rank place sum nothing (λ same. differ (one_rank all.held page other rank ranked (at ∙ ap Some same)))

dead_case : (all : Sums) (dead : ℕ) (o : Option ℕ) → sum_at (record all { dead = dead }) o ≡ sum_at all o
dead_case all dead None = refl
dead_case all dead (Some place) = refl

not_equal : (page other : ℕ) → (page == other) ≡ false → page ≡ other → ⊥
not_equal page other none same = false≢true (sym none ∙ eq-eqb page other same)

added_case : (all : Sums) (target : Target) (page : ℕ) (o : Option ℕ) → rank_of all.held target.pair.page ≡ o → (target.pair.page == page) ≡ false
    → sum_of (added_at all target o) page ≡ sum_of all page
added_case all target page None ranked other = dead_case all (all.dead + 1) (rank_of all.held page)
added_case all target page (Some rank) ranked other =
    set_case all target.pair.page page rank (plus (get_or all.sums rank nothing) target) (rank_of all.held page) ranked refl (not_equal target.pair.page page other)

added_other : (all : Sums) (target : Target) (page : ℕ) → (target.pair.page == page) ≡ false → sum_of (added all target) page ≡ sum_of all page
unfolding added
added_other all target page other = added_case all target page (rank_of all.held target.pair.page) refl other

taken_case : (all : Sums) (target : Target) (page : ℕ) (o : Option ℕ) → rank_of all.held target.pair.page ≡ o → (target.pair.page == page) ≡ false
    → sum_of (taken_at all target o) page ≡ sum_of all page
taken_case all target page None ranked other = dead_case all (all.dead - 1) (rank_of all.held page)
taken_case all target page (Some rank) ranked other =
    set_case all target.pair.page page rank (minus (get_or all.sums rank nothing) target) (rank_of all.held page) ranked refl (not_equal target.pair.page page other)

taken_other : (all : Sums) (target : Target) (page : ℕ) → (target.pair.page == page) ≡ false → sum_of (taken all target) page ≡ sum_of all page
unfolding taken
taken_other all target page other = taken_case all target page (rank_of all.held target.pair.page) refl other

-- ---- lists

pub keeps_same : (some : List Pair) (all : Sums) → Keeps some all some all
keeps_same some all = λ page none. (none, refl)

pub keeps_trans : (some more most : List Pair) (one two three : Sums) → Keeps some one more two → Keeps more two most three → Keeps some one most three
keeps_trans some more most one two three first second = λ page none.
    let later = second page none in
    let before = first page later.0 in
    (before.0, later.1 ∙ before.1)

-- with one pair more neither the others nor that one is the page
push_parts : (pairs : List Pair) (pair : Pair) (page : ℕ) → has_page (pairs ++ pair ∷ []) page ≡ false → (has_page pairs page ≡ false) × ((pair.page == page) ≡ false)
push_parts pairs pair page none =
    let whole = or_parts (has_page pairs page) (has_page (pair ∷ []) page) (sym (list_any-append (λ p. p.page == page) pairs (pair ∷ [])) ∙ none) in
    (whole.0, (or_parts (pair.page == page) false whole.1).0)

rose_keeps : (state : Rise) (target : Target) → Keeps state.named state.sums (rose state target).named (rose state target).sums
unfolding rose
rose_keeps state target = λ page none.
    let parts = push_parts state.named target.pair page none in
    (parts.0, added_other state.sums target page parts.1)

fold_rose : (state : Rise) (targets : List Target) → Keeps state.named state.sums (fold rose state targets).named (fold rose state targets).sums
fold_rose state [] = keeps_same state.named state.sums
fold_rose state (target ∷ targets) =
    let next = rose state target in
    let end = fold rose next targets in
    keeps_trans state.named next.named end.named state.sums next.sums end.sums (rose_keeps state target) (fold_rose next targets)

pub rose_all_keeps : (state : Rise) (targets : List Target) → Keeps state.named state.sums (rose_all state targets).named (rose_all state targets).sums
unfolding rose_all
rose_all_keeps state targets = fold_rose state targets

fell_keeps : (state : Fall) (target : Target) → Keeps state.lost state.sums (fell state target).lost (fell state target).sums
unfolding fell
fell_keeps state target = λ page none.
    let parts = push_parts state.lost target.pair page none in
    (parts.0, taken_other state.sums target page parts.1)

fold_fell : (state : Fall) (targets : List Target) → Keeps state.lost state.sums (fold fell state targets).lost (fold fell state targets).sums
fold_fell state [] = keeps_same state.lost state.sums
fold_fell state (target ∷ targets) =
    let next = fell state target in
    let end = fold fell next targets in
    keeps_trans state.lost next.lost end.lost state.sums next.sums end.sums (fell_keeps state target) (fold_fell next targets)

pub fell_all_keeps : (state : Fall) (targets : List Target) → Keeps state.lost state.sums (fell_all state targets).lost (fell_all state targets).sums
unfolding fell_all
fell_all_keeps state targets = fold_fell state targets

-- a loop's step with what one pair names
pub rise_keeps : (first before now : Rise) (targets : List Target) → Keeps first.named first.sums before.named before.sums → now ≡ rose_all before targets
    → Keeps first.named first.sums now.named now.sums
rise_keeps first before now targets kept made =
    subst (λ state. Keeps first.named first.sums state.named state.sums) (sym made)
    (keeps_trans first.named before.named (rose_all before targets).named first.sums before.sums (rose_all before targets).sums kept (rose_all_keeps before targets))

pub fall_keeps : (first before now : Fall) (targets : List Target) → Keeps first.lost first.sums before.lost before.sums → now ≡ fell_all before targets
    → Keeps first.lost first.sums now.lost now.sums
fall_keeps first before now targets kept made =
    subst (λ state. Keeps first.lost first.sums state.lost state.sums) (sym made)
    (keeps_trans first.lost before.lost (fell_all before targets).lost first.sums before.sums (fell_all before targets).sums kept (fell_all_keeps before targets))

-- ---- all of it

abbrev IsKeptBy : (all : Sums) → (rise : Rise) → (fall : Fall) → Type 0
IsKeptBy all rise fall = (page : ℕ) → has_page rise.named page ≡ false → has_page fall.lost page ≡ false → sum_of fall.sums page ≡ sum_of all page

both_kept : (all : Sums) (come gone : List Target) (begun risen : Rise) (left fallen : Fall) → begun ≡ rose_all (record { sums = all; named = []; todo = [] }) come
    → Keeps begun.named begun.sums risen.named risen.sums → left ≡ fell_all (record { sums = risen.sums; lost = []; todo = [] }) gone
    → Keeps left.lost left.sums fallen.lost fallen.sums → IsKeptBy all risen fallen
both_kept all come gone begun risen left fallen made rose took fell = λ page none_named none_lost.
    let first : Rise = record { sums = all; named = []; todo = [] } in
    let second : Fall = record { sums = risen.sums; lost = []; todo = [] } in
    let up = rise_keeps first first begun come (keeps_same first.named first.sums) made in
    let down = fall_keeps second second left gone (keeps_same second.lost second.sums) took in
    let low = fell page none_lost in
    let high = rose page none_named in
    low.1 ∙ (down page low.0).1 ∙ high.1 ∙ (up page high.0).1

pub followed_kept : (all : Sums) (come gone : List Target) (begun risen : Rise) (left fallen : Fall) (found : Option Followed)
    → begun ≡ rose_all (record { sums = all; named = []; todo = [] }) come → Keeps begun.named begun.sums risen.named risen.sums
    → left ≡ fell_all (record { sums = risen.sums; lost = []; todo = [] }) gone → Keeps left.lost left.sums fallen.lost fallen.sums
    → IfSome found (λ it. it.sums ≡ fallen.sums) → IfSome found (λ it. it.named.items ≡ risen.named) → IfSome found (λ it. it.lost.items ≡ fallen.lost)
    → IfSome found (λ it. AreKeptBut it.named.items it.lost.items all it.sums)
followed_kept all come gone begun risen left fallen None made rose took fell sums named lost = sums
followed_kept all come gone begun risen left fallen (Some it) made rose took fell sums named lost = λ page none_named none_lost.
    ap (λ some. sum_of some page) sums
    ∙ both_kept all come gone begun risen left fallen made rose took fell page (ap (λ pairs. has_page pairs page) (sym named) ∙ none_named)
    (ap (λ pairs. has_page pairs page) (sym lost) ∙ none_lost)

pub ifsome_named : (found : Option Followed) (some more : List Pair) → IfSome found (λ it. it.named.items ≡ some) → some ≡ more → IfSome found (λ it. it.named.items ≡ more)
ifsome_named None some more is same = is
ifsome_named (Some it) some more is same = is ∙ same
