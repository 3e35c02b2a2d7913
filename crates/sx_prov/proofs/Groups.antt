-- How many bytes of runs are in each group of labels.
use Rattle.std.proofs.Common.{◌≡◌, ℕ, zero, suc, subst, ◌+◌, ◌-◌, ◌*◌, ◌<◌, ◌≤◌, Bool, true, false, cond, List, [], ◌∷◌, ◌++◌, length, get_or, take, replicate, count_by, refl, sym, ap, ◌∙◌, arith}
use Rattle.std.proofs.lemmas.List.{take_more, take_all}
use Rattle.std.proofs.lemmas.List.Sums.{sum_by-append, sum_by-cons, count_by-le-length}
use Rattle.std.proofs.lemmas.List.Folds.{sum_by-replicate}
use Rattle.sx_base.specs.declared.evidence.Span.{Span}
use Rattle.sx_base.specs.declared.label.Label.{Label}
use Rattle.sx_base.specs.declared.label.Label.TheVariants.{DbHeader, LockPage, Reserved, NodeHeader, Pointers, Cell, Entries, TrunkHead, Link, Body, Freeblock, Gap, Fragment, MapRest, TrunkRest, FreeLeaf, Unreached, Tail, BadHead, Absent, DoubleClaim, BadNode, BadArray, BadTrunk, Behind, LongChain, Overlap}
use Rattle.sx_base.specs.Labels.{is_owning, is_fault, is_slack}
use Rattle.sx_prov.specs.Kept.{labels_in, IsKept}
use Rattle.sx_prov.proofs.Kept.{labels_push, length_in, none_in}

-- a label is in one group
pub one_group : (label : Label) → cond (is_owning label) 1 0 + cond (is_fault label) 1 0 + cond (is_slack label) 1 0 ≡ 1
one_group DbHeader = refl
one_group LockPage = refl
one_group Reserved = refl
one_group NodeHeader = refl
one_group Pointers = refl
one_group (Cell index) = refl
one_group Entries = refl
one_group TrunkHead = refl
one_group Link = refl
one_group Body = refl
one_group (Freeblock index) = refl
one_group Gap = refl
one_group Fragment = refl
one_group MapRest = refl
one_group TrunkRest = refl
one_group FreeLeaf = refl
one_group Unreached = refl
one_group Tail = refl
one_group BadHead = refl
one_group Absent = refl
one_group DoubleClaim = refl
one_group BadNode = refl
one_group BadArray = refl
one_group BadTrunk = refl
one_group Behind = refl
one_group LongChain = refl
one_group Overlap = refl

pub all_groups : (labels : List Label) → count_by is_owning labels + count_by is_fault labels + count_by is_slack labels ≡ length labels
all_groups [] = refl
all_groups (label ∷ labels) =
    let owned = sum_by-cons (λ l. cond (is_owning l) 1 0) label labels in
    let fault = sum_by-cons (λ l. cond (is_fault l) 1 0) label labels in
    let slack = sum_by-cons (λ l. cond (is_slack l) 1 0) label labels in
    let one = one_group label in
    let others = all_groups labels in
    omega (arith, owned, fault, slack, one, others)

times_if : (len : ℕ) (b : Bool) → len * cond b 1 0 ≡ cond b len 0
times_if len true = grind arith
times_if len false = grind arith

-- one run more
pub count_more : (p : Label → Bool) (runs seen : List (Span × Label)) (i : ℕ) (d : Span × Label) → seen ≡ runs → i < length seen
    → count_by p (labels_in (take (i + 1) runs)) ≡ count_by p (labels_in (take i runs)) + cond (p (get_or seen i d).1) (get_or seen i d).0.len 0
count_more p runs seen i d same within =
    let run = get_or seen i d in
    let inside : i < length runs = subst (λ (l : List (Span × Label)). i < length l) same within in
    ap (λ some. count_by p (labels_in some)) (take_more runs i d inside ∙ ap (λ (l : List (Span × Label)). take i runs ++ get_or l i d ∷ []) (sym same))
    ∙ ap (count_by p) (labels_push (take i runs) run)
    ∙ sum_by-append (λ label. cond (p label) 1 0) (labels_in (take i runs)) (replicate run.0.len run.1)
    ∙ ap (λ count. count_by p (labels_in (take i runs)) + count) (sum_by-replicate (λ label. cond (p label) 1 0) run.0.len run.1 ∙ times_if run.0.len (p run.1))

front_le : (n : ℕ) (runs : List (Span × Label)) → length (labels_in (take n runs)) ≤ length (labels_in runs)
front_le zero [] = omega arith
front_le (suc n) [] = omega arith
front_le zero (run ∷ runs) = let none = ap length none_in in omega arith
front_le (suc n) (run ∷ runs) =
    let some = length_in run (take n runs) in
    let all = length_in run runs in
    let rest = front_le n runs in
    omega arith

pub count_none : (p : Label → Bool) (runs : List (Span × Label)) → 0 ≡ count_by p (labels_in (take 0 runs))
count_none p [] = ap (count_by p) (sym none_in)
count_none p (run ∷ runs) = ap (count_by p) (sym none_in)

pub count_step : (p : Label → Bool) (runs seen : List (Span × Label)) (i count more : ℕ) (d : Span × Label) → seen ≡ runs → i < length seen
    → count ≡ count_by p (labels_in (take i runs)) → (counts : Bool) → counts ≡ p (get_or seen i d).1 → more ≡ cond counts (get_or seen i d).0.len 0
    → count + more ≡ count_by p (labels_in (take (i + 1) runs))
count_step p runs seen i count more d same within is counts tells by =
    let whole = count_more p runs seen i d same within in
    let len : more ≡ cond (p (get_or seen i d).1) (get_or seen i d).0.len 0 = by ∙ ap (λ b. cond b (get_or seen i d).0.len 0) tells in
    ap (λ n. n + more) is ∙ ap (λ n. count_by p (labels_in (take i runs)) + n) len ∙ sym whole

pub count_fits : (p : Label → Bool) (runs seen : List (Span × Label)) (i count more len : ℕ) (d : Span × Label) → seen ≡ runs → i < length seen → IsKept runs len
    → count ≡ count_by p (labels_in (take i runs)) → (counts : Bool) → counts ≡ p (get_or seen i d).1 → more ≡ cond counts (get_or seen i d).0.len 0
    → count + more ≤ 65536
count_fits p runs seen i count more len d same within kept is counts tells by =
    let whole = count_step p runs seen i count more d same within is counts tells by in
    let below = count_by-le-length p (labels_in (take (i + 1) runs)) in
    let front = front_le (i + 1) runs in
    let long = kept.long in
    let page = kept.page in
    omega (arith, whole, below, front, long, page)

pub slack_is : (labels : List Label) (len owned fault : ℕ) → length labels ≡ len → owned ≡ count_by is_owning labels → fault ≡ count_by is_fault labels
    → len - owned - fault ≡ count_by is_slack labels
slack_is labels len owned fault long own hid = let groups = all_groups labels in omega (arith, groups)

pub count_all : (p : Label → Bool) (runs seen : List (Span × Label)) (i count : ℕ) → seen ≡ runs → length seen ≤ i → count ≡ count_by p (labels_in (take i runs))
    → count ≡ count_by p (labels_in runs)
count_all p runs seen i count same past is =
    is ∙ ap (λ some. count_by p (labels_in some)) (take_all i runs (subst (λ (l : List (Span × Label)). length l ≤ i) same past))
