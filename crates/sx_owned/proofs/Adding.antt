-- One more run among runs that lie apart: those before it stay, those that it touches become one with it, and those behind
-- it stay.
use Rattle.std.proofs.Common.{◌≡◌, ℕ, zero, suc, ◌+◌, ◌-◌, ◌<◌, ◌≤◌, min, Bool, true, false, nat_lt, if◌then◌else◌, List, [], ◌∷◌, ◌++◌, length, take, drop, set, refl, sym, ap, subst, ◌∙◌, append_assoc, append-nil, arith, length-append, length-drop}
use Rattle.std.proofs.lemmas.Bool.Decides.{nat_tests}
use Rattle.std.proofs.lemmas.List.{take_more_set, drop-drop, drop-set-lt, take-append-le, take-append-drop, length-take}
use Rattle.std.proofs.Math.Seq.{take-append-add, take-append_seam, drop-append_seam}
use Rattle.sx_owned.specs.declared.run.Run.{Run}
use Rattle.sx_owned.specs.Runs.{Apart, EndBefore, Reach, Splits, joined, with_run}

-- ---- the runs that end before a place

reach_less : (at less : ℕ) (runs : List Run) → Reach at runs → less ≤ at → Reach less runs
reach_less at less [] reach below = tt
reach_less at less (run ∷ runs) reach below = (omega (arith, reach.0), reach_less at less runs reach.1 below)

pub apart_front : (least : ℕ) (front back : List Run) → Apart least (front ++ back) → Apart least front
apart_front least [] back apart = tt
apart_front least (run ∷ front) back apart = (apart.0, apart.1, apart_front (run.end + 1) front back apart.2)

-- where the last run ends before a place, each does
ends_below : (at least : ℕ) (front : List Run) (last : Run) → Apart least (front ++ (last ∷ [])) → last.end < at → (least < at) × EndBefore at (front ++ (last ∷ []))
ends_below at least [] last apart ends = (omega (arith, apart.0, apart.1), (ends, tt))
ends_below at least (run ∷ front) last apart ends =
    let rest = ends_below at (run.end + 1) front last apart.2 ends in
    (omega (arith, apart.0, apart.1, rest.0), (omega (arith, rest.0), rest.1))

-- the front of runs that was looked at
pub record IsFront (at : ℕ) (runs left : List Run) : Type 0 where
  pub tail : List Run
  pub parts : runs ≡ left ++ tail
  pub reach : Reach at tail

pub reached_start : (at : ℕ) (runs : List Run) → IsFront at runs runs
reached_start at runs = record { tail = []; parts = sym (append-nil runs); reach = tt }

pub reached_more : (at : ℕ) (runs left front : List Run) (last : Run) → left ≡ front ++ (last ∷ []) → at ≤ last.end → IsFront at runs left → IsFront at runs front
reached_more at runs left front last is reaches before = record {
  tail = last ∷ before.tail;
  parts = before.parts ∙ ap (λ runs. runs ++ before.tail) is ∙ append_assoc front (last ∷ []) before.tail;
  reach = (reaches, before.reach);
}

splits_by : (at : ℕ) (runs left : List Run) (front : IsFront at runs left) → EndBefore at left → Splits at runs (length left)
splits_by at runs left front before = record {
  within = rw front.parts (omega (arith, length-append left front.tail));
  before = subst (EndBefore at) (sym (ap (take (length left)) front.parts ∙ take-append_seam left front.tail)) before;
  behind = subst (Reach at) (sym (ap (drop (length left)) front.parts ∙ drop-append_seam left front.tail)) front.reach;
}

pub reached_here : (at : ℕ) (runs left front : List Run) (last : Run) → Apart 0 runs → left ≡ front ++ (last ∷ []) → last.end < at → IsFront at runs left → Splits at runs (length left)
reached_here at runs left front last apart is ends found =
    let apart_left : Apart 0 left = apart_front 0 left found.tail (subst (Apart 0) found.parts apart) in
    splits_by at runs left found (subst (EndBefore at) (sym is) (ends_below at 0 front last (subst (Apart 0) is apart_left) ends).1)

pub reached_all : (at : ℕ) (runs left : List Run) → length left ≡ 0 → IsFront at runs left → Splits at runs (length left)
reached_all at runs [] none found = splits_by at runs [] found tt
reached_all at runs (run ∷ left) none found = absurd (omega arith)

-- ---- the runs that are touched

touched_by : (first run : Run) (runs : List Run) (before behind : Bool) → nat_lt first.end run.start ≡ before → nat_lt run.end first.start ≡ behind
    → run.start ≤ first.end → first.start ≤ run.end
    → (if before then first ∷ with_run runs run else (if behind then run ∷ first ∷ runs else with_run runs (joined first run))) ≡ with_run runs (joined first run)
touched_by first run runs true behind is_before is_behind low high = absurd (let past : first.end < run.start = grind (arith, nat_tests) in omega arith)
touched_by first run runs false true is_before is_behind low high = absurd (let past : run.end < first.start = grind (arith, nat_tests) in omega arith)
touched_by first run runs false false is_before is_behind low high = refl

touched : (first run : Run) (runs : List Run) → run.start ≤ first.end → first.start ≤ run.end → with_run (first ∷ runs) run ≡ with_run runs (joined first run)
unfolding with_run
touched first run runs low high = touched_by first run runs (nat_lt first.end run.start) (nat_lt run.end first.start) refl refl low high

-- what was joined so far, and what is left
pub record IsJoined (runs : List Run) (run all : Run) (count : ℕ) (left : List Run) : Type 0 where
  pub same : with_run left all ≡ with_run runs run
  pub reach : Reach all.start left
  pub rest : left ≡ drop count runs
  pub within : count + length left ≡ length runs

pub joined_start : (runs : List Run) (run : Run) → Reach run.start runs → IsJoined runs run run 0 runs
joined_start runs run reach = record { same = refl; reach = reach; rest = refl; within = omega arith }

rest_behind : (runs left others : List Run) (next : Run) (count : ℕ) → left ≡ drop count runs → left ≡ next ∷ others → others ≡ drop (count + 1) runs
rest_behind runs left others next count rest is =
    ap (drop 1) (sym is ∙ rest) ∙ drop-drop 1 count runs

pub joined_more : (runs left others : List Run) (run all next more : Run) (count : ℕ) → left ≡ next ∷ others → next.start ≤ all.end → more ≡ joined next all → IsJoined runs run all count left → IsJoined runs run more (count + 1) others
joined_more runs left others run all next more count is touches same found =
    let reach : Reach all.start (next ∷ others) = subst (Reach all.start) is found.reach in
    let one : with_run left all ≡ with_run others (joined next all) = ap (λ runs. with_run runs all) is ∙ touched next all others reach.0 touches in
    let long : length left ≡ suc (length others) = ap length is in
    record {
      same = ap (with_run others) same ∙ sym one ∙ found.same;
      reach = rw same (reach_less all.start (min next.start all.start) others reach.1 (omega arith));
      rest = rest_behind runs left others next count found.rest is;
      within = omega (arith, found.within, long);
    }

ahead_by : (first run : Run) (runs : List Run) (before behind : Bool) → nat_lt first.end run.start ≡ before → nat_lt run.end first.start ≡ behind
    → run.start ≤ first.end → run.end < first.start
    → (if before then first ∷ with_run runs run else (if behind then run ∷ first ∷ runs else with_run runs (joined first run))) ≡ run ∷ first ∷ runs
ahead_by first run runs true behind is_before is_behind low high = absurd (let past : first.end < run.start = grind (arith, nat_tests) in omega arith)
ahead_by first run runs false true is_before is_behind low high = refl
ahead_by first run runs false false is_before is_behind low high = absurd (let past : first.start ≤ run.end = grind (arith, nat_tests) in omega arith)

ahead : (first run : Run) (runs : List Run) → run.start ≤ first.end → run.end < first.start → with_run (first ∷ runs) run ≡ run ∷ first ∷ runs
unfolding with_run
ahead first run runs low high = ahead_by first run runs (nat_lt first.end run.start) (nat_lt run.end first.start) refl refl low high

pub joined_here : (runs left others : List Run) (run all next : Run) (count : ℕ) → left ≡ next ∷ others → all.end < next.start → IsJoined runs run all count left → with_run runs run ≡ all ∷ drop count runs
joined_here runs left others run all next count is apart found =
    let reach : Reach all.start (next ∷ others) = subst (Reach all.start) is found.reach in
    sym found.same ∙ ap (λ runs. with_run runs all) is ∙ ahead next all others reach.0 apart ∙ ap (λ runs. all ∷ runs) (sym is ∙ found.rest)

pub joined_end : (runs left : List Run) (run all : Run) (count : ℕ) → length left ≡ 0 → IsJoined runs run all count left → with_run runs run ≡ all ∷ drop count runs
unfolding with_run
joined_end runs [] run all count none found = sym found.same ∙ ap (λ runs. all ∷ runs) found.rest
joined_end runs (next ∷ left) run all count none found = absurd (omega arith)

-- ---- together

past : (first run : Run) (runs : List Run) → first.end < run.start → with_run (first ∷ runs) run ≡ first ∷ with_run runs run
unfolding with_run
past first run runs before = let is : nat_lt first.end run.start ≡ true = grind (arith, nat_tests) in rw is refl

behind_front : (count : ℕ) (runs : List Run) (run : Run) → EndBefore run.start (take count runs) → with_run runs run ≡ take count runs ++ with_run (drop count runs) run
behind_front zero runs run before = refl
behind_front (suc count) [] run before = refl
behind_front (suc count) (first ∷ runs) run before =
    past first run runs before.0 ∙ ap (λ runs. first ∷ runs) (behind_front count runs run before.1)

pub whole : (runs behind : List Run) (run all : Run) (first count : ℕ) → Splits run.start runs first → behind ≡ drop first runs → with_run behind run ≡ all ∷ drop count behind
    → with_run runs run ≡ take first runs ++ (all ∷ drop (first + count) runs)
whole runs behind run all first count splits is same =
    behind_front first runs run splits.before
    ∙ ap (λ rest. take first runs ++ rest) (ap (λ runs. with_run runs run) (sym is) ∙ same ∙ ap (λ rest. all ∷ rest) (ap (drop count) is ∙ drop-drop count first runs))

-- what a run becomes among runs
pub record IsMerged (runs : List Run) (run all : Run) (first last : ℕ) : Type 0 where
  pub same : with_run runs run ≡ take first runs ++ (all ∷ drop last runs)
  pub rises : first ≤ last
  pub within : last ≤ length runs

pub merged_is : (slice runs : List Run) (run all : Run) (first last : ℕ) → slice ≡ runs → with_run slice run ≡ take first slice ++ (all ∷ drop last slice) → first ≤ last → last ≤ length slice → IsMerged runs run all first last
merged_is slice runs run all first last is same rises within =
    subst (λ runs. IsMerged runs run all first last) is (record { same = same; rises = rises; within = within })

pub inserted : (runs new : List Run) (run all : Run) (first last : ℕ) → with_run runs run ≡ take first runs ++ (all ∷ drop last runs) → first ≡ last
    → new ≡ take first runs ++ (all ∷ drop first runs) → new ≡ with_run runs run
inserted runs new run all first last same none is = is ∙ ap (λ n. take first runs ++ (all ∷ drop n runs)) none ∙ sym same

pub replaced : (runs new : List Run) (run all : Run) (first last : ℕ) → with_run runs run ≡ take first runs ++ (all ∷ drop last runs) → first < last → last ≤ length runs
    → new ≡ take (first + 1) (set runs first all) ++ drop last (set runs first all) → new ≡ with_run runs run
replaced runs new run all first last same some within is =
    let there : first < length runs = omega arith in
    is
    ∙ rw (take_more_set runs first all there, drop-set-lt last runs first all some) (append_assoc (take first runs) (all ∷ []) (drop last runs))
    ∙ sym same

-- a gap was closed by turning the runs round twice
take_of_take : (from to : ℕ) (runs : List Run) → from ≤ to → to ≤ length runs → take from (take to runs) ≡ take from runs
take_of_take from to runs rises within =
    let long : length (take to runs) ≡ to = length-take to runs ∙ (omega arith) in
    sym (ap (take from) (sym (take-append-drop to runs)) ∙ take-append-le from (take to runs) (drop to runs) (omega arith))

turned_by : (back front less : List Run) (from behind : ℕ) → behind ≡ length back → less ≡ take (behind + from) (back ++ front) → drop behind less ++ take behind less ≡ take from front ++ back
turned_by back front less from behind is is_less =
    let parts : less ≡ back ++ take from front = is_less ∙ ap (λ n. take (n + from) (back ++ front)) is ∙ take-append-add back front from in
    rw (parts, is, drop-append_seam back (take from front), take-append_seam back (take from front)) refl

pub closed : (runs less new : List Run) (from to behind : ℕ) → from ≤ to → to ≤ length runs → behind ≡ length runs - to → less ≡ take (behind + from) (drop to runs ++ take to runs)
    → new ≡ drop behind less ++ take behind less → new ≡ take from runs ++ drop to runs
closed runs less new from to behind rises within is_behind is_less is_new =
    let long : behind ≡ length (drop to runs) = is_behind ∙ sym (length-drop to runs) in
    is_new
    ∙ turned_by (drop to runs) (take to runs) less from behind long is_less
    ∙ ap (λ front. front ++ drop to runs) (take_of_take from to runs rises within)
