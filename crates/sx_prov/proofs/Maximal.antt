-- The runs of labels are the maximal ones, and no other list is.
use Rattle.std.proofs.Common.{◌≡◌, ◌≢◌, ℕ, zero, suc, ◌+◌, ◌<◌, Bool, true, false, cond, List, [], ◌∷◌, ◌++◌, replicate, refl, sym, ap, subst, ◌∙◌, arith}
use Rattle.std.proofs.lemmas.Bool.{false≢true}
use Rattle.sx_base.specs.declared.evidence.Span.{Span}
use Rattle.sx_base.specs.declared.label.Label.{Label}
use Rattle.sx_prov.specs.Runs.{is_same, run_of, joined, runs_from, runs_of, BeginOther, AreRuns}
use Rattle.sx_prov.specs.Kept.{labels_in, NextOther, Follow}
use Rattle.sx_prov.proofs.Same.{same_is, same_self, other_is}

-- ---- no other list

joined_other : (at : ℕ) (label : Label) (runs : List (Span × Label)) → NextOther label runs → joined at label runs ≡ run_of at 1 label ∷ runs
joined_other at label [] other = refl
joined_other at label (run ∷ runs) other = rw (other_is label run.1 other) refl

joined_same : (at len : ℕ) (label : Label) (runs : List (Span × Label)) → joined at label (run_of (at + 1) len label ∷ runs) ≡ run_of at (len + 1) label ∷ runs
joined_same at len label runs = rw (same_self label) refl

runs_repeat : (more at : ℕ) (label : Label) (labels : List Label) (runs : List (Span × Label)) → runs_from (at + suc more) labels ≡ runs → NextOther label runs
    → runs_from at (replicate (suc more) label ++ labels) ≡ run_of at (suc more) label ∷ runs
unfolding runs_from
runs_repeat zero at label labels runs is other = ap (joined at label) is ∙ joined_other at label runs other
runs_repeat (suc more) at label labels runs is other =
    let next : at + suc (suc more) ≡ at + 1 + suc more = omega arith in
    let rest = runs_repeat more (at + 1) label labels runs (subst (λ from. runs_from from labels ≡ runs) next is) other in
    let long : suc more + 1 ≡ suc (suc more) = omega arith in
    ap (joined at label) rest ∙ joined_same at (suc more) label runs ∙ ap (λ len. run_of at len label ∷ runs) long

begins_next : (at : ℕ) (label : Label) (labels : List Label) (runs : List (Span × Label)) → AreRuns at labels runs → BeginOther label labels → NextOther label runs
begins_next at label labels [] are other = tt
begins_next at label labels (run ∷ runs) are other = begin_of run.0.len (are.1).1 (subst (BeginOther label) (are.1).2 other)
  where
    begin_of : (len : ℕ) → 0 < len → BeginOther label (replicate len run.1 ++ are.0) → label ≢ run.1
    begin_of zero some begin = absurd (omega arith)
    begin_of (suc len) some begin = begin

run_is : (run : Span × Label) (at : ℕ) → run.0.start ≡ at → run_of at run.0.len run.1 ≡ run
run_is run at is = ap (λ start. run_of start run.0.len run.1) (sym is)

repeat_by : (len at : ℕ) (label : Label) (labels : List Label) (runs : List (Span × Label)) → 0 < len → runs_from (at + len) labels ≡ runs → NextOther label runs
    → runs_from at (replicate len label ++ labels) ≡ run_of at len label ∷ runs
repeat_by zero at label labels runs some is other = absurd (omega arith)
repeat_by (suc more) at label labels runs some is other = runs_repeat more at label labels runs is other

pub only_runs : (at : ℕ) (labels : List Label) (runs : List (Span × Label)) → AreRuns at labels runs → runs ≡ runs_from at labels
unfolding runs_from
only_runs at labels [] are = sym (ap (runs_from at) are)
only_runs at labels (run ∷ runs) are =
    let rest = are.0 in
    let facts = are.1 in
    let more = only_runs (at + run.0.len) rest runs facts.4 in
    let whole = repeat_by run.0.len at run.1 rest runs facts.1 (sym more) (begins_next (at + run.0.len) run.1 rest runs facts.4 facts.3) in
    sym (ap (runs_from at) facts.2 ∙ whole ∙ ap (λ first. first ∷ runs) (run_is run at facts.0))

-- ---- they are maximal

begin_other : (label other : Label) (len : ℕ) (labels rest : List Label) → is_same label other ≡ false → 0 < len → labels ≡ replicate len other ++ rest → BeginOther label labels
begin_other label other zero labels rest differ some is = absurd (omega arith)
begin_other label other (suc len) labels rest differ some is =
    subst (BeginOther label) (sym is) (λ same. false≢true (sym differ ∙ ap (is_same label) (sym same) ∙ same_self label))

same_case : (at : ℕ) (label : Label) (labels : List Label) (run : Span × Label) (runs : List (Span × Label)) → AreRuns (at + 1) labels (run ∷ runs) → (b : Bool) → is_same label run.1 ≡ b
    → AreRuns at (label ∷ labels) (cond b (run_of at (run.0.len + 1) label ∷ runs) (run_of at 1 label ∷ run ∷ runs))
same_case at label labels run runs are true same =
    let facts = are.1 in
    let is : run.1 ≡ label = sym (same_is label run.1 same) in
    let more : suc run.0.len ≡ run.0.len + 1 = omega arith in
    let all : label ∷ labels ≡ replicate (suc run.0.len) label ++ are.0 =
    ap (λ others. label ∷ others) (facts.2 ∙ ap (λ other. replicate run.0.len other ++ are.0) is) in
    let behind : at + 1 + run.0.len ≡ at + (run.0.len + 1) = omega arith in (
      are.0,
      (
        refl,
        omega arith,
        all ∙ ap (λ len. replicate len label ++ are.0) more,
        subst (λ other. BeginOther other are.0) is facts.3,
        subst (λ from. AreRuns from are.0 runs) behind facts.4,
      ),
    )
same_case at label labels run runs are false differ =
    let facts = are.1 in
    (labels, (refl, omega arith, refl, begin_other label run.1 run.0.len labels are.0 differ facts.1 facts.2, are))

front_case : (at : ℕ) (label : Label) (labels : List Label) (runs : List (Span × Label)) → AreRuns (at + 1) labels runs → AreRuns at (label ∷ labels) (joined at label runs)
front_case at label labels [] are = ([], (refl, omega arith, ap (λ rest. label ∷ rest) are, tt, refl))
front_case at label labels (run ∷ runs) are = same_case at label labels run runs are (is_same label run.1) refl

pub runs_are : (at : ℕ) (labels : List Label) → AreRuns at labels (runs_from at labels)
unfolding runs_from
runs_are at [] = refl
runs_are at (label ∷ labels) = front_case at label labels (runs_from (at + 1) labels) (runs_are (at + 1) labels)

-- ---- runs that are kept

next_begins : (at : ℕ) (label : Label) (runs : List (Span × Label)) → Follow at runs → NextOther label runs → BeginOther label (labels_in runs)
unfolding labels_in
next_begins at label [] follow other = tt
next_begins at label (run ∷ runs) follow other = begin_of run.0.len follow.1
  where
    begin_of : (len : ℕ) → 0 < len → BeginOther label (replicate len run.1 ++ labels_in runs)
    begin_of zero some = absurd (omega arith)
    begin_of (suc len) some = other

kept_are : (at : ℕ) (runs : List (Span × Label)) → Follow at runs → AreRuns at (labels_in runs) runs
unfolding labels_in
kept_are at [] follow = refl
kept_are at (run ∷ runs) follow =
    (labels_in runs, (follow.0, follow.1, refl, next_begins (at + run.0.len) run.1 runs follow.3 follow.2, kept_are (at + run.0.len) runs follow.3))

pub kept_runs : (runs : List (Span × Label)) → Follow 0 runs → runs ≡ runs_of (labels_in runs)
kept_runs runs follow = only_runs 0 (labels_in runs) runs (kept_are 0 runs follow)
