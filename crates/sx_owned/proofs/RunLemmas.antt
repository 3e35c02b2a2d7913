-- Runs that lie apart.
use Rattle.std.proofs.Common.{not, ◌≡◌, ℕ, ◌+◌, ◌-◌, ◌<◌, ◌≤◌, min, max, Bool, true, false, ◌&&◌, ◌||◌, nat_le, nat_lt, if◌then◌else◌, List, [], ◌∷◌, ◌++◌, length, Result, Ok, Err, refl, sym, ap, subst, ◌∙◌, arith}
use Rattle.std.proofs.lemmas.Bool.Decides.{nat_tests}
use Rattle.std.specs.Prelude.{OnOk, OnErr}
use Rattle.sx_base.specs.declared.evidence.Span.{Span}
use Rattle.sx_owned.specs.declared.run.Run.{Run}
use Rattle.sx_owned.specs.Runs.{holds, is_owned, Apart, Within, joined, with_run, Extends, gap, free_from}
use Rattle.sx_owned.specs.Spans.{in_span, in_spans}

pub or_false : (a : Bool) → (a || false) ≡ a
or_false true = refl
or_false false = refl

and_false : (a : Bool) → ((a && false) || false) ≡ false
and_false true = refl
and_false false = refl

both_false : (a b c : Bool) → ((a && false) || not c) ≡ not ((b && false) || c)
both_false true true c = refl
both_false true false c = refl
both_false false true c = refl
both_false false false c = refl

or_comm : (a b : Bool) → (a || b) ≡ (b || a)
or_comm true true = refl
or_comm true false = refl
or_comm false true = refl
or_comm false false = refl

or_assoc : (a b c : Bool) → (a || (b || c)) ≡ ((a || b) || c)
or_assoc true b c = refl
or_assoc false b c = refl

-- two runs that touch hold together what the joined one holds
joined_by : (a b c d at : ℕ) → c ≤ b → a ≤ d → a < b → c < d
    → (nat_le (min a c) at && nat_lt at (max b d)) ≡ ((nat_le a at && nat_lt at b) || (nat_le c at && nat_lt at d))
joined_by a b c d at first second some other = grind (arith, nat_tests)

swap : (a b c : Bool) → (a || (b || c)) ≡ ((b || c) || a)
swap a b c = or_comm a (b || c)

shuffle : (a b c : Bool) → (c || (a || b)) ≡ ((a || c) || b)
shuffle true true true = refl
shuffle true true false = refl
shuffle true false true = refl
shuffle true false false = refl
shuffle false true true = refl
shuffle false true false = refl
shuffle false false true = refl
shuffle false false false = refl

third : (a b c : Bool) → ((a || b) || c) ≡ ((a || b) || c)
third a b c = refl

owned_step : (first run : Run) (runs : List Run) (at : ℕ) (before behind : Bool) → nat_lt first.end run.start ≡ before → nat_lt run.end first.start ≡ behind
    → first.start < first.end → run.start < run.end
    → ((other : Run) → other.start < other.end → is_owned (with_run runs other) at ≡ (is_owned runs at || holds at other))
    → is_owned (if before then first ∷ with_run runs run else (if behind then run ∷ first ∷ runs else with_run runs (joined first run))) at
    ≡ ((holds at first || is_owned runs at) || holds at run)
unfolding is_owned
owned_step first run runs at true behind is_before is_behind some other further =
    ap (λ b. holds at first || b) (further run other) ∙ or_assoc (holds at first) (is_owned runs at) (holds at run)
owned_step first run runs at false true is_before is_behind some other further = or_comm (holds at run) (holds at first || is_owned runs at)
owned_step first run runs at false false is_before is_behind some other further =
    let touch : run.start ≤ first.end = grind (arith, nat_tests) in
    let reach : first.start ≤ run.end = grind (arith, nat_tests) in
    let both : holds at (joined first run) ≡ (holds at first || holds at run) = joined_by first.start first.end run.start run.end at touch reach some other in
    further (joined first run) (omega arith)
    ∙ ap (λ b. is_owned runs at || b) both
    ∙ shuffle (holds at first) (holds at run) (is_owned runs at)
    ∙ third (holds at first) (is_owned runs at) (holds at run)

pub owned_more : (runs : List Run) (run : Run) (least at : ℕ) → Apart least runs → run.start < run.end → is_owned (with_run runs run) at ≡ (is_owned runs at || holds at run)
unfolding is_owned with_run
owned_more [] run least at apart some = or_comm (holds at run) false
owned_more (first ∷ runs) run least at apart some =
    owned_step first run runs at (nat_lt first.end run.start) (nat_lt run.end first.start) refl refl apart.1 some
    (λ other more. owned_more runs other (first.end + 1) at apart.2 more)

pub apart_less : (runs : List Run) (least less : ℕ) → Apart least runs → less ≤ least → Apart less runs
apart_less [] least less apart below = tt
apart_less (run ∷ runs) least less apart below = (omega (arith, apart.0), apart.1, apart.2)

apart_step : (first run : Run) (runs : List Run) (least : ℕ) (before behind : Bool) → nat_lt first.end run.start ≡ before → nat_lt run.end first.start ≡ behind
    → Apart least (first ∷ runs) → least ≤ run.start → run.start < run.end
    → ((other : Run) (from : ℕ) → from ≤ other.start → other.start < other.end → Apart from runs → Apart from (with_run runs other))
    → Apart least (if before then first ∷ with_run runs run else (if behind then run ∷ first ∷ runs else with_run runs (joined first run)))
apart_step first run runs least true behind is_before is_behind apart from some further =
    let past : first.end < run.start = grind (arith, nat_tests) in
    (apart.0, apart.1, further run (first.end + 1) (omega arith) some apart.2)
apart_step first run runs least false true is_before is_behind apart from some further =
    let past : run.end < first.start = grind (arith, nat_tests) in
    (from, some, (omega arith, apart.1, apart.2))
apart_step first run runs least false false is_before is_behind apart from some further =
    let low : least ≤ first.start = apart.0 in
    let wide : first.start < first.end = apart.1 in
    let after : Apart least runs = apart_less runs (first.end + 1) least apart.2 (omega arith) in
    further (joined first run) least (omega arith) (omega arith) after

pub apart_more : (runs : List Run) (run : Run) (least : ℕ) → Apart least runs → least ≤ run.start → run.start < run.end → Apart least (with_run runs run)
unfolding with_run
apart_more [] run least apart from some = (from, some, tt)
apart_more (first ∷ runs) run least apart from some =
    apart_step first run runs least (nat_lt first.end run.start) (nat_lt run.end first.start) refl refl apart from some
    (λ other start begins more rest. apart_more runs other start rest begins more)

within_step : (first run : Run) (runs : List Run) (size : ℕ) (before behind : Bool) → nat_lt first.end run.start ≡ before → nat_lt run.end first.start ≡ behind
    → first.end ≤ size → run.end ≤ size → Within size runs → ((other : Run) → other.end ≤ size → Within size (with_run runs other))
    → Within size (if before then first ∷ with_run runs run else (if behind then run ∷ first ∷ runs else with_run runs (joined first run)))
within_step first run runs size true behind is_before is_behind here there rest further = (here, further run there)
within_step first run runs size false true is_before is_behind here there rest further = (there, (here, rest))
within_step first run runs size false false is_before is_behind here there rest further = further (joined first run) (omega arith)

within_more : (runs : List Run) (run : Run) (size : ℕ) → Within size runs → run.end ≤ size → Within size (with_run runs run)
unfolding with_run
within_more [] run size within ends = (ends, tt)
within_more (first ∷ runs) run size within ends =
    within_step first run runs size (nat_lt first.end run.start) (nat_lt run.end first.start) refl refl within.0 ends within.1
    (λ other below. within_more runs other size within.1 below)

-- a run was added
pub extended : (old new : List Run) (run : Run) → Apart 0 old → run.start < run.end → new ≡ with_run old run → Extends old new run
extended old new run apart some is = record {
  owned = λ at. ap (λ runs. is_owned runs at) is ∙ owned_more old run 0 at apart some;
  within = λ size within ends. subst (Within size) (sym is) (within_more old run size within ends);
}

-- and the runs lie apart still
pub apart_added : (old new : List Run) (run : Run) → Apart 0 old → run.start < run.end → new ≡ with_run old run → Apart 0 new
apart_added old new run apart some is = subst (Apart 0) (sym is) (apart_more old run 0 apart (omega arith) some)

pub apart_kept : {E : Type 0} (r : Result (Unit {0}) E) (old new : List Run) (run : Run) → Apart 0 old → run.start < run.end → OnOk r (new ≡ with_run old run) → OnErr r (new ≡ old) → Apart 0 new
apart_kept (Ok done) old new run apart some is same = apart_added old new run apart some is
apart_kept (Err refused) old new run apart some is same = subst (Apart 0) (sym same) apart

-- ---- what is between

gap_none : (from to : ℕ) → to ≤ from → gap from to ≡ []
gap_none from to past = let is : nat_lt from to ≡ false = grind (arith, nat_tests) in rw is refl

gap_one : (from to : ℕ) → from < to → gap from to ≡ record { start = from; len = to - from } ∷ []
gap_one from to before = let is : nat_lt from to ≡ true = grind (arith, nat_tests) in rw is refl

pub no_gap : (from end : ℕ) (runs : List Run) → length runs ≡ 0 → end ≤ from → free_from from end runs ≡ []
unfolding free_from
no_gap from end [] none past = gap_none from end past
no_gap from end (run ∷ runs) none past = absurd (omega arith)

pub last_gap : (from end : ℕ) (runs : List Run) → length runs ≡ 0 → from < end → free_from from end runs ≡ record { start = from; len = end - from } ∷ []
unfolding free_from
last_gap from end [] none before = gap_one from end before
last_gap from end (run ∷ runs) none before = absurd (omega arith)

pub nothing_behind : (end : ℕ) (runs : List Run) → length runs ≡ 0 → free_from end end runs ≡ []
nothing_behind end runs none = no_gap end end runs none (omega arith)

pub skipped : (from end : ℕ) (run : Run) (runs : List Run) → run.start ≤ from → free_from from end (run ∷ runs) ≡ free_from run.end end runs
unfolding free_from
skipped from end run runs past = ap (λ spans. spans ++ free_from run.end end runs) (gap_none from run.start past)

pub one_gap : (from end : ℕ) (run : Run) (runs : List Run) → from < run.start → free_from from end (run ∷ runs) ≡ record { start = from; len = run.start - from } ∷ free_from run.end end runs
unfolding free_from
one_gap from end run runs before = ap (λ spans. spans ++ free_from run.end end runs) (gap_one from run.start before)

pub apart_behind : (run : Run) (runs : List Run) (least : ℕ) → Apart least (run ∷ runs) → Apart run.end runs
apart_behind run runs least apart = apart_less runs (run.end + 1) run.end apart.2 (omega arith)

pub apart_next : (least : ℕ) (left others : List Run) (run : Run) → left ≡ run ∷ others → Apart least left → Apart run.end others
apart_next least left others run is apart = apart_behind run others least (subst (Apart least) is apart)

pub skipped_next : (from end : ℕ) (left others : List Run) (run : Run) → left ≡ run ∷ others → run.start ≤ from → free_from run.end end others ≡ free_from from end left
skipped_next from end left others run is past = sym (ap (free_from from end) is ∙ skipped from end run others past)

-- ---- what is between is what no run holds

pub below_none : (runs : List Run) (least at : ℕ) → Apart least runs → at < least → is_owned runs at ≡ false
unfolding is_owned
below_none [] least at apart below = refl
below_none (run ∷ runs) least at apart below =
    let before : nat_le run.start at ≡ false = let from = apart.0 in grind (arith, nat_tests) in
    rw before (below_none runs (run.end + 1) at apart.2 (omega (arith, apart.0, apart.1)))

spans_append : (first second : List Span) (at : ℕ) → in_spans (first ++ second) at ≡ (in_spans first at || in_spans second at)
unfolding in_spans
spans_append [] second at = refl
spans_append (span ∷ first) second at = ap (λ b. in_span at span || b) (spans_append first second at) ∙ or_assoc (in_span at span) (in_spans first at) (in_spans second at)

gap_by : (from to at : ℕ) (some : Bool) → nat_lt from to ≡ some → in_spans (if some then record { start = from; len = to - from } ∷ [] else []) at ≡ (nat_le from at && nat_lt at to)
unfolding in_spans
gap_by from to at true is =
    let before : from < to = grind (arith, nat_tests) in
    let whole : from + (to - from) ≡ to = omega arith in
    rw whole (or_false (nat_le from at && nat_lt at to))
gap_by from to at false is = grind (arith, nat_tests)

pub gap_holds : (from to at : ℕ) → in_spans (gap from to) at ≡ (nat_le from at && nat_lt at to)
gap_holds from to at = gap_by from to at (nat_lt from to) refl

free_below : (runs : List Run) (from end at : ℕ) → Apart from runs → at < from → in_spans (free_from from end runs) at ≡ false
unfolding free_from
free_below [] from end at apart below = gap_holds from end at ∙ (let no_place : nat_le from at ≡ false = grind (arith, nat_tests) in rw no_place refl)
free_below (run ∷ runs) from end at apart below =
    let no_place : nat_le from at ≡ false = grind (arith, nat_tests) in
    let rest : in_spans (free_from run.end end runs) at ≡ false = free_below runs run.end end at (apart_behind run runs from apart) (omega (arith, apart.0, apart.1)) in
    spans_append (gap from run.start) (free_from run.end end runs) at ∙ rw (gap_holds from run.start at, no_place, rest) refl

free_by : (run : Run) (runs : List Run) (from end at : ℕ) (before within : Bool) → nat_lt at run.start ≡ before → nat_lt at run.end ≡ within → Apart from (run ∷ runs) → from ≤ at
    → (run.end ≤ at → in_spans (free_from run.end end runs) at ≡ not (is_owned runs at))
    → ((nat_le from at && nat_lt at run.start) || in_spans (free_from run.end end runs) at) ≡ not (holds at run || is_owned runs at)
free_by run runs from end at true within is_before is_within apart past further =
    let here : nat_le from at ≡ true = grind (arith, nat_tests) in
    let not_in : nat_le run.start at ≡ false = grind (arith, nat_tests) in
    let low : at < run.start = grind (arith, nat_tests) in
    let none = below_none runs (run.end + 1) at apart.2 (omega (arith, apart.1)) in
    rw (here, is_before, not_in, none) refl
free_by run runs from end at false true is_before is_within apart past further =
    let start : nat_le run.start at ≡ true = grind (arith, nat_tests) in
    let high : at < run.end = grind (arith, nat_tests) in
    let rest = free_below runs run.end end at (apart_behind run runs from apart) high in
    rw (is_before, start, is_within, rest) (and_false (nat_le from at))
free_by run runs from end at false false is_before is_within apart past further =
    let behind : run.end ≤ at = grind (arith, nat_tests) in
    rw (is_before, is_within, further behind) (both_false (nat_le from at) (nat_le run.start at) (is_owned runs at))

pub free_is : (runs : List Run) (from end at : ℕ) → Apart from runs → from ≤ at → at < end → in_spans (free_from from end runs) at ≡ not (is_owned runs at)
unfolding free_from is_owned
free_is [] from end at apart past within =
    let here : nat_le from at ≡ true = grind (arith, nat_tests) in
    let there : nat_lt at end ≡ true = grind (arith, nat_tests) in
    gap_holds from end at ∙ rw (here, there) refl
free_is (run ∷ runs) from end at apart past within =
    spans_append (gap from run.start) (free_from run.end end runs) at
    ∙ ap (λ b. b || in_spans (free_from run.end end runs) at) (gap_holds from run.start at)
    ∙ free_by run runs from end at (nat_lt at run.start) (nat_lt at run.end) refl refl apart past
    (λ behind. free_is runs run.end end at (apart_behind run runs from apart) behind within)
