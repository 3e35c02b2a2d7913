-- What is between runs that lie apart: the maximal spans of the places that they don't hold.
use Rattle.std.proofs.Common.{not, ◌≡◌, ℕ, ◌+◌, ◌-◌, ◌<◌, ◌≤◌, Bool, true, false, ◌&&◌, ◌||◌, nat_le, nat_lt, if◌then◌else◌, List, [], ◌∷◌, ◌++◌, refl, sym, ap, ◌∙◌, arith}
use Rattle.std.proofs.lemmas.Bool.Decides.{nat_tests}
use Rattle.std.proofs.lemmas.List.Elements.{All-nil, All-cons, All-append}
use Rattle.std.specs.Prelude.{All}
use Rattle.sx_base.specs.declared.evidence.Span.{Span}
use Rattle.sx_owned.specs.declared.run.Run.{Run}
use Rattle.sx_owned.specs.Runs.{is_owned, Apart, Within, gap, free_from}
use Rattle.sx_owned.specs.Spans.{IsMaximal, Rise, AreMaximal}
use Rattle.sx_owned.proofs.RunLemmas.{apart_behind, below_none, free_is}

-- from a place on the places that pass are those that no run holds, and the place before it doesn't pass
record Agrees (size from : ℕ) (passes : ℕ → Bool) (runs : List Run) : Type 0 where
  pub same : (at : ℕ) → from ≤ at → at < size → passes at ≡ not (is_owned runs at)
  pub before : 0 < from → passes (from - 1) ≡ false

gap_by : (from to size : ℕ) (passes : ℕ → Bool) (some : Bool) → nat_lt from to ≡ some → to ≤ size
    → ((at : ℕ) → from ≤ at → at < to → passes at ≡ true) → (0 < from → passes (from - 1) ≡ false) → (to < size → passes to ≡ false)
    → All (IsMaximal size passes) (if some then record { start = from; len = to - from } ∷ [] else [])
gap_by from to size passes true is within each before behind =
    let below : from < to = grind (arith, nat_tests) in
    let whole : from + (to - from) ≡ to = omega arith in
    All-cons (IsMaximal size passes) (record { start = from; len = to - from }) [] (record {
      some = omega arith;
      within = omega arith;
      each = λ at low high. each at low (omega arith);
      before = before;
      behind = λ inside. rw whole (behind (omega arith));
    }) (All-nil (IsMaximal size passes))
gap_by from to size passes false is within each before behind = All-nil (IsMaximal size passes)

gap_maximal : (from to size : ℕ) (passes : ℕ → Bool) → to ≤ size
    → ((at : ℕ) → from ≤ at → at < to → passes at ≡ true) → (0 < from → passes (from - 1) ≡ false) → (to < size → passes to ≡ false)
    → All (IsMaximal size passes) (gap from to)
gap_maximal from to size passes within each before behind = gap_by from to size passes (nat_lt from to) refl within each before behind

held : (run : Run) (runs : List Run) (at : ℕ) → run.start ≤ at → at < run.end → is_owned (run ∷ runs) at ≡ true
unfolding is_owned
held run runs at low high =
    let first : nat_le run.start at ≡ true = grind (arith, nat_tests) in
    let second : nat_lt at run.end ≡ true = grind (arith, nat_tests) in
    rw (first, second) refl

behind_run : (run : Run) (runs : List Run) (at : ℕ) → run.end ≤ at → is_owned (run ∷ runs) at ≡ is_owned runs at
unfolding is_owned
behind_run run runs at past = let second : nat_lt at run.end ≡ false = grind (arith, nat_tests) in none_by (nat_le run.start at) (nat_lt at run.end) (is_owned runs at) second
  where
    none_by : (a b c : Bool) → b ≡ false → ((a && b) || c) ≡ c
    none_by true b c none = rw none refl
    none_by false b c none = refl

maximal_from : (runs : List Run) (from size : ℕ) (passes : ℕ → Bool) → Apart from runs → Within size runs → Agrees size from passes runs → All (IsMaximal size passes) (free_from from size runs)
unfolding free_from is_owned
maximal_from [] from size passes apart within agrees =
    gap_maximal from size size passes (omega arith) (λ at low high. agrees.same at low high) agrees.before (λ past. absurd (omega arith))
maximal_from (run ∷ runs) from size passes apart within agrees =
    let low : from ≤ run.start = apart.0 in
    let some : run.start < run.end = apart.1 in
    let inside : run.end ≤ size = within.0 in
    All-append (IsMaximal size passes) (gap from run.start) (free_from run.end size runs)
    (gap_maximal from run.start size passes (omega arith)
    (λ at past below. agrees.same at past (omega arith) ∙ ap not (below_none (run ∷ runs) run.start at (omega arith, apart.1, apart.2) below))
    agrees.before
    (λ past. agrees.same run.start low past ∙ ap not (held run runs run.start (omega arith) some)))
    (maximal_from runs run.end size passes (apart_behind run runs from apart) within.1 (record {
      same = λ at past below. agrees.same at (omega arith) below ∙ ap not (behind_run run runs at past);
      before = λ positive. agrees.same (run.end - 1) (omega arith) (omega arith) ∙ ap not (held run runs (run.end - 1) (omega arith) (omega arith));
    }))

-- they stand in order
rise_less : (spans : List Span) (least less : ℕ) → Rise least spans → less ≤ least → Rise less spans
rise_less [] least less rise below = tt
rise_less (span ∷ spans) least less rise below = (omega (arith, rise.0), rise.1)

rise_by : (from to least end : ℕ) (rest : List Span) (some : Bool) → nat_lt from to ≡ some → least ≤ from → to ≤ end → from ≤ end → Rise end rest
    → Rise least ((if some then record { start = from; len = to - from } ∷ [] else []) ++ rest)
rise_by from to least end rest true is low within far rise = (low, rise_less rest end (from + (to - from)) rise (let below : from < to = grind (arith, nat_tests) in omega arith))
rise_by from to least end rest false is low within far rise = rise_less rest end least rise (omega arith)

rising : (runs : List Run) (from size : ℕ) → Apart from runs → Rise from (free_from from size runs)
unfolding free_from
rising [] from size apart = rise_last from size (nat_lt from size) refl
  where
    rise_last : (from size : ℕ) (some : Bool) → nat_lt from size ≡ some → Rise from (if some then record { start = from; len = size - from } ∷ [] else [])
    rise_last from size true is = (omega arith, tt)
    rise_last from size false is = tt
rising (run ∷ runs) from size apart =
    rise_by from run.start from run.end (free_from run.end size runs) (nat_lt from run.start) refl (omega arith) (omega (arith, apart.1)) (omega (arith, apart.0, apart.1))
    (rising runs run.end size (apart_behind run runs from apart))

-- they are the maximal spans of the places that pass, where these are the places that no run holds
pub gaps_maximal : (runs : List Run) (size : ℕ) (passes : ℕ → Bool) → Apart 0 runs → Within size runs → ((at : ℕ) → passes at ≡ not (is_owned runs at)) → AreMaximal size passes (free_from 0 size runs)
gaps_maximal runs size passes apart within same = record {
  maximal = maximal_from runs 0 size passes apart within (record { same = λ at past below. same at; before = λ positive. absurd (omega arith) });
  all = λ at below. free_is runs 0 size at apart (omega arith) below ∙ sym (same at);
  order = rising runs 0 size apart;
}
