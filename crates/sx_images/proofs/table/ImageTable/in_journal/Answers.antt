use Rattle.std.proofs.Common.{◌≡◌, ◌-◌, ◌<◌, length, sym, ap, ◌∙◌, arith, subst, slice_get, rules, get_or}
use Rattle.std.proofs.lemmas.Option.{slice_get-get_or}
use Rattle.sx_images.specs.Images.{Table, kept}
use Rattle.sx_images.specs.Read.{IsTable}
use Rattle.sx_images.specs.Search.{IsReached, Heads}
use Rattle.sx_images.specs.declared.stretch.Stretch.{Stretch}
use Rattle.sx_images.proofs.Journals.{follow_heads, none_reached, reached_run, reached_next, journal_here}
use Rattle.sx_images.proofs.table.ImageTable.in_journal.Goals as goal

pub runs_reached-reached-requires : goal.runs_reached-reached-requires
runs_reached-reached-requires c =
    rw c.as_slice-runs.ensures.value (follow_heads (kept c.self.inside.page_size c.self.inside.lengths c.self.inside.frames c.self.inside.stored.items c.self.inside.head_len c.self.inside.sector c.self.inside.stretches.items) 0 0 c.self.inside.stretches.items c.self.invariant.follow)

pub returns-then-reached-eq0 : goal.returns-then-reached-eq0
returns-then-reached-eq0 c =
    let laid : IsTable c.args.self.now = subst IsTable c.self.view_is c.self.invariant in
    let same : c.as_slice-runs.result.now ≡ c.args.self.now.stretches = c.as_slice-runs.ensures.value ∙ ap (λ (t : Table). t.stretches) c.self.view_is in
    let reached : IsReached c.args.offset c.args.self.now.stretches 0 = rw (← same, ← c.if-reached-eq0.true) c.runs_reached-reached.ensures.searched in
    sym (none_reached c.args.self.now 0 0 0 c.args.offset c.args.self.now.stretches laid.sector laid.follow reached)

pub overflow_cast-reached : goal.overflow_cast-reached
overflow_cast-reached c =
    let long = ap length c.as_slice-runs.ensures.value in
    let fits : c.runs_reached-reached.result - 1 < 4294967296 = omega (arith, c.runs_reached-reached.ensures.bound, long, c.self.invariant.runs) in
    search (rules, fits)

-- a run that the list doesn't have
abbrev none : Stretch
none = record { head = 0; first = 0; entries = 0 }

pub overflow_cast-run : goal.overflow_cast-run
overflow_cast-run c =
    let runs = c.as_slice-runs.result.now in
    let some : 0 < c.runs_reached-reached.result = omega (arith, c.if-reached-eq0.false) in
    let there = slice_get-get_or runs (c.runs_reached-reached.result - 1) none (omega (arith, some, c.runs_reached-reached.ensures.bound)) in
    let head = reached_run c.args.offset c.runs_reached-reached.result runs (get_or runs (c.runs_reached-reached.result - 1) none) some c.runs_reached-reached.ensures.searched there in
    let fits : (get_or runs (c.runs_reached-reached.result - 1) none).head < 4294967296 = omega (arith, head, c.ranges.offset) in
    search (rules, fits)

pub overflow_sub-offset : goal.overflow_sub-offset
overflow_sub-offset c =
    let runs = c.as_slice-runs.result.now in
    let some : 0 < c.runs_reached-reached.result = omega (arith, c.if-reached-eq0.false) in
    let there = slice_get-get_or runs (c.runs_reached-reached.result - 1) none (omega (arith, some, c.runs_reached-reached.ensures.bound)) in
    let head = reached_run c.args.offset c.runs_reached-reached.result runs (get_or runs (c.runs_reached-reached.result - 1) none) some c.runs_reached-reached.ensures.searched there in
    head

pub in_run-requires-clause-there : goal.in_run-requires-clause-there
in_run-requires-clause-there c =
    let runs = c.as_slice-runs.result.now in
    let some : 0 < c.runs_reached-reached.result = omega (arith, c.if-reached-eq0.false) in
    let there = slice_get-get_or runs (c.runs_reached-reached.result - 1) none (omega (arith, some, c.runs_reached-reached.ensures.bound)) in
    let head = reached_run c.args.offset c.runs_reached-reached.result runs (get_or runs (c.runs_reached-reached.result - 1) none) some c.runs_reached-reached.ensures.searched there in
    let same : runs ≡ c.args.self.now.stretches = c.as_slice-runs.ensures.value ∙ ap (λ (t : Table). t.stretches) c.self.view_is in
    ap (λ list. slice_get list (c.runs_reached-reached.result - 1)) (sym same) ∙ there

pub in_run-requires-clause-small : goal.in_run-requires-clause-small
in_run-requires-clause-small c =
    let runs = c.as_slice-runs.result.now in
    let some : 0 < c.runs_reached-reached.result = omega (arith, c.if-reached-eq0.false) in
    let there = slice_get-get_or runs (c.runs_reached-reached.result - 1) none (omega (arith, some, c.runs_reached-reached.ensures.bound)) in
    let head = reached_run c.args.offset c.runs_reached-reached.result runs (get_or runs (c.runs_reached-reached.result - 1) none) some c.runs_reached-reached.ensures.searched there in
    omega (arith, head, c.ranges.offset)

pub in_run-requires-clause-nearer : goal.in_run-requires-clause-nearer
in_run-requires-clause-nearer c = λ next is.
    let runs = c.as_slice-runs.result.now in
    let some : 0 < c.runs_reached-reached.result = omega (arith, c.if-reached-eq0.false) in
    let there = slice_get-get_or runs (c.runs_reached-reached.result - 1) none (omega (arith, some, c.runs_reached-reached.ensures.bound)) in
    let head = reached_run c.args.offset c.runs_reached-reached.result runs (get_or runs (c.runs_reached-reached.result - 1) none) some c.runs_reached-reached.ensures.searched there in
    let follow : Heads 0 runs = rw c.as_slice-runs.ensures.value (follow_heads (kept c.self.inside.page_size c.self.inside.lengths c.self.inside.frames c.self.inside.stored.items c.self.inside.head_len c.self.inside.sector c.self.inside.stretches.items) 0 0 c.self.inside.stretches.items c.self.invariant.follow) in
    let before = reached_next 0 c.args.offset c.runs_reached-reached.result runs next follow c.runs_reached-reached.ensures.searched (sym c.run_at-next.ensures ∙ is) in
    omega (arith, head, before)

pub returns : goal.returns
returns c =
    let runs = c.as_slice-runs.result.now in
    let some : 0 < c.runs_reached-reached.result = omega (arith, c.if-reached-eq0.false) in
    let there = slice_get-get_or runs (c.runs_reached-reached.result - 1) none (omega (arith, some, c.runs_reached-reached.ensures.bound)) in
    let head = reached_run c.args.offset c.runs_reached-reached.result runs (get_or runs (c.runs_reached-reached.result - 1) none) some c.runs_reached-reached.ensures.searched there in
    let laid : IsTable c.args.self.now = subst IsTable c.self.view_is c.self.invariant in
    let same : runs ≡ c.args.self.now.stretches = c.as_slice-runs.ensures.value ∙ ap (λ (t : Table). t.stretches) c.self.view_is in
    journal_here c.args.self.now runs (get_or runs (c.runs_reached-reached.result - 1) none) c.runs_reached-reached.result c.args.offset c.in_run.result laid same some
    c.runs_reached-reached.ensures.searched there (rw (← c.run_at-next.ensures) c.in_run.ensures)
