use Rattle.std.proofs.Common.{◌*◌, ◌<◌, ◌^◌, sym, ap, subst, ◌∙◌, arith}
use Rattle.sx_refs.specs.Pages.{graph_of}
use Rattle.sx_map_text.specs.Map.{totals_of}
use Rattle.sx_map_text.specs.Rest.{moment_labels}
use Rattle.sx_map_text.proofs.Walked.{IsSumming, summing_start, summing_more, summing_fits, summing_end}
use Rattle.sx_map_text.proofs.summing.map_totals.Goals as goal

pub loop-stretch-init : goal.loop-stretch-init
loop-stretch-init g c =
    let graph = graph_of (g.P.PageViews.pages c.args.pages.now) (g.P.PageViews.view c.args.pages.now) c.args.layout.now c.args.roots.now in
    let fits = c.size.type_inv in
    let size = c.size.ensures.size in
    let few : g.P.PageViews.pages c.args.pages.now < 2 ^ 32 = omega (arith, fits, size) in
    summing_start graph c.args.layout.now (g.P.PageViews.view c.args.pages.now) (g.P.PageViews.pages c.args.pages.now) c.dead.result (c.from.result * c.from-2.result) c.start-stretches.result few c.requires.small
    (c.dead.ensures ∙ c.in_ok-refs.ensures.dead) (ap (λ n. n * c.from-2.result) (c.from.ensures ∙ size) ∙ ap (λ n. g.P.PageViews.pages c.args.pages.now * n) c.from-2.ensures) c.start-stretches.ensures

pub with_bytes-totals-requires-clause-owned : goal.with_bytes-totals-requires-clause-owned
with_bytes-totals-requires-clause-owned g c =
    (summing_fits _ c.args.layout.now.page_size _ c.loop-stretch.totals c.in-Some.stretch c.loop-stretch.stretches c.next.new.self c.in_ok-bytes.bytes
    c.in-Some.ensures.steps (c.in_ok-bytes.ensures c.args.roots.now c.in_ok-refs.ensures) c.loop-stretch.invariant).0

pub with_bytes-totals-requires-clause-slack : goal.with_bytes-totals-requires-clause-slack
with_bytes-totals-requires-clause-slack g c =
    (summing_fits _ c.args.layout.now.page_size _ c.loop-stretch.totals c.in-Some.stretch c.loop-stretch.stretches c.next.new.self c.in_ok-bytes.bytes
    c.in-Some.ensures.steps (c.in_ok-bytes.ensures c.args.roots.now c.in_ok-refs.ensures) c.loop-stretch.invariant).1

pub with_bytes-totals-requires-clause-fault : goal.with_bytes-totals-requires-clause-fault
with_bytes-totals-requires-clause-fault g c =
    (summing_fits _ c.args.layout.now.page_size _ c.loop-stretch.totals c.in-Some.stretch c.loop-stretch.stretches c.next.new.self c.in_ok-bytes.bytes
    c.in-Some.ensures.steps (c.in_ok-bytes.ensures c.args.roots.now c.in_ok-refs.ensures) c.loop-stretch.invariant).2

pub loop-stretch-preserved : goal.loop-stretch-preserved
loop-stretch-preserved g c =
    let pages = g.P.PageViews.pages c.args.pages.now in
    let view = g.P.PageViews.view c.args.pages.now in
    let layout = c.args.layout.now in
    let labels = moment_labels pages view layout c.args.roots.now in
    let whole = totals_of (graph_of pages view layout c.args.roots.now) layout view pages in
    subst (λ totals. IsSumming labels layout.page_size whole totals c.next.new.self) (sym c.with_bytes-totals.ensures)
    (summing_more labels layout.page_size whole c.loop-stretch.totals c.in-Some.stretch c.loop-stretch.stretches c.next.new.self c.in_ok-bytes.bytes
    c.in-Some.ensures.steps (c.in_ok-bytes.ensures c.args.roots.now c.in_ok-refs.ensures) c.loop-stretch.invariant)

pub returns : goal.returns
returns g c = summing_end _ c.args.layout.now.page_size _ c.loop-stretch.totals c.loop-stretch.stretches c.in_default.ensures.steps.0 c.loop-stretch.invariant
