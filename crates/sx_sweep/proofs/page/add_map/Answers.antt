use Rattle.sx_sweep.proofs.RunLemmas.{map_within, map_start, map_step, map_end, within_rest}
use Rattle.sx_sweep.proofs.page.add_map.Goals as goal

pub loop-span-init : goal.loop-span-init
loop-span-init c = record {
  growing = map_start c.args.owned.now c.args.image c.args.map.now c.runs-runs.result c.runs-runs.ensures;
  within = map_within c.args.map.now c.args.owned.now.page_size c.runs-runs.result c.runs-runs.ensures c.requires.size;
}

pub loop-span-preserved : goal.loop-span-preserved
loop-span-preserved c = record {
  growing =
      map_step c.args.owned.now c.loop-span.owned c.add_run.new.owned c.args.image c.args.map.now (c.in-Some.span, c.in-Some.label) c.loop-span.runs c.next.new.self
      c.in-Some.ensures.steps c.loop-span.invariant.growing c.in_ok-add_run.ensures;
  within = within_rest c.args.owned.now.page_size (c.in-Some.span, c.in-Some.label) c.loop-span.runs c.next.new.self c.in-Some.ensures.steps c.loop-span.invariant.within;
}

pub returns : goal.returns
returns c =
    map_end c.args.owned.now c.loop-span.owned c.args.image c.args.map.now c.loop-span.runs c.in_default.ensures.steps.0 c.loop-span.invariant.growing
