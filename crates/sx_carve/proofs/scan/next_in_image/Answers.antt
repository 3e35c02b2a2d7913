-- A candidate of the run is the image's, and the next run goes on where this one ends.
use Rattle.std.proofs.Common.{◌∙◌}
use Rattle.sx_carve.proofs.ScanLemmas.{found_in_run, scan_behind, scan_next, next_run, no_run}
use Rattle.sx_carve.proofs.scan.next_in_image.Goals as goal

pub returns-in-Some-clause-found : goal.returns-in-Some-clause-found
returns-in-Some-clause-found c =
    found_in_run _ _ _ _ c.args.at c.loop-found.at c.loop-found.end c.args.bytes.now c.split_at.result.0.now c.loop-found.spans c.in-Some.found c.split_at.ensures.front
    c.loop-found.invariant.scan c.loop-found.invariant.same c.in-Some.ensures

pub returns-in-Some-clause-scan : goal.returns-in-Some-clause-scan
returns-in-Some-clause-scan c =
    scan_behind _ _ _ _ c.loop-found.at c.loop-found.end c.args.bytes.now c.split_at.result.0.now c.loop-found.spans c.in-Some.found c.split_at.ensures.front
    c.loop-found.invariant.scan c.in-Some.ensures

pub loop-found-preserved : goal.loop-found-preserved
loop-found-preserved c = record {
  scan = scan_next _ _ _ c.loop-found.at c.loop-found.end c.in_ok-span.span c.loop-found.spans c.next.new.self c.loop-found.invariant.scan c.in_ok-span.ensures.steps;
  same =
      c.loop-found.invariant.same
      ∙ next_run _ _ _ _ c.loop-found.at c.loop-found.end c.args.bytes.now c.split_at.result.0.now c.in_ok-span.span c.loop-found.spans c.next.new.self c.split_at.ensures.front
      c.loop-found.invariant.scan c.in_ok-span.ensures.steps c.in_default.ensures;
}

pub returns-in_err-span-clause-found : goal.returns-in_err-span-clause-found
returns-in_err-span-clause-found c =
    rw c.from_residual.ensures
    (c.loop-found.invariant.same
    ∙ no_run _ _ _ _ c.loop-found.at c.loop-found.end c.args.bytes.now c.split_at.result.0.now c.loop-found.spans c.split_at.ensures.front
    c.loop-found.invariant.scan c.in_err-span.ensures.steps.0 c.in_default.ensures)
