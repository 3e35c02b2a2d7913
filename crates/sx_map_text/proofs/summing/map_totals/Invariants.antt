use Rattle.std.proofs.Common.{length}
use Rattle.sx_refs.specs.Pages.{graph_of}
use Rattle.sx_map_text.specs.Map.{totals_of}
use Rattle.sx_map_text.specs.Rest.{moment_labels}
use Rattle.sx_map_text.proofs.Walked.{IsSumming}
use Rattle.sx_map_text.proofs.summing.map_totals.Given as goal

abbrev pub invariant-loop-stretch : goal.invariant-loop-stretch
invariant-loop-stretch g l =
    let pages = g.P.PageViews.pages l.pages in
    let view = g.P.PageViews.view l.pages in
    IsSumming (moment_labels pages view l.layout l.roots) l.layout.page_size (totals_of (graph_of pages view l.layout l.roots) l.layout view pages) l.totals l.stretches

abbrev pub decreases-loop-stretch : goal.decreases-loop-stretch
decreases-loop-stretch g l = length l.stretches
