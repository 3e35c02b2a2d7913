-- The totals of a moment that has a header: how many bytes of all its pages are in each group of labels, and how many dead
-- links there are.
use Rattle.std.specs.Prelude.{length, Option, None, Some}
use Rattle.sx_base.specs.Labels.{is_owning, is_slack, is_fault}
use Rattle.sx_base.specs.declared.moment.Moment.{Moment}
use Rattle.sx_header.specs.declared.header.Header.{Header}
use Rattle.sx_closure.specs.Graph.{dead_links}
use Rattle.sx_moment.specs.Gathered.{Gathered, size_at}
use Rattle.sx_moment.specs.Heads.{head_of, layout_of}
use Rattle.sx_moment.specs.Views.{view_of}
use Rattle.sx_prov.specs.Sums.{bytes_of}
use Rattle.sx_sweep.specs.Owning.{graph_at}
use Rattle.sx_sweep.specs.declared.totals.MomentTotals.{MomentTotals}

-- the totals of a moment with this header; without one there are none
abbrev pub totals_by : Gathered → Moment → Option Header → Option MomentTotals
totals_by case moment None = None
totals_by case moment (Some head) = Some (record {
  owned = bytes_of is_owning (graph_at case moment) (layout_of case moment) (view_of case moment) (size_at case moment);
  slack = bytes_of is_slack (graph_at case moment) (layout_of case moment) (view_of case moment) (size_at case moment);
  fault = bytes_of is_fault (graph_at case moment) (layout_of case moment) (view_of case moment) (size_at case moment);
  dead = length (dead_links (graph_at case moment));
})

-- the totals of a moment of the case
unfoldable pub totals_at : Gathered → Moment → Option MomentTotals
totals_at case moment = totals_by case moment (head_of case moment)
