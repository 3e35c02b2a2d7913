use Rattle.std.proofs.Common.{◌≡◌, length, fold, is_some}
use Rattle.std.specs.List.{flat_map}
use Rattle.sx_tree.specs.Trees.{child_in}
use Rattle.sx_tree.specs.Tables.{noted}
use Rattle.sx_tree.proofs.finding.note_targets.Given as goal

abbrev pub invariant-loop-target : goal.invariant-loop-target
invariant-loop-target g l =
    fold (noted (λ number. is_some (g.P.PageViews.view l.pages number))) l.table (flat_map child_in l.targets)
    ≡ fold (noted (λ number. is_some (g.P.PageViews.view l.pages number))) l.fn.table (flat_map child_in l.fn.targets)

abbrev pub decreases-loop-target : goal.decreases-loop-target
decreases-loop-target g l = length l.targets
