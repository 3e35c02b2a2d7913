use Rattle.std.proofs.Common.{[], ◌∷◌, ◌++◌, ap, ◌∙◌}
use Rattle.sx_sweep.proofs.passing.add_headed.Goals as goal

pub returns-clause-totals : goal.returns-clause-totals
returns-clause-totals c head = c.in_ok-push.ensures.items ∙ ap (λ t. c.args.pass.now.totals.items ++ t ∷ []) (c.headed_totals-here.ensures head)
