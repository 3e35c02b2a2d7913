use Rattle.std.proofs.Common.{◌∙◌, ap, sym}
use Rattle.sx_base.specs.Held.{held_after}
use Rattle.sx_prov.proofs.Stretching.{nearer_is}
use Rattle.sx_prov.proofs.stretch.present_after.Goals as goal

pub returns : goal.returns
returns g c =
    nearer_is c.args.lock (g.P.PageViews.view c.args.pages.now) c.args.size c.args.after c.next_held-held.result c.nearer.result
    (c.next_held-held.ensures ∙ ap (λ size. held_after size (g.P.PageViews.view c.args.pages.now) c.args.after) (sym c.requires)) c.nearer.ensures
