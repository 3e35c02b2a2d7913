use Rattle.std.proofs.Common.{◌∙◌, sym, ap}
use Rattle.sx_refs.specs.Pages.{if_held}
use Rattle.sx_refs.proofs.Naming.{names_nothing}
use Rattle.sx_refs.proofs.pages.give_named.Goals as goal

pub returns-in-None : goal.returns-in-None
returns-in-None g c =
    sym (g.met.R.Receiver.none c.args.receiver.now)
    ∙ ap (λ found. g.R.Receiver.after c.args.receiver.now (if_held found c.args.pair c.args.usable)) c.in-None.ensures.view

pub returns-then-not-may_name : goal.returns-then-not-may_name
returns-then-not-may_name g c =
    sym (g.met.R.Receiver.none c.args.receiver.now)
    ∙ ap (g.R.Receiver.after c.args.receiver.now)
    (sym (names_nothing (g.P.PageViews.view c.args.pages.now c.args.pair.page) c.args.pair c.args.usable (sym c.may_name.ensures ∙ c.if-not-may_name.true)))
