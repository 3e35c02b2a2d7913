use Rattle.sx_walk.proofs.Steadying.{names_each}
use Rattle.sx_walk.proofs.steady.names_same.Goals as goal

pub returns : goal.returns
returns c =
    λ yes. names_each c.args.table.now c.args.usable c.args.no c.args.before.now c.args.after.now
    (c.in_ok-role_same.ensures c.if-not-branch.false) (c.in_ok-role_same-2.ensures c.if-not-branch-2.false) (c.in_ok-role_same-3.ensures c.if-not-branch-3.false)
