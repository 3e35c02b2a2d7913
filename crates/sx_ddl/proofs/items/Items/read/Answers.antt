use Rattle.std.proofs.Common.{◌∙◌, ◌<◌, length, rules, sym}
use Rattle.sx_ddl.proofs.WalkLemmas.{IsCut, walk_refused, walk_closes, walk_next, walk_ends}
use Rattle.sx_ddl.proofs.items.Items.read.Goals as goal

pub returns-in-Err : goal.returns-in-Err
returns-in-Err c =
    let some : 0 < length c.loop-rest.rest.now = search rules in
    let cut : IsCut c.loop-rest.rest.now c.split_at.result.0.now c.split_at.result.1.now c.item_len.result = record { len_is = c.item_len.ensures.len; front = c.split_at.ensures.front; back = c.split_at.ensures.back } in
    walk_refused c.args.end _ c.loop-rest.rest.now _ _ _ _ _ c.in-Err.refused _ _ cut c.loop-rest.invariant some c.in-Err.ensures

pub returns-then-begins_closed : goal.returns-then-begins_closed
returns-then-begins_closed c =
    let some : 0 < length c.loop-rest.rest.now = search rules in
    let cut : IsCut c.loop-rest.rest.now c.split_at.result.0.now c.split_at.result.1.now c.item_len.result = record { len_is = c.item_len.ensures.len; front = c.split_at.ensures.front; back = c.split_at.ensures.back } in
    walk_closes c.args.end _ _ c.loop-rest.rest.now _ _ _ _ _ _ _ cut c.loop-rest.invariant some c.in-Ok.ensures (sym c.if-begins_closed.ensures) c.close.ensures

pub loop-rest-preserved : goal.loop-rest-preserved
loop-rest-preserved c =
    let some : 0 < length c.loop-rest.rest.now = search rules in
    let cut : IsCut c.loop-rest.rest.now c.split_at.result.0.now c.split_at.result.1.now c.item_len.result = record { len_is = c.item_len.ensures.len; front = c.split_at.ensures.front; back = c.split_at.ensures.back } in
    walk_next c.args.end _ _ c.loop-rest.rest.now _ _ _ _ _ _ cut c.loop-rest.invariant some c.in-Ok.ensures (sym c.if-begins_closed.ensures) c.without_first-rest.ensures

pub returns : goal.returns
returns c = c.loop-rest.invariant ∙ walk_ends c.args.end _ c.loop-rest.rest.now (search rules)
