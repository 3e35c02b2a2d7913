use Rattle.std.proofs.Common.{◌≡◌, ◌<◌, length, drop, ◌∙◌, arith, ap}
use Rattle.sx_record.proofs.Walking.{column_found, column_is, columns_left}
use Rattle.sx_record.proofs.fields.Fields.value.Goals as goal

pub loop-preserved : goal.loop-preserved
loop-preserved c =
    let there : c.loop.counter < length c.args.self.now = omega arith in
    columns_left c.args.self.now c.loop.values c.next.new.self c.loop.counter c.next.result c.loop.invariant there c.next.ensures.steps

pub unwrap-requires : goal.unwrap-requires
unwrap-requires c =
    let there : c.loop.counter ≡ c.args.i = omega arith in
    column_found c.args.self.now c.loop.values c.next-2.new.self c.args.i c.next-2.result
    (c.loop.invariant ∙ ap (λ i. drop i c.args.self.now) there) c.requires c.next-2.ensures.steps

pub returns : goal.returns
returns c =
    let there : c.loop.counter ≡ c.args.i = omega arith in
    column_is c.args.self.now c.loop.values c.next-2.new.self c.args.i c.unwrap.result
    (c.loop.invariant ∙ ap (λ i. drop i c.args.self.now) there) (rw c.unwrap.ensures at c.next-2.ensures.steps)
