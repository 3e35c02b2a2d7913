-- What stands behind bytes that stand.
use Rattle.std.proofs.Common.{arith, ap, ◌∙◌, drop}
use Rattle.std.proofs.lemmas.List.{drop-drop}
use Rattle.sx_record.proofs.Standing.{more_stands}
use Rattle.sx_record.proofs.utf8.standing_len.Goals as goal

pub loop-rest-preserved : goal.loop-rest-preserved
loop-rest-preserved c = record {
  stands = more_stands c.args.bytes.now c.loop-rest.rest.now c.loop-rest.len c.first_standing_len-more.result c.loop-rest.invariant.stands c.loop-rest.invariant.left c.first_standing_len-more.ensures.stands;
  left =
      c.split_at.ensures.back
      ∙ ap (drop c.first_standing_len-more.result) c.loop-rest.invariant.left
      ∙ drop-drop c.first_standing_len-more.result c.loop-rest.len c.args.bytes.now;
  within = omega arith;
}
