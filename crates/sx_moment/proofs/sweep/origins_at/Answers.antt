use Rattle.std.proofs.Common.{◌≡◌, ◌+◌, ◌∷◌, [], length, ap, ◌∙◌, arith, length-append}
use Rattle.sx_moment.specs.Turning.{base_of}
use Rattle.sx_moment.proofs.Swept.{origins_more}
use Rattle.sx_moment.proofs.sweep.origins_at.Goals as goal

pub loop-rank-init : goal.loop-rank-init
loop-rank-init c = record {
  long = ap length c.in_ok-origins.ensures.items;
  each = λ other under. absurd (omega (arith, under));
}

pub loop-rank-preserved : goal.loop-rank-preserved
loop-rank-preserved c =
    let image = base_of c.args.snapshot.now.case.now c.args.snapshot.now.moment in
    record {
      long = ap length c.in_ok-push.ensures.items ∙ length-append c.loop-rank.origins.items (c.image_of.result ∷ []) ∙ ap (λ n. n + 1) c.loop-rank.invariant.long;
      each = origins_more image c.args.ranks.now c.loop-rank.origins.items c.push.new.self.items c.loop-rank.rank c.image_of.result
          c.loop-rank.invariant.long c.loop-rank.invariant.each (c.image_of.ensures ∙ ap image c.number.ensures) c.in_ok-push.ensures.items;
    }

pub returns : goal.returns
returns c =
    let all : c.loop-rank.rank ≡ length c.args.ranks.now = omega (arith, c.loop-rank-test.false, c.len-rank-end.ensures.value, c.loop-rank.auto.rank-end) in
    record {
      long = c.loop-rank.invariant.long ∙ all;
      each = λ other below. c.loop-rank.invariant.each other (omega (arith, below, all));
    }
