use Rattle.std.proofs.Common.{◌∙◌, arith}
use Rattle.sx_generations_text.proofs.LineLemmas.{counted_more}
use Rattle.sx_generations_text.proofs.texts.commits_in_all.Goals as goal

pub loop-i-preserved : goal.loop-i-preserved
loop-i-preserved c = record {
  few = omega arith;
  counted = counted_more c.args.older.now c.loop-i.i c.loop-i.commits c.from-commits.result (omega arith) c.loop-i.invariant.counted (c.from-commits.ensures ∙ c.run.ensures.commits);
}
