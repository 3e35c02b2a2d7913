use Rattle.std.proofs.Common.{◌∙◌, ◌≤◌, length, refl, arith}
use Rattle.sx_base.specs.declared.moment.Moment.TheVariants.{File}
use Rattle.sx_moment.specs.Turning.{is_turned, is_within}
use Rattle.sx_moment.proofs.Stepped.{filed_start, filed_more, filed_all, files_none, files_marked, files_all}
use Rattle.sx_moment.proofs.turning.put_files.Goals as goal

pub loop-rank-init : goal.loop-rank-init
loop-rank-init c = record {
  filed = filed_start c.args.sources.now c.args.ranks.now c.args.origins.now.items c.requires.origins;
  marked = files_none (is_within (is_turned c.args.sources.now File) c.args.step.within c.args.ranks.now) c.args.step.turn c.args.changes.now.turns;
  settled = refl;
}

pub put_file-requires : goal.put_file-requires
put_file-requires c = record {
  rank = omega (arith, c.loop-rank-test.true, c.len-rank-end.ensures.value);
  here = c.loop-rank.invariant.filed.left c.loop-rank.rank (omega arith) (omega (arith, c.loop-rank-test.true, c.len-rank-end.ensures.value));
  long = c.loop-rank.invariant.filed.long;
  turns = c.loop-rank.invariant.marked.long ∙ c.requires.long;
  later = omega (arith, c.loop-rank.invariant.settled, c.requires.later);
}

pub loop-rank-preserved : goal.loop-rank-preserved
loop-rank-preserved c = record {
  filed = filed_more c.args.sources.now c.args.ranks.now c.loop-rank.origins.items c.put_file.new.origins.items c.loop-rank.rank c.loop-rank.invariant.filed
      c.put_file.ensures.long c.put_file.ensures.here c.put_file.ensures.others;
  marked = files_marked (is_within (is_turned c.args.sources.now File) c.args.step.within c.args.ranks.now) c.loop-rank.rank c.args.step.turn c.args.changes.now.turns c.loop-rank.changes.turns c.put_file.new.changes.turns
      c.loop-rank.invariant.marked c.put_file.ensures.marked;
  settled = c.put_file.ensures.settled ∙ c.loop-rank.invariant.settled;
}

pub returns : goal.returns
returns c =
    let all : length c.args.ranks.now ≤ c.loop-rank.rank = omega (arith, c.loop-rank-test.false, c.len-rank-end.ensures.value) in
    record {
      origins = filed_all c.args.sources.now c.args.ranks.now c.loop-rank.origins.items c.loop-rank.rank c.loop-rank.invariant.filed all;
      marked = files_all (is_within (is_turned c.args.sources.now File) c.args.step.within c.args.ranks.now) c.loop-rank.rank c.args.step.turn c.args.changes.now.turns c.loop-rank.changes.turns
          (omega (arith, all, c.requires.long)) c.loop-rank.invariant.marked;
      settled = c.loop-rank.invariant.settled;
    }
