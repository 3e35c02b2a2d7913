use Rattle.std.proofs.Common.{arith}
use Rattle.sx_sweep.proofs.PassLemmas.{passes_start, passes_next, passes_all}
use Rattle.sx_sweep.proofs.scene.Scene.relabel_all.Goals as goal

pub loop-rank-init : goal.loop-rank-init
loop-rank-init c =
    passes_start c.args.self.now.sweep.now.case c.args.self.now.sweep.now.moment c.args.self.now.sweep.now.numbers c.args.self.now.table.now c.args.self.now.layout.now c.args.self.now.images.now
    c.args.known.now.owned c.args.known.now.sums c.requires.known

pub loop-rank-preserved : goal.loop-rank-preserved
loop-rank-preserved c =
    passes_next c.args.self.now.sweep.now.case c.args.self.now.sweep.now.moment c.args.self.now.sweep.now.numbers c.args.self.now.table.now c.args.self.now.layout.now c.args.self.now.images.now
    c.args.known.now.owned c.loop-rank.known.owned c.relabel.new.known.owned c.args.known.now.sums c.loop-rank.known.sums c.relabel.new.known.sums c.loop-rank.rank c.loop-rank.invariant c.in_ok-relabel.ensures

pub returns : goal.returns
returns c =
    passes_all c.args.self.now.sweep.now.case c.args.self.now.sweep.now.moment c.args.self.now.sweep.now.numbers c.args.self.now.table.now c.args.self.now.layout.now c.args.self.now.images.now
    c.args.known.now.owned c.loop-rank.known.owned c.args.known.now.sums c.loop-rank.known.sums c.loop-rank.rank (omega arith) c.loop-rank.invariant
