use Rattle.std.proofs.Common.{refl, arith}
use Rattle.sx_sweep.proofs.PassLemmas.{listed_start, listed_next, listed_all}
use Rattle.sx_sweep.proofs.scene.Scene.relabel_listed.Goals as goal

pub loop-rank-init : goal.loop-rank-init
loop-rank-init c =
    listed_start c.args.self.now.sweep.now.case c.args.self.now.sweep.now.moment c.args.self.now.sweep.now.numbers c.args.self.now.table.now c.args.self.now.layout.now c.args.self.now.images.now
    c.args.known.now.owned c.args.known.now.sums c.args.ranks.now c.requires.known

pub loop-rank-preserved : goal.loop-rank-preserved
loop-rank-preserved c =
    listed_next c.args.self.now.sweep.now.case c.args.self.now.sweep.now.moment c.args.self.now.sweep.now.numbers c.args.self.now.table.now c.args.self.now.layout.now c.args.self.now.images.now
    c.args.known.now.owned c.loop-rank.known.owned c.relabel_if_any.new.known.owned c.args.known.now.sums c.loop-rank.known.sums c.relabel_if_any.new.known.sums c.args.ranks.now c.loop-rank.rank-index _ 0
    c.loop-rank-test.true refl c.loop-rank.invariant c.in_ok-relabel_if_any.ensures

pub returns : goal.returns
returns c =
    listed_all c.args.self.now.sweep.now.case c.args.self.now.sweep.now.moment c.args.self.now.sweep.now.numbers c.args.self.now.table.now c.args.self.now.layout.now c.args.self.now.images.now
    c.args.known.now.owned c.loop-rank.known.owned c.args.known.now.sums c.loop-rank.known.sums c.args.ranks.now c.loop-rank.rank-index (omega arith) c.loop-rank.invariant
