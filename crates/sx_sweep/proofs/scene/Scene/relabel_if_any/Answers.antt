use Rattle.std.proofs.Common.{arith}
use Rattle.sx_sweep.proofs.PassLemmas.{passes_past}
use Rattle.sx_sweep.proofs.scene.Scene.relabel_if_any.Goals as goal

pub returns-then-rank-ranks : goal.returns-then-rank-ranks
returns-then-rank-ranks c =
    passes_past c.args.self.now.sweep.now.case c.args.self.now.sweep.now.moment c.args.self.now.sweep.now.numbers c.args.self.now.table.now c.args.self.now.layout.now c.args.self.now.images.now
    c.args.known.now.owned c.args.known.now.sums c.args.rank (omega arith) c.requires.known
