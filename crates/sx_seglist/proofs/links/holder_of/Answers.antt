use Rattle.sx_seglist.proofs.Loops.{further, looking_from, looking_first, nearer}
use Rattle.sx_seglist.proofs.links.holder_of.Goals.{then-items-from, else-items-from}
use Rattle.sx_seglist.proofs.links.holder_of.Goals as goal

pub loop-from-init : goal.loop-from-init
loop-from-init c = elim c.if-items-from.branch [
  | then-items-from w ↦ looking_from c.args.items.now c.args.at c.args.from c.if-items-from.found w.found-is c.requires.live c.requires.before_end w.if-items-from.true
  | else-items-from w ↦ looking_first c.args.items.now c.args.at c.if-items-from.found w.found-is c.requires.list
]

pub loop-from-preserved : goal.loop-from-preserved
loop-from-preserved c = further c.args.items.now c.args.at c.loop-from.found c.requires.list c.requires.within c.loop-from.invariant c.if-at-items.false

pub loop-from-smaller : goal.loop-from-smaller
loop-from-smaller c = nearer c.args.items.now c.args.at c.loop-from.found c.requires.list c.requires.within c.loop-from.invariant
