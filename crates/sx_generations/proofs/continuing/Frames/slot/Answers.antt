use Rattle.sx_generations.proofs.continuing.Frames.slot.Goals as goal

pub returns : goal.returns
returns c = c.args.self.now.tested.each c.args.i _ c.slot.ensures
