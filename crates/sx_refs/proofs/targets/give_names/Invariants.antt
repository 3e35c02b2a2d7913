use Rattle.std.proofs.Common.{◌≡◌, map}
use Rattle.sx_refs.specs.Targets.{from_node}
use Rattle.sx_refs.proofs.targets.give_names.Given as goal

abbrev pub invariant-loop-name : goal.invariant-loop-name
invariant-loop-name g l = l.receiver ≡ g.R.Receiver.after l.initial.receiver (map (from_node l.page) l.yielded)
