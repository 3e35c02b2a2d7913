use Rattle.std.proofs.Common.{◌≡◌, drop}
use Rattle.sx_record.proofs.fields.Fields.value.Given as goal

abbrev pub invariant-loop : goal.invariant-loop
invariant-loop l = l.values ≡ drop l.counter l.self
