use Rattle.std.proofs.Common.{take}
use Rattle.sx_prov.proofs.Apart.{IsApart}
use Rattle.sx_prov.proofs.keyed.put_apart.Given as goal

abbrev pub invariant-loop-span : goal.invariant-loop-span
invariant-loop-span l = IsApart l.content l.usable (take l.span-index l.claims) l.map l.end
