use Rattle.std.proofs.Common.{◌≡◌, length, take}
use Rattle.sx_seglist.specs.Claims.{AreCounted}
use Rattle.sx_prov.proofs.keyed.count_claims.Given as goal

abbrev pub invariant-loop-span : goal.invariant-loop-span
invariant-loop-span l = record {
  long : length l.states ≡ l.len;
  counted : AreCounted (take l.span-index l.claims) l.states;
}
