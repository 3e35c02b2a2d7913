use Rattle.std.proofs.Common.{ap}
use Rattle.std.specs.Ordering.{nat_cmp, is_eq}
use Rattle.std.specs.BTreeMap.{get}
use Rattle.std.specs.Map.{lookup}
use Rattle.sx_prov.proofs.Finding.{kept_none}
use Rattle.sx_prov.proofs.shelf.Maps.fresh.Goals as goal

pub invariant_of-result : goal.invariant_of-result
invariant_of-result c = kept_none _ (get nat_cmp c.new-2.result) c.new.ensures.items (λ image. ap (lookup (λ k. is_eq (nat_cmp image k))) c.new-2.ensures.empty)
