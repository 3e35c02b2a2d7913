use Rattle.std.proofs.Common.{◌≡◌, count_by, take}
use Rattle.sx_base.specs.Labels.{is_owning, is_fault}
use Rattle.sx_prov.specs.Kept.{labels_in}
use Rattle.sx_prov.proofs.map.PageMap.totals.Given as goal

abbrev pub invariant-loop-span : goal.invariant-loop-span
invariant-loop-span l = record {
  owned : l.owned ≡ count_by is_owning (labels_in (take l.span-index l.self-inside.runs.items));
  fault : l.fault ≡ count_by is_fault (labels_in (take l.span-index l.self-inside.runs.items));
}
