use Rattle.sx_walk.specs.Renumbering.{Grows, Renumbers}
use Rattle.sx_walk.proofs.renumber.number_listed.Given as goal

abbrev pub invariant-loop-place : goal.invariant-loop-place
invariant-loop-place g l = record {
  grows : Grows l.initial.touched.items l.touched.items;
  renumbers : Renumbers l.numbers l.touched.items l.initial.table l.table;
}
