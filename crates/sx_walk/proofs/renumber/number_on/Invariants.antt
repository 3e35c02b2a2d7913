use Rattle.std.proofs.Common.{◌≡◌, true}
use Rattle.sx_walk.specs.Renumbering.{is_touched, Grows, Renumbers}
use Rattle.sx_walk.proofs.renumber.number_on.Given as goal

abbrev pub invariant-loop : goal.invariant-loop
invariant-loop g l = record {
  grows : Grows l.initial.touched.items l.touched.items;
  listed : is_touched l.numbers l.touched.items l.at ≡ true;
  renumbers : Renumbers l.numbers l.touched.items l.initial.table l.table;
}
