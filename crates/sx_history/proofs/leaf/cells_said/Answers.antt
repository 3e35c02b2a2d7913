use Rattle.std.proofs.Common.{◌≡◌, ◌∙◌, ◌++◌, ◌<◌, ◌≤◌, refl, sym, ap, arith, w64, to_z, of_z, append-nil}
use Rattle.std.proofs.Math.Facts.{to_z-of_z}
use Rattle.sx_node.specs.Nodes.{cell_count}
use Rattle.sx_history.specs.Given.{faults_by, items_by}
use Rattle.sx_history.specs.Leaves.{leaf_found}
use Rattle.sx_history.proofs.Leafing.{found_more, faults_more, local_more, found_none, one_most}
use Rattle.sx_history.proofs.leaf.cells_said.Goals as goal

pub loop-index-preserved : goal.loop-index-preserved
loop-index-preserved c =
    let rowid = c.args.rowid in
    let node = c.args.node.now in
    let index = c.loop-index.index in
    let before = c.loop-index.invariant in
    let said = c.in-Some.ensures in
    let added = c.in_ok-add.ensures in
    let read : to_z w64 (of_z w64 rowid) ≡ rowid = grind (arith, to_z-of_z) in
    let below : index < cell_count node = omega (arith, c.loop-index-test.true, c.cells-index-end.ensures.value) in
    record {
      found = found_more (to_z w64 (of_z w64 rowid)) node index c.args.page.now c.args.no (items_by c.loop-index.history) (items_by c.add.new.self) _ c.in-Some.said.found
          c.requires.same_page c.requires.same_number below said.found before.found added.found;
      faults = faults_more node index c.args.page.now (faults_by c.loop-index.history) (faults_by c.add.new.self) _ c.in-Some.said.faulty c.requires.same_page below said.faulty before.faults added.faults;
      few = omega (arith, before.few, added.faults, one_most c.in-Some.said.faulty);
      local = local_more node index before.local (said.local refl);
    }

pub returns-clause-found : goal.returns-clause-found
returns-clause-found c =
    let rowid = c.args.rowid in
    let node = c.args.node.now in
    let index = c.loop-index.index in
    let read : to_z w64 (of_z w64 rowid) ≡ rowid = grind (arith, to_z-of_z) in
    let past : cell_count node ≤ index = omega (arith, c.loop-index-test.false, c.cells-index-end.ensures.value) in
    sym (append-nil (items_by c.loop-index.history))
    ∙ ap (λ l. items_by c.loop-index.history ++ l) (sym (found_none (to_z w64 (of_z w64 rowid)) node index past))
    ∙ c.loop-index.invariant.found
    ∙ ap (λ r. leaf_found r node 0) read
