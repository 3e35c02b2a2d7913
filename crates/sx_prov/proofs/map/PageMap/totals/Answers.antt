use Rattle.std.proofs.Common.{◌≡◌, ap, ◌∙◌, arith, count_by}
use Rattle.sx_base.specs.declared.label.Label.TheVariants.{DbHeader}
use Rattle.sx_base.specs.Labels.{is_owning, is_fault, is_slack}
use Rattle.sx_prov.specs.Kept.{labels_in}
use Rattle.sx_prov.proofs.Groups.{count_none, count_step, count_fits, count_all, all_groups, slack_is}
use Rattle.sx_prov.proofs.map.PageMap.totals.Goals as goal

pub loop-span-init : goal.loop-span-init
loop-span-init c = record { owned = count_none is_owning c.self.inside.runs.items; fault = count_none is_fault c.self.inside.runs.items }

pub overflow_add-owned : goal.overflow_add-owned
overflow_add-owned c =
    let fits = count_fits is_owning c.self.inside.runs.items c.deref-span-items.result.now c.loop-span.span-index c.loop-span.owned c.len_if-more.result c.self.inside.len
    (record { start = 0; len = 0 }, DbHeader) c.deref-span-items.ensures.value c.loop-span-test.true c.self.invariant c.loop-span.invariant.owned c.owning.result c.owning.ensures c.len_if-more.ensures in
    omega (arith, fits)

pub overflow_add-fault : goal.overflow_add-fault
overflow_add-fault c =
    let fits = count_fits is_fault c.self.inside.runs.items c.deref-span-items.result.now c.loop-span.span-index c.loop-span.fault c.len_if-hidden.result c.self.inside.len
    (record { start = 0; len = 0 }, DbHeader) c.deref-span-items.ensures.value c.loop-span-test.true c.self.invariant c.loop-span.invariant.fault c.fault.result c.fault.ensures c.len_if-hidden.ensures in
    omega (arith, fits)

pub loop-span-preserved : goal.loop-span-preserved
loop-span-preserved c = record {
  owned = count_step is_owning c.self.inside.runs.items c.deref-span-items.result.now c.loop-span.span-index c.loop-span.owned c.len_if-more.result
      (record { start = 0; len = 0 }, DbHeader) c.deref-span-items.ensures.value c.loop-span-test.true c.loop-span.invariant.owned c.owning.result c.owning.ensures c.len_if-more.ensures;
  fault = count_step is_fault c.self.inside.runs.items c.deref-span-items.result.now c.loop-span.span-index c.loop-span.fault c.len_if-hidden.result
      (record { start = 0; len = 0 }, DbHeader) c.deref-span-items.ensures.value c.loop-span-test.true c.loop-span.invariant.fault c.fault.result c.fault.ensures c.len_if-hidden.ensures;
}

owned_is : (c : goal.After-loop-span) → c.loop-span.owned ≡ count_by is_owning (labels_in c.self.inside.runs.items)
owned_is c = count_all is_owning c.self.inside.runs.items c.deref-span-items.result.now c.loop-span.span-index c.loop-span.owned c.deref-span-items.ensures.value c.loop-span-test.false c.loop-span.invariant.owned

fault_is : (c : goal.After-loop-span) → c.loop-span.fault ≡ count_by is_fault (labels_in c.self.inside.runs.items)
fault_is c = count_all is_fault c.self.inside.runs.items c.deref-span-items.result.now c.loop-span.span-index c.loop-span.fault c.deref-span-items.ensures.value c.loop-span-test.false c.loop-span.invariant.fault

pub overflow_sub-result : goal.overflow_sub-result
overflow_sub-result c =
    let long = c.self.invariant.long in
    let groups = all_groups (labels_in c.self.inside.runs.items) in
    let owned = owned_is c in
    omega (arith, long, groups, owned)

pub overflow_sub-result-2 : goal.overflow_sub-result-2
overflow_sub-result-2 c =
    let long = c.self.invariant.long in
    let groups = all_groups (labels_in c.self.inside.runs.items) in
    let owned = owned_is c in
    let fault = fault_is c in
    omega (arith, long, groups, owned, fault)

pub returns-clause-owned : goal.returns-clause-owned
returns-clause-owned c = owned_is c ∙ ap (count_by is_owning) c.self.view_is

pub returns-clause-slack : goal.returns-clause-slack
returns-clause-slack c =
    slack_is (labels_in c.self.inside.runs.items) c.self.inside.len c.loop-span.owned c.loop-span.fault c.self.invariant.long (owned_is c) (fault_is c)
    ∙ ap (count_by is_slack) c.self.view_is

pub returns-clause-fault : goal.returns-clause-fault
returns-clause-fault c = fault_is c ∙ ap (count_by is_fault) c.self.view_is
