use Rattle.std.proofs.Common.{◌-◌, refl, arith}
use Rattle.sx_prov.proofs.Kept.{IsLast, last_is, push_follow, push_labels, longer_follow, longer_labels, longer_fits}
use Rattle.sx_prov.proofs.map.put_run.Goals as goal

pub returns-then-not-end_with-clause-follow : goal.returns-then-not-end_with-clause-follow
returns-then-not-end_with-clause-follow c =
    push_follow c.args.runs.now.items c.deref.result.now c.push.new.self.items c.args.start c.args.len c.args.label c.end_with.result c.requires.follow c.requires.start c.requires.some
    c.deref.ensures.value c.if-not-end_with.true c.end_with.ensures.found c.in_ok-push.ensures.items

pub returns-then-not-end_with-clause-ok : goal.returns-then-not-end_with-clause-ok
returns-then-not-end_with-clause-ok c =
    push_labels c.args.runs.now.items c.push.new.self.items c.args.start c.args.len c.args.label c.in_ok-push.ensures.items

last : (c : goal.After-struct_known-1) → IsLast c.args.runs.now.items (c.len-last.result - 1) c.args.label
last c =
    last_is c.args.runs.now.items c.deref.result.now c.len-last.result c.args.label c.end_with.result c.deref.ensures.value (omega (arith, c.len-last.ensures, c.args.runs.now.ok)) c.if-not-end_with.false
    c.end_with.ensures.some c.end_with.ensures.same

pub overflow_add-longer : goal.overflow_add-longer
overflow_add-longer c =
    let fits = longer_fits c.args.runs.now.items (c.len-last.result - 1) c.args.start c.args.len c.index.result.now c.args.label (last c) c.index.ensures c.requires.follow c.requires.start c.requires.page in
    omega (arith, fits)

last_set : (c : goal.After-runs-1) → IsLast c.args.runs.now.items (c.len-last.result - 1) c.args.label
last_set c =
    last_is c.args.runs.now.items c.deref.result.now c.len-last.result c.args.label c.end_with.result c.deref.ensures.value (omega (arith, c.len-last.ensures, c.args.runs.now.ok)) c.if-not-end_with.false
    c.end_with.ensures.some c.end_with.ensures.same

pub returns-clause-follow : goal.returns-clause-follow
returns-clause-follow c =
    longer_follow c.args.runs.now.items (c.len-last.result - 1) c.args.len c.index.result.now.0 _ c.args.label c.index.result.now (last_set c) c.index.ensures refl refl c.requires.follow

pub returns-clause-ok : goal.returns-clause-ok
returns-clause-ok c =
    longer_labels c.args.runs.now.items (c.len-last.result - 1) c.args.len c.index.result.now.0 _ c.args.label c.index.result.now (last_set c) c.index.ensures refl refl
