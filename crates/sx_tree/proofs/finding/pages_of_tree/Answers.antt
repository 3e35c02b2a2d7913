use Rattle.std.proofs.Common.{◌<◌, ◌+◌, ◌-◌, sym, ap, ◌∙◌, arith}
use Rattle.std.specs.Map.{keys_of}
use Rattle.sx_base.proofs.HeldPages.{held_few}
use Rattle.sx_tree.specs.Trees.{tree_in, is_held, held_count}
use Rattle.sx_tree.proofs.Filling.{filling_more, filling_few, filling_says, filling_room, filling_start, room_start, room_more, children_none, counted_one, counted_none, children_noted, key_within, key_here}
use Rattle.sx_tree.specs.Tables.{noted}
use Rattle.sx_tree.proofs.Rounds.{bounds_are}
use Rattle.sx_tree.proofs.finding.pages_of_tree.Goals as goal
use Rattle.sx_tree.proofs.finding.pages_of_tree.Goals.{then-branch, else-branch}

pub overflow_add-done : goal.overflow_add-done
overflow_add-done g c =
    let tree = tree_in (g.P.PageViews.pages c.args.pages.now) (g.P.PageViews.view c.args.pages.now) c.args.usable c.args.root in
    let few = filling_few tree c.loop-no.done c.loop-no.table c.loop-no.invariant.bounds c.loop-no.invariant.filling in
    let within = key_within (keys_of c.loop-no.table) c.loop-no.done c.in-Some.no c.page_at.result c.page_at.ensures c.in-Some.is in
    let held = held_few (g.P.PageViews.pages c.args.pages.now) (g.P.PageViews.view c.args.pages.now) in
    omega (arith, few, within, held, c.size-size.ensures.size)

pub loop-no-smaller : goal.loop-no-smaller
loop-no-smaller g c =
    let tree = tree_in (g.P.PageViews.pages c.args.pages.now) (g.P.PageViews.view c.args.pages.now) c.args.usable c.args.root in
    let few = filling_few tree c.loop-no.done c.loop-no.table c.loop-no.invariant.bounds c.loop-no.invariant.filling in
    let within = key_within (keys_of c.loop-no.table) c.loop-no.done c.in-Some.no c.page_at.result c.page_at.ensures c.in-Some.is in
    let less : held_count tree - (c.loop-no.done + 1) < held_count tree - c.loop-no.done = omega (arith, few, within) in
    less

pub loop-no-init : goal.loop-no-init
loop-no-init g c =
    let tree = tree_in (g.P.PageViews.pages c.args.pages.now) (g.P.PageViews.view c.args.pages.now) c.args.usable c.args.root in
    record {
      bounds = bounds_are tree c.size-size.result c.size-size.ensures.size c.size-size.ensures.within c.size-size.ensures.from_one;
      filling = filling_start tree c.note.new.table
          (c.in_ok-note.ensures.ok ∙ ap (λ table. noted (is_held tree) table c.args.root) c.new-table.ensures);
      room = room_start tree c.note.new.table;
      few = omega arith;
    }

pub loop-no-preserved : goal.loop-no-preserved
loop-no-preserved g c =
    let tree = tree_in (g.P.PageViews.pages c.args.pages.now) (g.P.PageViews.view c.args.pages.now) c.args.usable c.args.root in
    let here = key_here (keys_of c.loop-no.table) c.loop-no.done c.in-Some.no c.page_at.result c.page_at.ensures c.in-Some.is in
    record {
      bounds = c.loop-no.invariant.bounds;
      filling = filling_more tree c.loop-no.done c.in-Some.no c.loop-no.table c.note_children.new.table c.loop-no.invariant.filling here
          (children_noted tree c.in-Some.no c.loop-no.table c.note_children.new.table c.in_ok-note_children.ensures.ok);
      room = room_more tree c.loop-no.done c.in-Some.no c.loop-no.room c.if-branch.room c.in_ok-note_children.field-0 c.loop-no.table c.note_children.new.table
          c.loop-no.invariant.filling here
          (children_noted tree c.in-Some.no c.loop-no.table c.note_children.new.table c.in_ok-note_children.ensures.ok) c.loop-no.invariant.room
          (children_none tree c.in-Some.no c.in_ok-note_children.field-0 c.in_ok-note_children.ensures.none)
          (elim c.if-branch.branch [
            | then-branch w ↦ counted_one c.in_ok-note_children.field-0 c.loop-no.room c.if-branch.room w.if-branch.true w.room-is
            | else-branch w ↦ counted_none c.in_ok-note_children.field-0 c.loop-no.room c.if-branch.room w.if-branch.false w.room-is
          ]);
      few = elim c.if-branch.branch [
        | then-branch w ↦ omega (arith, w.room-is, c.loop-no.invariant.few)
        | else-branch w ↦ omega (arith, w.room-is, c.loop-no.invariant.few)
      ];
    }

pub returns : goal.returns
returns g c =
    let tree = tree_in (g.P.PageViews.pages c.args.pages.now) (g.P.PageViews.view c.args.pages.now) c.args.usable c.args.root in
    let none = sym c.page_at.ensures ∙ c.in_default.is in
    record {
      says = filling_says tree c.loop-no.done c.loop-no.table c.loop-no.invariant.bounds c.loop-no.invariant.filling none;
      enough = filling_room tree c.loop-no.done c.loop-no.room c.loop-no.table c.loop-no.invariant.bounds c.loop-no.invariant.filling none
          c.loop-no.invariant.room;
    }

pub overflow_add-room : goal.overflow_add-room
overflow_add-room g c =
    let tree = tree_in (g.P.PageViews.pages c.args.pages.now) (g.P.PageViews.view c.args.pages.now) c.args.usable c.args.root in
    let few = filling_few tree c.loop-no.done c.loop-no.table c.loop-no.invariant.bounds c.loop-no.invariant.filling in
    let within = key_within (keys_of c.loop-no.table) c.loop-no.done c.in-Some.no c.page_at.result c.page_at.ensures c.in-Some.is in
    let held = held_few (g.P.PageViews.pages c.args.pages.now) (g.P.PageViews.view c.args.pages.now) in
    omega (arith, few, within, held, c.size-size.ensures.size, c.loop-no.invariant.few)
