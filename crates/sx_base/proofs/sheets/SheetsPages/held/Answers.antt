use Rattle.std.proofs.Common.{sym, ◌∙◌, length, arith}
use Rattle.sx_base.specs.Sheets.{sheet_view}
use Rattle.sx_base.proofs.HeldPages.{held_few, walk_start, walk_step, walk_falls, walk_meets, walk_all}
use Rattle.sx_base.proofs.sheets.SheetsPages.held.Goals as goal

pub loop-no-init : goal.loop-no-init
loop-no-init c =
    walk_start (length c.args.self.now.sheets.now) (sheet_view c.args.self.now.page_size c.args.self.now.sheets.now)

pub overflow_add-count : goal.overflow_add-count
overflow_add-count c =
    let size = length c.args.self.now.sheets.now in
    let view = sheet_view c.args.self.now.page_size c.args.self.now.sheets.now in
    let meets = walk_meets size view c.loop-no.at c.loop-no.count c.in-Some.no c.loop-no.invariant (sym c.next_held.ensures ∙ c.in-Some.is) in
    omega (arith, meets.0, held_few size view, c.args.self.now.few)

pub loop-no-smaller : goal.loop-no-smaller
loop-no-smaller c =
    walk_falls (length c.args.self.now.sheets.now) (sheet_view c.args.self.now.page_size c.args.self.now.sheets.now)
    c.loop-no.at c.in-Some.no (sym c.next_held.ensures ∙ c.in-Some.is)

pub loop-no-preserved : goal.loop-no-preserved
loop-no-preserved c =
    walk_step (length c.args.self.now.sheets.now) (sheet_view c.args.self.now.page_size c.args.self.now.sheets.now)
    c.loop-no.at c.loop-no.count c.in-Some.no c.loop-no.invariant (sym c.next_held.ensures ∙ c.in-Some.is)

pub returns : goal.returns
returns c =
    walk_all (length c.args.self.now.sheets.now) (sheet_view c.args.self.now.page_size c.args.self.now.sheets.now)
    c.loop-no.at c.loop-no.count c.loop-no.invariant (sym c.next_held.ensures ∙ c.in_default.is)
