use Rattle.std.proofs.Common.{sym, ◌∙◌, ap, length, slice_index, arith}
use Rattle.sx_base.specs.Held.{held_pages}
use Rattle.sx_base.specs.Sheets.{sheet_view}
use Rattle.sx_base.proofs.HeldPages.{walk_start, walk_step, walk_falls, walk_meets, walk_all}
use Rattle.sx_base.proofs.sheets.SheetsPages.held_at.Goals as goal

pub loop-no-init : goal.loop-no-init
loop-no-init c = record {
  walk = walk_start (length c.args.self.now.sheets.now) (sheet_view c.args.self.now.page_size c.args.self.now.sheets.now);
  before = omega arith;
}

pub returns-then-count-i : goal.returns-then-count-i
returns-then-count-i c =
    let size = length c.args.self.now.sheets.now in
    let view = sheet_view c.args.self.now.page_size c.args.self.now.sheets.now in
    let meets = walk_meets size view c.loop-no.at c.loop-no.count c.in-Some.no c.loop-no.invariant.walk (sym c.next_held.ensures ∙ c.in-Some.is) in
    sym meets.1 ∙ ap (slice_index (held_pages size view)) c.if-count-i.true

pub loop-no-smaller : goal.loop-no-smaller
loop-no-smaller c =
    walk_falls (length c.args.self.now.sheets.now) (sheet_view c.args.self.now.page_size c.args.self.now.sheets.now)
    c.loop-no.at c.in-Some.no (sym c.next_held.ensures ∙ c.in-Some.is)

pub loop-no-preserved : goal.loop-no-preserved
loop-no-preserved c = record {
  walk = walk_step (length c.args.self.now.sheets.now) (sheet_view c.args.self.now.page_size c.args.self.now.sheets.now)
      c.loop-no.at c.loop-no.count c.in-Some.no c.loop-no.invariant.walk (sym c.next_held.ensures ∙ c.in-Some.is);
  before = omega (arith, c.loop-no.invariant.before, c.if-count-i.false);
}

pub unreachable-requires : goal.unreachable-requires
unreachable-requires c =
    let all = walk_all (length c.args.self.now.sheets.now) (sheet_view c.args.self.now.page_size c.args.self.now.sheets.now)
    c.loop-no.at c.loop-no.count c.loop-no.invariant.walk (sym c.next_held.ensures ∙ c.in_default.is) in
    omega (arith, all, c.loop-no.invariant.before, c.requires)
