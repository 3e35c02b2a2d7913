use Rattle.std.proofs.Common.{◌++◌, true, string_bytes, sym, subst}
use Rattle.sx_lines.specs.Lines.{IsNextLine}
use Rattle.sx_map_text.specs.Rest.{lines_along, moment_labels, page_rest, HasRoom}
use Rattle.sx_map_text.proofs.Walked.{begun_fits, end_step, pages_step, room_behind, room_begun, stretch_next, totals_next}
use Rattle.sx_map_text.proofs.map_lines.MapLinesLines.next_line.Goals as goal

pub invariant_of-self-in_err-begun-in-Some : goal.invariant_of-self-in_err-begun-in-Some
invariant_of-self-in_err-begun-in-Some g c =
    let kept = c.self.invariant in
    let labels = moment_labels (g.P.PageViews.pages c.self.inside.pages.now) (g.P.PageViews.view c.self.inside.pages.now) c.self.inside.layout c.self.inside.roots.now in
    record {
      counted = kept.counted;
      same_size = kept.same_size;
      least = kept.least;
      within = kept.within;
      small = kept.small;
      room = room_behind labels c.self.inside.layout.page_size c.self.inside.totals c.in-Some.stretch c.self.inside.stretches c.next.new.self c.in-Some.ensures.steps kept.room;
    }

pub with_begun-self-inside-requires-clause-owned : goal.with_begun-self-inside-requires-clause-owned
with_begun-self-inside-requires-clause-owned g c =
    (begun_fits _ c.self.inside.layout.page_size c.self.inside.totals c.in-Some.stretch c.self.inside.stretches c.next.new.self c.in_ok-begun-in-Some.begun (string_bytes c.begin.new.line)
    c.in-Some.ensures.steps (c.in_ok-begun-in-Some.ensures c.self.inside.roots.now c.self.invariant.counted) c.self.invariant.room).0

pub with_begun-self-inside-requires-clause-slack : goal.with_begun-self-inside-requires-clause-slack
with_begun-self-inside-requires-clause-slack g c =
    (begun_fits _ c.self.inside.layout.page_size c.self.inside.totals c.in-Some.stretch c.self.inside.stretches c.next.new.self c.in_ok-begun-in-Some.begun (string_bytes c.begin.new.line)
    c.in-Some.ensures.steps (c.in_ok-begun-in-Some.ensures c.self.inside.roots.now c.self.invariant.counted) c.self.invariant.room).1

pub with_begun-self-inside-requires-clause-fault : goal.with_begun-self-inside-requires-clause-fault
with_begun-self-inside-requires-clause-fault g c =
    (begun_fits _ c.self.inside.layout.page_size c.self.inside.totals c.in-Some.stretch c.self.inside.stretches c.next.new.self c.in_ok-begun-in-Some.begun (string_bytes c.begin.new.line)
    c.in-Some.ensures.steps (c.in_ok-begun-in-Some.ensures c.self.inside.roots.now c.self.invariant.counted) c.self.invariant.room).2

pub invariant_of-self-in-Some : goal.invariant_of-self-in-Some
invariant_of-self-in-Some g c =
    let kept = c.self.invariant in
    let labels = moment_labels (g.P.PageViews.pages c.self.inside.pages.now) (g.P.PageViews.view c.self.inside.pages.now) c.self.inside.layout c.self.inside.roots.now in
    record {
      counted = kept.counted;
      same_size = kept.same_size;
      least = kept.least;
      within = kept.within;
      small = kept.small;
      room = subst (λ totals. HasRoom labels c.self.inside.layout.page_size totals c.next.new.self) (sym c.with_begun-self-inside.ensures)
          (room_begun labels c.self.inside.layout.page_size c.self.inside.totals c.in-Some.stretch c.self.inside.stretches c.next.new.self c.in_ok-begun-in-Some.begun
          (string_bytes c.begin.new.line) c.in-Some.ensures.steps (c.in_ok-begun-in-Some.ensures c.self.inside.roots.now kept.counted) kept.room);
    }

pub returns-in_ok-begun-in-Some : goal.returns-in_ok-begun-in-Some
returns-in_ok-begun-in-Some g c =
    let labels = moment_labels (g.P.PageViews.pages c.self.inside.pages.now) (g.P.PageViews.view c.self.inside.pages.now) c.self.inside.layout c.self.inside.roots.now in
    let page_size = c.self.inside.layout.page_size in
    let begun = c.in_ok-begun-in-Some.begun in
    let line = string_bytes c.begin.new.line in
    let none = rw c.if-branch.false at c.in_ok-next_line-in-Pages.ensures in
    let step = stretch_next labels page_size c.self.inside.totals c.in-Some.stretch c.self.inside.stretches c.next.new.self begun line c.in-Some.ensures.steps
    (c.in_ok-begun-in-Some.ensures c.self.inside.roots.now c.self.invariant.counted) in
    let done = subst (λ totals. IsNextLine (lines_along labels page_size c.self.inside.totals c.self.inside.stretches)
    (page_rest begun.lines ++ lines_along labels page_size totals c.next.new.self) line true) (sym c.with_begun-self-inside.ensures) step in
    pages_step c.self.inside.next (page_rest c.self.inside.begun) (page_rest begun.lines) c.args.self.now labels page_size c.self.inside.totals c.with_begun-self-inside.result
    c.self.inside.stretches c.next.new.self line c.in-Pages.is c.self.view_is none done

pub returns-in_ok-put_totals_line-in-None : goal.returns-in_ok-put_totals_line-in-None
returns-in_ok-put_totals_line-in-None g c =
    let labels = moment_labels (g.P.PageViews.pages c.self.inside.pages.now) (g.P.PageViews.view c.self.inside.pages.now) c.self.inside.layout c.self.inside.roots.now in
    let page_size = c.self.inside.layout.page_size in
    let line = string_bytes c.put_totals_line.new.line in
    let none = rw c.if-branch.false at c.in_ok-next_line-in-Pages.ensures in
    end_step c.self.inside.next (page_rest c.self.inside.begun) c.args.self.now labels page_size c.self.inside.totals c.self.inside.stretches line c.in-Pages.is c.self.view_is none
    (totals_next labels page_size c.self.inside.totals c.self.inside.stretches line c.in-None.ensures.steps.0 c.in_ok-put_totals_line-in-None.ensures)
