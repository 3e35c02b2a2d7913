use Rattle.sx_row.proofs.Joined.{is_joined, is_few, found_then}
use Rattle.sx_row.proofs.payload.row_payload.Goals as goal

pub returns-in-Some-clause-bytes : goal.returns-in-Some-clause-bytes
returns-in-Some-clause-bytes g c =
    let size = g.P.PageViews.pages c.args.pages.now in
    let view = g.P.PageViews.view c.args.pages.now in
    is_joined size view c.args.usable (g.P.PageViews.page_size c.args.pages.now) c.args.page.now c.in-Some.bytes.now c.args.cell.now
    c.size-size.ensures.whole c.requires.within (c.in-Some.ensures.payload size view)

pub returns-in-Some-clause-few : goal.returns-in-Some-clause-few
returns-in-Some-clause-few g c =
    let size = g.P.PageViews.pages c.args.pages.now in
    let view = g.P.PageViews.view c.args.pages.now in
    is_few size view c.args.usable (g.P.PageViews.page_size c.args.pages.now) c.args.page.now c.in-Some.bytes.now c.args.cell.now
    c.size-size.ensures.whole c.requires.within c.requires.least c.requires.held c.requires.read
    (is_joined size view c.args.usable (g.P.PageViews.page_size c.args.pages.now) c.args.page.now c.in-Some.bytes.now c.args.cell.now
    c.size-size.ensures.whole c.requires.within (c.in-Some.ensures.payload size view))

pub returns-then-branch-clause-few : goal.returns-then-branch-clause-few
returns-then-branch-clause-few g c =
    is_few (g.P.PageViews.pages c.args.pages.now) (g.P.PageViews.view c.args.pages.now) c.args.usable (g.P.PageViews.page_size c.args.pages.now)
    c.args.page.now c.as_slice.result.now c.args.cell.now
    c.size-size.ensures.whole c.requires.within c.requires.least c.requires.held c.requires.read
    (found_then c.in_ok-join.field-0 c.as_slice.result.now c.join.new.room.items _ c.in_ok-join.ensures.bytes c.if-branch.true c.as_slice.ensures.value)
