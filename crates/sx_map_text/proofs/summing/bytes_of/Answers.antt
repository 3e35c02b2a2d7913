use Rattle.std.proofs.Common.{sym, subst}
use Rattle.sx_map_text.specs.Rest.{moment_labels, AreBytesOf}
use Rattle.sx_map_text.proofs.summing.bytes_of.Goals as goal

pub returns-in_ok-page_map-in-Present : goal.returns-in_ok-page_map-in-Present
returns-in_ok-page_map-in-Present g c = λ roots counted.
    let labels = moment_labels (g.P.PageViews.pages c.args.pages.now) (g.P.PageViews.view c.args.pages.now) c.args.layout.now roots in
    let page_size = c.args.layout.now.page_size in
    subst (λ stretch. AreBytesOf labels page_size stretch c.page_bytes-in-Present.result) (sym c.in-Present.is)
    (c.page_bytes-in-Present.ensures labels page_size c.in-Present.page (sym (c.in_ok-page_map-in-Present.ensures.labels roots counted)))
