use Rattle.std.proofs.Common.{◌≡◌, Some, ap, sym, ◌∙◌}
use Rattle.sx_closure.specs.Chains.{page_before}
use Rattle.sx_closure.specs.Tallying.{one_at, left_at}
use Rattle.sx_walk.proofs.RenumberLemmas.{page_by_source}
use Rattle.sx_walk.proofs.renumber.goes_on.Goals as goal

pub returns-in-Some-Page : goal.returns-in-Some-Page
returns-in-Some-Page c = λ yes before over at none.
    let own = c.in-Some-Page.before in
    let mine : page_before (one_at c.args.table.now c.args.no) ≡ Some own =
    page_by_source (one_at c.args.table.now c.args.no) own (sym c.in-Some-Page.ensures ∙ ap Some c.in-Some-Page.field-0-is) in
    let both : Some own ≡ Some before = sym mine ∙ at in
    let same : own ≡ before = cc in
    c.is_some_left.ensures yes (c.left.ensures ∙ ap (left_at c.args.table.now) same ∙ none)
