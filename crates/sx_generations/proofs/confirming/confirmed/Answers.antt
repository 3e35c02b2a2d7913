use Rattle.std.proofs.Common.{◌∙◌, sym, ap, arith}
use Rattle.std.proofs.lemmas.Result.{IfOk-weaker}
use Rattle.sx_generations.specs.Confirmed.{has_no_header}
use Rattle.sx_generations.proofs.Records.{none_with_header, none_with_few, groups_are}
use Rattle.sx_generations.proofs.confirming.confirmed.Goals as goal

pub returns-then-not-has_no_header : goal.returns-then-not-has_no_header
returns-then-not-has_no_header c = λ page_size are.
    c.nothing.ensures ∙ none_with_header page_size _ _ are (sym (c.has_no_header.ensures ∙ ap has_no_header c.state.ensures) ∙ c.if-not-has_no_header.true)

pub returns-then-entries-lt2 : goal.returns-then-entries-lt2
returns-then-entries-lt2 c = λ page_size are. c.nothing-then-entries-lt2.ensures ∙ none_with_few page_size _ _ are (omega arith)

pub returns : goal.returns
returns c =
    IfOk-weaker c.confirmed_by.result _ _
    (λ groups is page_size are.
    groups_are page_size _ _ _ _ are (sym (c.has_no_header.ensures ∙ ap has_no_header c.state.ensures) ∙ c.if-not-has_no_header.false) (c.page_size_of.ensures.size page_size are) is)
    c.confirmed_by.ensures
