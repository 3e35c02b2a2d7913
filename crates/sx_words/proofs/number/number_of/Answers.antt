use Rattle.std.proofs.Common.{◌<◌, ◌^◌, sym, ◌∙◌, rules}
use Rattle.sx_words.proofs.Numbers.{unread_is}
use Rattle.sx_words.proofs.number.number_of.Goals as goal

pub returns-in_default-clause-value : goal.returns-in_default-clause-value
returns-in_default-clause-value c =
    let small : c.args.most < 2 ^ 64 = search rules in
    unread_is _ _ _ _ _ c.parse.ensures.value.0 c.in_default.is (sym c.is_number.ensures ∙ c.if-not-is_number.false) small
