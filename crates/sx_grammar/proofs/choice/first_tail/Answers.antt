-- The first tail that is found.
use Rattle.std.proofs.Common.{sym, ◌∙◌, arith}
use Rattle.sx_grammar.proofs.ChoiceLemmas.{tails_hit}
use Rattle.sx_grammar.proofs.choice.first_tail.Goals as goal

pub returns-in-Some : goal.returns-in-Some
returns-in-Some c = sym c.loop-e.invariant ∙ tails_hit _ c.args.behind.now c.loop-e.e c.in-Some.reading c.in-Some.ensures (omega arith)
