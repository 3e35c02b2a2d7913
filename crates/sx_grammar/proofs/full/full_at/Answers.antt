-- A whole cell has a payload of two bytes or more.
use Rattle.sx_grammar.proofs.EarlyLemmas.{small_payload}
use Rattle.sx_grammar.proofs.full.full_at.Goals as goal

pub returns-then-payload-lt2 : goal.returns-then-payload-lt2
returns-then-payload-lt2 c = record {
  finds = small_payload c.args.usable c.args.bytes.now c.in_ok-payload.behind_size.now c.in_ok-payload.payload c.requires.least c.in_ok-payload.ensures.finds c.if-payload-lt2.true;
}
