use Rattle.std.proofs.Common.{ap, sym, ◌∙◌, length}
use Rattle.sx_base.specs.Places.{first_place}
use Rattle.sx_chain.specs.Newest.{has_number}
use Rattle.sx_chain.proofs.Oldest.{first_none, newest_there}
use Rattle.sx_chain.proofs.chains.Chains.oldest.Goals as goal

pub oldest_before-requires : goal.oldest_before-requires
oldest_before-requires c = (newest_there c.args.self.now c.args.page c.in-Some.place c.head.result c.head.ensures c.in-Some.is).0

pub returns-in-Some : goal.returns-in-Some
returns-in-Some c =
    let same = (newest_there c.args.self.now c.args.page c.in-Some.place c.head.result c.head.ensures c.in-Some.is).1 in
    c.oldest_before.ensures ∙ ap (λ number. first_place (has_number c.args.self.now number) (length c.args.self.now)) same

pub returns-in-None : goal.returns-in-None
returns-in-None c = sym (first_none (has_number c.args.self.now c.args.page) (length c.args.self.now) (sym c.head.ensures ∙ c.in-None.is))
