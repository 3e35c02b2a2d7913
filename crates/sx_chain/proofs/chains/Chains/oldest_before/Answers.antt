use Rattle.std.proofs.Common.{◌≡◌, None, length, slice_index, true, sym, ap, ◌∙◌, arith, rules}
use Rattle.sx_base.specs.Places.{last_place}
use Rattle.sx_chain.specs.Newest.{has_number}
use Rattle.sx_chain.specs.Links.{numbers_of}
use Rattle.sx_chain.proofs.Linked.{link_read, far_read}
use Rattle.sx_chain.proofs.Oldest.{first_is, further_back, nothing_before}
use Rattle.sx_chain.proofs.chains.Chains.oldest_before.Goals as goal

pub loop-further-smaller : goal.loop-further-smaller
loop-further-smaller c =
    let numbers = numbers_of c.self.inside.nodes.items in
    let far = far_read c.self.inside.nodes.items c.loop-further.oldest c.index.result.now c.self.invariant.3 c.loop-further.invariant.0 c.index.ensures in
    (further_back numbers (slice_index numbers c.loop-further.oldest) c.index.result.now.end c.loop-further.oldest c.index.result.now.far c.in-Some.further far
    (sym c.further.ensures ∙ c.in-Some.is)).0

pub loop-further-preserved : goal.loop-further-preserved
loop-further-preserved c =
    let numbers = numbers_of c.self.inside.nodes.items in
    let far = far_read c.self.inside.nodes.items c.loop-further.oldest c.index.result.now c.self.invariant.3 c.loop-further.invariant.0 c.index.ensures in
    let further = further_back numbers (slice_index numbers c.loop-further.oldest) c.index.result.now.end c.loop-further.oldest c.index.result.now.far c.in-Some.further far
    (sym c.further.ensures ∙ c.in-Some.is) in
    (omega (arith, further.0, c.loop-further.invariant.0), further.1 ∙ c.loop-further.invariant.1)

pub returns : goal.returns
returns c =
    let numbers = numbers_of c.self.inside.nodes.items in
    let none : c.further.result ≡ None = search rules in
    let before = link_read c.self.inside.nodes.items c.loop-further.oldest c.index.result.now c.self.invariant.0 c.loop-further.invariant.0 c.index.ensures in
    let nothing = nothing_before c.index.result.now.end c.index.result.now.far (sym c.further.ensures ∙ none) in
    let same : has_number numbers (slice_index numbers c.loop-further.oldest) ≡ has_number numbers (slice_index numbers c.args.place) = ap (has_number numbers) c.loop-further.invariant.1 in
    let here : has_number numbers (slice_index numbers c.args.place) c.loop-further.oldest ≡ true = search rules in
    rw (← c.self.view_is) (sym (first_is (has_number numbers (slice_index numbers c.args.place)) (length numbers) c.loop-further.oldest c.loop-further.invariant.0 here
    (ap (λ test. last_place test c.loop-further.oldest) (sym same) ∙ sym before ∙ nothing)))
