use Rattle.std.proofs.Common.{◌≡◌, ◌<◌, length, slice_index, arith, rules}
use Rattle.sx_base.specs.Places.{last_place}
use Rattle.sx_chain.specs.Newest.{has_number}
use Rattle.sx_chain.specs.Heads.{place_below}
use Rattle.sx_chain.specs.Links.{numbers_of, IsFar}
use Rattle.sx_base.proofs.Places.{reach}
use Rattle.sx_chain.proofs.Linked.{along_head, along_follow, link_read, far_read, follow_falls}
use Rattle.sx_chain.proofs.chains.Chains.newest.Given
use Rattle.sx_chain.proofs.chains.Chains.newest.Goals as goal

pub loop-found-init : goal.loop-found-init
loop-found-init g c =
    let numbers = numbers_of c.self.inside.nodes.items in
    let head : c.head-found.result ≡ last_place (has_number numbers c.args.page) (length numbers)
    = search rules in
    rw head (along_head numbers c.args.page c.args.before c.args.steps.now)

-- the item before, and the far end, of the place in hand
link : (g : Given.Over) (c : goal.After-follow-found g)
    → (place_below c.index.result.now.end) ≡ last_place (has_number (numbers_of c.self.inside.nodes.items)
    (slice_index (numbers_of c.self.inside.nodes.items) c.in-Some.place)) c.in-Some.place
link g c =
    let numbers = numbers_of c.self.inside.nodes.items in
    let along = rw c.in-Some.is at c.loop-found.invariant in
    let within : c.in-Some.place < length numbers = omega (arith, along.within) in
    link_read c.self.inside.nodes.items c.in-Some.place c.index.result.now c.self.invariant.0 within c.index.ensures

far : (g : Given.Over) (c : goal.After-follow-found g)
    → IsFar (numbers_of c.self.inside.nodes.items) (slice_index (numbers_of c.self.inside.nodes.items) c.in-Some.place) (place_below c.index.result.now.end) c.in-Some.place c.index.result.now.far
far g c =
    let numbers = numbers_of c.self.inside.nodes.items in
    let along = rw c.in-Some.is at c.loop-found.invariant in
    let within : c.in-Some.place < length numbers = omega (arith, along.within) in
    far_read c.self.inside.nodes.items c.in-Some.place c.index.result.now c.self.invariant.3 within c.index.ensures

pub loop-found-smaller : goal.loop-found-smaller
loop-found-smaller g c =
    let numbers = numbers_of c.self.inside.nodes.items in
    let falls = follow_falls numbers (slice_index numbers c.in-Some.place) c.in-Some.place c.index.result.now.far c.args.before (place_below c.index.result.now.end) (link g c) (far g c) in
    let less : reach c.follow-found.result < reach c.loop-found.found = rw (c.follow-found.ensures.link, c.in-Some.is) falls in
    less

pub loop-found-preserved : goal.loop-found-preserved
loop-found-preserved g c =
    let along = rw c.in-Some.is at c.loop-found.invariant in
    rw (c.follow-found.ensures.counted, c.follow-found.ensures.link)
    (along_follow (numbers_of c.self.inside.nodes.items) c.args.page c.args.before c.args.steps.now c.loop-found.steps c.in-Some.place
    c.index.result.now.far (place_below c.index.result.now.end) along c.if-place-before.false (link g c) (far g c))
