use Rattle.std.proofs.Common.{◌≡◌, ◌<◌, length, slice_index}
use Rattle.sx_chain.specs.Links.{numbers_of}
use Rattle.sx_chain.proofs.chains.Chains.oldest_before.Given as goal

-- an item of the same number
abbrev pub invariant-loop-further : goal.invariant-loop-further
invariant-loop-further l = (l.oldest < length (numbers_of l.self-inside.nodes.items)) × (slice_index (numbers_of l.self-inside.nodes.items) l.oldest ≡ slice_index (numbers_of l.self-inside.nodes.items) l.place)

abbrev pub decreases-loop-further : goal.decreases-loop-further
decreases-loop-further l = l.oldest
