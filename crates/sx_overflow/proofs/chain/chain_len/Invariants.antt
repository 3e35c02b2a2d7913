use Rattle.std.proofs.Common.{◌≡◌, ◌+◌, ◌-◌, length}
use Rattle.sx_overflow.specs.Chains.{chain_of}
use Rattle.sx_overflow.proofs.chain.chain_len.Given as goal

-- the pages met so far and the chain that is left make the whole chain
abbrev pub invariant-loop-met : goal.invariant-loop-met
invariant-loop-met g l =
    length (chain_of (g.P.PageViews.view l.pages) l.link l.most)
    ≡ l.met + length (chain_of (g.P.PageViews.view l.pages) l.at (l.most - l.met))
