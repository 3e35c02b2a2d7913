use Rattle.std.proofs.Common.{◌≡◌, ◌∙◌, ap, arith, map, length}
use Rattle.std.specs.List.{range_with_len}
use Rattle.std.proofs.lemmas.List.FromFn.{length-map-range_with_len}
use Rattle.sx_gen.specs.Draws.{taken_leaf, taken_leaves}
use Rattle.sx_gen.proofs.Drawing.{state_more, leaves_more, leaves_below}
use Rattle.sx_gen.proofs.draws.draw_leaves.Goals as goal

pub loop-k-preserved : goal.loop-k-preserved
loop-k-preserved c = record {
  state = state_more _ c.loop-k._k _ _ c.loop-k.invariant.state c.draw.ensures.state;
  so_far = leaves_more _ _ c.loop-k._k _ _ _ _ c.loop-k.invariant.state c.draw.ensures.value c.loop-k.invariant.so_far c.in_ok-push.ensures.items;
}

pub returns-clause-value : goal.returns-clause-value
unfolding taken_leaves
returns-clause-value c =
    let end : c.loop-k._k ≡ c.args.commits = omega (arith, c.loop-k.auto._k-end) in
    c.loop-k.invariant.so_far ∙ ap (λ n. map (taken_leaf c.args.draws.now.state c.args.leaves) (range_with_len 0 n)) end

pub returns-clause-below : goal.returns-clause-below
returns-clause-below c = leaves_below _ c.args.leaves c.loop-k._k _ c.requires c.loop-k.invariant.so_far

pub returns-clause-len : goal.returns-clause-len
returns-clause-len c =
    let end : c.loop-k._k ≡ c.args.commits = omega (arith, c.loop-k.auto._k-end) in
    ap length c.loop-k.invariant.so_far ∙ length-map-range_with_len (taken_leaf c.args.draws.now.state c.args.leaves) 0 c.loop-k._k ∙ end
