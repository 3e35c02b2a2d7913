use Rattle.std.proofs.Common.{◌≡◌, ◌*◌, length, ◌∙◌, ap, arith}
use Rattle.std.proofs.lemmas.List.FromFn.{length-map-range_with_len}
use Rattle.sx_gen.specs.Draws.{letter}
use Rattle.sx_gen.proofs.Drawing.{state_more, letters_more}
use Rattle.sx_gen.proofs.draws.draw_letters.Goals as goal

pub loop-k-preserved : goal.loop-k-preserved
loop-k-preserved c = record {
  state = state_more _ c.loop-k.k _ _ c.loop-k.invariant.state c.draw-number.ensures.state;
  so_far = letters_more _ c.loop-k.k _ _ _ _ _ c.loop-k.invariant.state c.draw-number.ensures.value c.first_letter.ensures.value c.loop-k.invariant.so_far c.in_ok-push.ensures.items;
}

pub returns-clause-len : goal.returns-clause-len
returns-clause-len c =
    let end : c.loop-k.k ≡ 12 * c.args.rows = omega arith in
    ap length c.loop-k.invariant.so_far ∙ length-map-range_with_len (letter c.args.draws.now.state) 0 c.loop-k.k ∙ end
