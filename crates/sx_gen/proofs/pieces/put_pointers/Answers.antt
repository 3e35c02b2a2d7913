use Rattle.std.proofs.Common.{◌+◌, ◌-◌, ◌*◌, ◌++◌, ◌∙◌, ap}
use Rattle.std.specs.Int.{w16, to_be_bytes}
use Rattle.sx_gen.proofs.Lists.{piece_more, place_more}
use Rattle.sx_gen.proofs.pieces.put_pointers.Goals as goal

pub loop-i-preserved : goal.loop-i-preserved
loop-i-preserved c =
    let size = c.args.size in
    let place = place_more size c.args.count c.loop-i._i c.loop-i.start c.loop-i-test.true c.requires c.loop-i.invariant.place in
    record {
      place = place.0;
      so_far = piece_more (λ i. to_be_bytes w16 (4096 - size * (i + 1))) c.loop-i._i _ _ _ c.loop-i.invariant.so_far
          (c.in_ok-extend_from_slice.ensures.items ∙ ap (λ bytes. c.loop-i.out.items ++ bytes) (c.to_be_bytes.ensures ∙ ap (to_be_bytes w16) place.1));
    }
