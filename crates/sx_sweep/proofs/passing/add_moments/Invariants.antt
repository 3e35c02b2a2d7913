use Rattle.std.proofs.Common.{◌≡◌, ◌+◌, ◌-◌, ◌++◌, drop, length, map}
use Rattle.sx_images.specs.Images.{images_of}
use Rattle.sx_moment.specs.Gathered.{moments_of}
use Rattle.sx_sweep.specs.Growth.{Growing}
use Rattle.sx_sweep.specs.Moments.{totals_at}
use Rattle.sx_sweep.specs.Owning.{owned_under, block_under}
use Rattle.sx_sweep.specs.Behind.{IsBehind}
use Rattle.sx_sweep.specs.Passing.{IsKnown}
use Rattle.sx_sweep.proofs.passing.add_moments.Given as goal

abbrev pub invariant-loop-alloc : goal.invariant-loop-alloc
invariant-loop-alloc l =
    let case = l.fn.sweep.case in
    let moments = moments_of case in
    let images = images_of l.images in
    record {
      case_is : l.sweep.case ≡ case;
      numbers_are : l.sweep.numbers ≡ l.fn.sweep.numbers;
      known : IsKnown case l.fn.sweep.numbers l.images l.pass.known.owned l.pass.known.sums;
      before : IsBehind l.sweep l.behind l.pass.usable l.pass.known.sums;
      growing : Growing l.fn.pass.known.owned l.pass.known.owned (owned_under case images moments) (block_under case images moments)
          (owned_under case images (drop (l.sweep.place + 1) moments)) (block_under case images (drop (l.sweep.place + 1) moments));
      totals : l.pass.totals.items ++ map (totals_at case) (drop (l.sweep.place + 1) moments) ≡ map (totals_at case) moments;
    }

abbrev pub decreases-loop-alloc : goal.decreases-loop-alloc
decreases-loop-alloc l = length (moments_of l.fn.sweep.case) - l.sweep.place
