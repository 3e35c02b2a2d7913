-- From moment to moment: what the walk over trees wants.
use Rattle.std.proofs.Common.{◌≡◌, ℕ, ℤ, ◌-◌, List, map, sym, ap, ◌∙◌, arith}
use Rattle.std.proofs.lemmas.Option.{get_or_from_slice_get}
use Rattle.std.specs.Prelude.{slice_get, Some, ◌+◌, ◌≤◌}
use Rattle.sx_base.specs.declared.moment.Moment.{Moment}
use Rattle.sx_base.specs.declared.moment.Moment.TheVariants.{File}
use Rattle.sx_history.specs.History.{found_of}
use Rattle.sx_history.specs.Standing.{StandsAt, Walk}
use Rattle.sx_moment.specs.Gathered.{Gathered, moments_of, size_at}
use Rattle.sx_moment.specs.Sweep.{Swept, moment_at}
use Rattle.sx_moment.specs.Views.{view_of}
use Rattle.sx_history_text.specs.Trees.{IsAt, IsBehind, Says}

-- a walk that stands at a moment says what the tree says
pub says_there : (case : Gathered) (moment : Moment) (numbers : List ℕ) (usable root : ℕ) (rowid : ℤ) (walk : Walk) → walk.numbers ≡ numbers → walk.rowid ≡ rowid
    → StandsAt (size_at case moment) (view_of case moment) usable root walk → Says case moment numbers usable root rowid walk
says_there case moment numbers usable root rowid walk numbers_are rowid_is at =
    record {
      stands = record {
        numbers_are = numbers_are;
        rowid_is = rowid_is;
        views_are = at.views ∙ ap (map (view_of case moment)) numbers_are;
      };
      found = at.found ∙ ap (found_of (size_at case moment) (view_of case moment) usable root) rowid_is;
      faults = at.faults;
    }

-- once the moment in hand is settled, the walk that stands there is behind
pub behind_now : (before now : Swept) (rowid : ℤ) (walk : Walk) → now.case ≡ before.case → now.numbers ≡ before.numbers → now.settled ≡ before.place + 1
    → slice_get (moments_of before.case) before.place ≡ Some before.moment → IsAt before.case before.moment before.numbers rowid walk → IsBehind now rowid (Some walk)
behind_now before now rowid walk case numbers settled there at =
    let place : now.settled - 1 ≡ before.place = omega (arith, settled) in
    let some : 1 ≤ now.settled = omega (arith, settled) in
    let moment : moment_at now.case (now.settled - 1) ≡ before.moment =
    ap (λ n. moment_at now.case n) place ∙ ap (λ c. moment_at c before.place) case ∙ get_or_from_slice_get (moments_of before.case) before.place before.moment File there in (
      some,
      record {
        numbers_are = at.numbers_are ∙ sym numbers;
        rowid_is = at.rowid_is;
        views_are = at.views_are ∙ ap (λ m. map (view_of before.case m) before.numbers) (sym moment) ∙ ap (λ c. map (view_of c (moment_at now.case (now.settled - 1))) before.numbers) (sym case) ∙ ap (map (view_of now.case (moment_at now.case (now.settled - 1)))) (sym numbers);
      },
    )
