-- The totals of a moment that are found when all moments are gone over are those that `map` tells.
use Rattle.std.proofs.Common.{◌≡◌, ℕ, ◌*◌, List, map, get_or, slice_get, Option, Some, None, unwrap_or, refl, sym, ap, ◌∙◌}
use Rattle.std.proofs.lemmas.List.{get_or-map}
use Rattle.std.proofs.lemmas.Option.{slice_get_within, get_or_from_slice_get}
use Rattle.sx_base.specs.declared.moment.Moment.{Moment}
use Rattle.sx_header.specs.declared.header.Header.{Header}
use Rattle.sx_map_text.specs.Map.{headless_totals}
use Rattle.sx_map_text.specs.declared.totals.MapTotals.{MapTotals}
use Rattle.sx_moment.specs.Gathered.{Gathered, moments_of, size_at}
use Rattle.sx_moment.specs.Heads.{head_of, layout_of}
use Rattle.sx_sweep.specs.Moments.{totals_by as swept_by, totals_at as swept_at}
use Rattle.sx_sweep.specs.declared.totals.MomentTotals.{MomentTotals}
use Rattle.sx_app.specs.Labels.{roots_at}
use Rattle.sx_app.specs.Reports.{totals_by, totals_at}

none_by : (case : Gathered) (moment : Moment) (head : Option Header) → None ≡ swept_by case moment head → totals_by case moment head ≡ headless_totals (size_at case moment) case.header.page_size
none_by case moment None none = refl
none_by case moment (Some head) none = absurd cc

-- without a header
pub headless_is : (case : Gathered) (moment : Moment) → None ≡ swept_at case moment → totals_at case moment ≡ headless_totals (size_at case moment) case.header.page_size
unfolding totals_at swept_at
headless_is case moment none = none_by case moment (head_of case moment) none

-- the totals that were found, with how many bytes there are in all
abbrev told_by : Gathered → Moment → MomentTotals → MapTotals
told_by case moment swept = record {
  bytes = size_at case moment * (layout_of case moment).page_size;
  owned = swept.owned;
  slack = swept.slack;
  fault = swept.fault;
  dead = swept.dead;
}

some_by : (case : Gathered) (moment : Moment) (swept : MomentTotals) (head : Option Header) → Some swept ≡ swept_by case moment head → totals_by case moment head ≡ told_by case moment swept
unfolding roots_at
some_by case moment swept None none = absurd cc
some_by case moment swept (Some head) is = ap (told_by case moment) (ap (λ o. unwrap_or o swept) (sym is))

-- with one
pub headed_is : (case : Gathered) (moment : Moment) (swept : MomentTotals) → Some swept ≡ swept_at case moment → totals_at case moment ≡ record {
  bytes = size_at case moment * (layout_of case moment).page_size;
  owned = swept.owned;
  slack = swept.slack;
  fault = swept.fault;
  dead = swept.dead;
}
unfolding totals_at swept_at
headed_is case moment swept is = some_by case moment swept (head_of case moment) is

-- those that stand at the place of a moment
pub swept_there : (case : Gathered) (i : ℕ) (moment : Moment) (totals : List (Option MomentTotals)) → totals ≡ map (swept_at case) (moments_of case)
    → slice_get (moments_of case) i ≡ Some moment → get_or totals i None ≡ swept_at case moment
swept_there case i moment totals are there =
    let below = slice_get_within (moments_of case) i moment there in
    ap (λ all. get_or all i None) are ∙ get_or-map (swept_at case) (moments_of case) i moment None below ∙ ap (swept_at case) (get_or_from_slice_get (moments_of case) i moment moment there)
