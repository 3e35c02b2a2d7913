-- From one settled moment to the next.
use Rattle.std.proofs.Common.{◌≡◌, ℕ, ◌-◌, ◌<◌, true, false, Bool, IsTrue, List, length, map, slice_index, slice_index_or, Option, None, refl, sym, ap, subst, ◌∙◌, arith}
use Rattle.std.specs.List.{Contains, All}
use Rattle.std.specs.Option.{option_map}
use Rattle.std.proofs.lemmas.Grind.{get_or_default_zero}
use Rattle.std.proofs.lemmas.Option.{get_or_from_slice_get}
use Rattle.std.specs.Prelude.{slice_get, Some, ◌+◌, ◌≤◌}
use Rattle.sx_base.specs.declared.moment.Moment.{Moment}
use Rattle.sx_base.specs.declared.moment.Moment.TheVariants.{File}
use Rattle.sx_bytes.specs.declared.encoding.Encoding.{Encoding}
use Rattle.sx_history.specs.Schemas.{IsSchemaAt, WalkedSchema}
use Rattle.sx_history.specs.Standing.{Covers, StandBut}
use Rattle.sx_history.proofs.Keeping.{map_at}
use Rattle.sx_moment.specs.Gathered.{Gathered, is_moment, moments_of, size_at}
use Rattle.sx_moment.specs.Sweep.{AreChanged, HoldViewed, Swept, moment_at}
use Rattle.sx_moment.specs.Turns.{is_among}
use Rattle.sx_moment.specs.Views.{bytes_of, view_of}
use Rattle.sx_moment.proofs.Numbered.{among_at, among_contains}
use Rattle.sx_schemas.specs.Behind.{HasViews, IsReadBehind, TellsSchema}

pub covered : (case : Gathered) (moment : Moment) (numbers : List ℕ) → HoldViewed case numbers → IsTrue (is_moment case moment) → Covers numbers (view_of case moment)
covered case moment numbers held is number some = among_contains numbers number (held moment is number some)

contains_among : (numbers : List ℕ) (page : ℕ) → Contains numbers page → is_among numbers page ≡ true
contains_among numbers page there =
    subst (λ number. is_among numbers number ≡ true) (sym (get_or_default_zero numbers there.0 page there.1) ∙ there.2) (among_at numbers there.0 there.1)

here_again : (xs : List ℕ) (k d : ℕ) → k < length xs → slice_index_or xs k (slice_index_or xs k d) ≡ slice_index_or xs k d
here_again xs k d below = get_or_default_zero xs k (slice_index_or xs k d) below ∙ sym (get_or_default_zero xs k d below)

pub all_ranks : (swept : Swept) → AreChanged swept → All (λ rank. rank < length swept.numbers) swept.changed
all_ranks swept changed k d below =
    changed.ranks (slice_index_or swept.changed k d) (contains_among swept.changed (slice_index_or swept.changed k d) (k, below, here_again swept.changed k d below))

not_changed : (changed : List ℕ) (rank : ℕ) (b : Bool) → is_among changed rank ≡ b → (Contains changed rank → ⊥) → is_among changed rank ≡ false
not_changed changed rank true is never = absurd (never (among_contains changed rank is))
not_changed changed rank false is never = is

-- a page whose rank isn't listed has the view of the last settled moment
pub stands : (swept : Swept) (numbers : List ℕ) (views : List (Option (List ℕ))) → AreChanged swept → numbers ≡ swept.numbers
    → views ≡ map (view_of swept.case (moment_at swept.case (swept.settled - 1))) swept.numbers
    → StandBut swept.changed numbers views (view_of swept.case swept.moment)
stands swept numbers views changed same are rank below never =
    let inside : rank < length swept.numbers = let long = ap length same in omega arith in
    let kept = changed.kept rank inside (not_changed swept.changed rank (is_among swept.changed rank) refl never) in
    let number = slice_index swept.numbers rank in
    ap (λ list. slice_index_or list rank None) are
    ∙ map_at (view_of swept.case (moment_at swept.case (swept.settled - 1))) swept.numbers rank inside
    ∙ ap (option_map (bytes_of swept.case number)) (sym kept.1)
    ∙ ap (λ list. view_of swept.case swept.moment (slice_index list rank)) (sym same)

-- a walk over schemas that stands at a moment has its schema
pub tells_there : (case : Gathered) (moment : Moment) (numbers : List ℕ) (usable : ℕ) (encoding : Encoding) (walk : WalkedSchema) → walk.numbers ≡ numbers
    → IsSchemaAt (size_at case moment) (view_of case moment) usable encoding walk → TellsSchema case moment numbers usable encoding walk
tells_there case moment numbers usable encoding walk numbers_are at =
    record {
      stands = record { numbers_are = numbers_are; views_are = at.views ∙ ap (map (view_of case moment)) numbers_are };
      entries = at.entries;
    }

-- once the moment in hand is settled, the walk over schemas that stands there is behind
pub read_behind : (before now : Swept) (walk : WalkedSchema) → now.case ≡ before.case → now.numbers ≡ before.numbers → now.settled ≡ before.place + 1
    → slice_get (moments_of before.case) before.place ≡ Some before.moment → HasViews before.case before.moment before.numbers walk → IsReadBehind now (Some walk)
read_behind before now walk case numbers settled there at =
    let place : now.settled - 1 ≡ before.place = omega (arith, settled) in
    let some : 1 ≤ now.settled = omega (arith, settled) in
    let moment : moment_at now.case (now.settled - 1) ≡ before.moment =
    ap (λ n. moment_at now.case n) place ∙ ap (λ c. moment_at c before.place) case ∙ get_or_from_slice_get (moments_of before.case) before.place before.moment File there in (
      some,
      record {
        numbers_are = at.numbers_are ∙ sym numbers;
        views_are = at.views_are ∙ ap (λ m. map (view_of before.case m) before.numbers) (sym moment) ∙ ap (λ c. map (view_of c (moment_at now.case (now.settled - 1))) before.numbers) (sym case) ∙ ap (map (view_of now.case (moment_at now.case (now.settled - 1)))) (sym numbers);
      },
    )
