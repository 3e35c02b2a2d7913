-- The moments of a case in their order, one after the other, with the pages whose images changed on the way.
use Rattle.std.specs.Prelude.{ℕ, ◌≡◌, ◌≢◌, ◌+◌, ◌-◌, ◌<◌, ◌≤◌, ◌⊎◌, true, false, nat_eq, is_some, IsTrue, List, length, slice_index, slice_index_or}
use Rattle.std.specs.List.{IsDistinct}
use Rattle.sx_base.specs.declared.moment.Moment.{Moment}
use Rattle.sx_base.specs.declared.moment.Moment.TheVariants.{File}
use Rattle.sx_moment.specs.Gathered.{Gathered, moments_of, is_moment}
use Rattle.sx_moment.specs.Views.{origin_of, view_of}
use Rattle.sx_moment.specs.Turns.{is_among}

-- a case at one of its moments, and the place of that moment in their list, from 0; the pages by rank; how many of the
-- moments are settled, up to the one at which that was said last; and the ranks that changed since
pub record Swept : Type 0 where
  pub case : Gathered
  pub place : ℕ
  pub moment : Moment
  pub numbers : List ℕ
  pub settled : ℕ
  pub changed : List ℕ

-- the moment at a place of the list
abbrev pub moment_at : Gathered → ℕ → Moment
moment_at case place = slice_index_or (moments_of case) place File

-- the sweep went on to the next moment of the list: what was settled is as it was
pub record GoesOn (before now : Swept) : Type 0 where
  pub case : now.case ≡ before.case
  pub place : now.place ≡ before.place + 1
  pub numbers : now.numbers ≡ before.numbers
  pub settled : now.settled ≡ before.settled

-- each page that has a view at some moment is among these
abbrev pub HoldViewed : Gathered → List ℕ → Type 0
HoldViewed case numbers = (moment : Moment) → IsTrue (is_moment case moment) → (number : ℕ) → is_some (view_of case moment number) ≡ true → is_among numbers number ≡ true

-- a page changed at some moment of the list past those that are settled: there it comes from elsewhere than at the moment
-- before. Where none is settled each page counts as changed.
abbrev pub Turned : Gathered → ℕ → ℕ → ℕ → Type 0
Turned case settled place number =
    (settled ≡ 0) ⊎ ((at : ℕ) × (settled ≤ at) × (at ≤ place) × (origin_of case (moment_at case at) number ≢ origin_of case (moment_at case (at - 1)) number))

-- The changed ranks, each once: a rank among them changed past the settled moments, and the page of every other comes from
-- where it came at the last settled moment.
pub record AreChanged (swept : Swept) : Type 0 where
  pub once : IsDistinct nat_eq swept.changed
  pub ranks : (rank : ℕ) → is_among swept.changed rank ≡ true → rank < length swept.numbers
  pub turned : (rank : ℕ) → is_among swept.changed rank ≡ true → Turned swept.case swept.settled swept.place (slice_index swept.numbers rank)
  pub kept : (rank : ℕ) → rank < length swept.numbers → is_among swept.changed rank ≡ false
      → (1 ≤ swept.settled)
      × (origin_of swept.case swept.moment (slice_index swept.numbers rank) ≡ origin_of swept.case (moment_at swept.case (swept.settled - 1)) (slice_index swept.numbers rank))
