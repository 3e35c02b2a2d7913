-- What changes from one moment to the next: the pages that the frames of a commit hold ("Reader Algorithm").
use Rattle.std.specs.Prelude.{ℕ, ◌≡◌, ◌-◌, ◌==◌, Bool, if◌then◌else◌, List, map}
use Rattle.std.specs.List.{list_any, range_with_len}
use Rattle.std.specs.List.Sorted.{IsStrictlyIncreasing}
use Rattle.sx_base.specs.declared.moment.Moment.{Moment}
use Rattle.sx_base.specs.declared.moment.Moment.TheVariants.{File, Commit}
use Rattle.sx_moment.specs.Gathered.{Gathered, slot_at, limit_at}

-- the moment before commit k: that of the commit before it, or the file's
abbrev pub moment_before : ℕ → Moment
moment_before k = if k == 1 then File else Commit (k - 1)

-- the slots of commit k: those past the commit before it, up to its own
abbrev pub slots_of : Gathered → ℕ → List ℕ
slots_of case k = range_with_len (limit_at case (moment_before k)) (limit_at case (Commit k) - limit_at case (moment_before k))

-- the pages that these slots hold, in file order
abbrev pub frame_pages : Gathered → ℕ → List ℕ
frame_pages case k = map (λ i. (slot_at case i).page) (slots_of case k)

-- a number is in a list
abbrev pub is_among : List ℕ → ℕ → Bool
is_among pages number = list_any (λ page. page == number) pages

-- the pages that the frames of commit k hold, each once, in rising order
pub record AreTurned (case : Gathered) (k : ℕ) (pages : List ℕ) : Type 0 where
  pub rising : IsStrictlyIncreasing pages
  pub held : (number : ℕ) → is_among pages number ≡ is_among (frame_pages case k) number
