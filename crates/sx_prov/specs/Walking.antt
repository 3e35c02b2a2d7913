-- How the pages of a moment are gone over.
use Rattle.std.specs.Prelude.{◌≡◌, ℕ, ◌+◌, ◌-◌, ◌<◌, ◌≤◌, ◌==◌, true, false, nat_le, nat_lt, if◌then◌else◌, List, ◌∷◌, Option, Some, None}
use Rattle.sx_prov.specs.declared.stretch.Stretch.{Stretch}
use Rattle.sx_prov.specs.declared.stretch.Stretch.TheVariants.{Absent, Present}
use Rattle.sx_prov.specs.Stretches.{is_present, stretches_above, last_of}

-- the lock-byte page, if it comes before the next page that has a view
abbrev pub before_lock : ℕ → Option ℕ → Option ℕ
before_lock lock None = Some lock
before_lock lock (Some page) = if nat_lt page lock then Some page else Some lock

-- the next present page above a number, where the next page that has a view is this
abbrev pub nearer : ℕ → ℕ → ℕ → Option ℕ → Option ℕ
nearer lock size after held = if nat_le lock after then held else (if nat_lt size lock then held else before_lock lock held)

-- the stretch above a number, where the next present page is this
abbrev pub stretch_by : ℕ → ℕ → Option ℕ → Option Stretch
stretch_by after size None = if nat_lt after size then Some (Absent (after + 1) size) else None
stretch_by after size (Some page) = if page == after + 1 then Some (Present page) else Some (Absent (after + 1) (page - 1))

-- the next present page
pub record IsNext (lock : ℕ) (view : ℕ → Option (List ℕ)) (size after page : ℕ) : Type 0 where
  pub above : after < page
  pub within : page ≤ size
  pub present : is_present lock view page ≡ true
  pub between : (number : ℕ) → after < number → number < page → is_present lock view number ≡ false

-- no page above a number is present
abbrev pub NoneAbove : ℕ → (ℕ → Option (List ℕ)) → ℕ → ℕ → Type 0
NoneAbove lock view size after = (number : ℕ) → after < number → number ≤ size → is_present lock view number ≡ false

-- the first of the stretches above a number
pub record IsStretch (lock : ℕ) (view : ℕ → Option (List ℕ)) (size after : ℕ) (stretch : Stretch) : Type 0 where
  pub first : stretches_above lock view size after ≡ stretch ∷ stretches_above lock view size (last_of stretch)
  pub within : last_of stretch ≤ size
