-- How the labels of a page are put one behind the other.
use Rattle.std.specs.Prelude.{◌≡◌, ℕ, ◌<◌, ◌≤◌, nat_lt, if◌then◌else◌, List, map}
use Rattle.std.specs.List.{range_with_len}
use Rattle.sx_base.specs.declared.label.Label.{Label}
use Rattle.sx_base.specs.declared.label.Label.TheVariants.{Gap, Fragment, Overlap}
use Rattle.sx_seglist.specs.declared.claimed.Claimed.{Claimed}
use Rattle.sx_seglist.specs.declared.claimed.Claimed.TheVariants.{None, One, Many}

-- the labels of the first so many bytes
unfoldable pub up_to : (ℕ → Label) → ℕ → List Label
up_to label count = map label (range_with_len 0 count)

-- the label of a byte by what is claimed of it, where the content area begins at that place
abbrev pub state_label : ℕ → Claimed → ℕ → Label
state_label content None at = if nat_lt at content then Gap else Fragment
state_label content (One label) at = label
state_label content Many at = Overlap

-- the labels of the bytes up to a place, and then up to an end those that a function gives
abbrev pub Fills : (ℕ → Label) → ℕ → ℕ → List Label → List Label → Type 0
Fills labels from end old new =
    (whole : ℕ → Label) → old ≡ up_to whole from → ((at : ℕ) → from ≤ at → at < end → whole at ≡ labels at) → new ≡ up_to whole end
