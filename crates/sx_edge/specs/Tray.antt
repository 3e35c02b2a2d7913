-- A sink in memory: what it holds, and what a write does to it.
use Rattle.std.specs.Prelude.{◌≡◌, ℕ, ◌+◌, ◌-◌, ◌<◌, min, List, [], ◌++◌, length, take, Result, Ok, Err}
use Rattle.sx_base.specs.declared.evidence.Failed.{Failed}
use Rattle.sx_base.specs.Causes.{last_count}

-- the bytes taken, how many there is room for, the most that one write takes, and how often a write has failed
pub record TrayState : Type 0 where
  pub taken : List ℕ
  pub room : ℕ
  pub most : ℕ
  pub faults : ℕ

-- a tray that has taken nothing
abbrev pub empty_tray : ℕ → ℕ → TrayState
empty_tray room most = record { taken = []; room = room; most = most; faults = 0 }

-- how many bytes there is room for still
abbrev pub room_left : TrayState → ℕ
room_left tray = tray.room - length tray.taken

-- a write takes as many bytes as the piece has, one write takes and there is room for; it fails where there is no room
-- for any byte of the piece
abbrev pub TakesPiece : TrayState → TrayState → List ℕ → Result ℕ Failed → Type 0
TakesPiece old new piece (Ok n) =
    (n ≡ min (length piece) (min old.most (room_left old))) × (new ≡ record old { taken = old.taken ++ take n piece })
TakesPiece old new piece (Err failed) =
    (0 < length piece) × (room_left old ≡ 0) × (new ≡ record old { faults = min (old.faults + 1) last_count })
