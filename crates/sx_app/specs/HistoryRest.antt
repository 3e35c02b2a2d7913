-- How far the writing of `history` has come: the lines of the moment in hand, and those of the moments behind it.
use Rattle.std.specs.Prelude.{ℕ, ◌+◌, List, ◌++◌, drop}
use Rattle.std.specs.List.{flat_map}
use Rattle.sx_moment.specs.Gathered.{moments_of}
use Rattle.sx_history_text.specs.Tracked.{Tracked}
use Rattle.sx_app.specs.Histories.{history_at}

abbrev pub histories_from : List (List ℕ) → List ℕ → Tracked → List (List ℕ)
histories_from current name trees = current ++ flat_map (history_at trees.case name trees.rowid) (drop (trees.place + 1) (moments_of trees.case))
