use Rattle.std.proofs.Common.{◌≡◌, ℕ}
use Rattle.sx_moment.specs.Images.{is_in_file}
use Rattle.sx_moment.specs.Turns.{is_among}
use Rattle.sx_moment.proofs.ranked.file_numbers.Given as goal

-- the pages so far are those of the file's first ones that can have a view
abbrev pub invariant-loop-place : goal.invariant-loop-place
invariant-loop-place l = (number : ℕ) → is_among l.numbers.items number ≡ is_in_file l.lock l.place number
