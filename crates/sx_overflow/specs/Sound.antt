-- What is known of a cell whose payload is asked for, and what a payload in hand keeps.
use Rattle.std.specs.Prelude.{◌≡◌, ℕ, ◌+◌, ◌≤◌, Bool, true, List, length, Option}
use Rattle.std.specs.List.{concat}
use Rattle.sx_base.specs.Held.{held_pages}
use Rattle.sx_cell.specs.declared.cell.Cell.{Cell}
use Rattle.sx_cell.specs.Local.{longest_payload, need_of}

-- the local part is one of the payload and stands within the usable bytes
pub record IsWithin (usable : ℕ) (cell : Cell) : Type 0 where
  pub part : cell.local ≤ cell.payload
  pub limit : cell.payload ≤ longest_payload
  pub held : cell.local_at + cell.local ≤ usable

-- the usable bytes are within the page size, the bytes to come are few, and where the overflow pages that are needed were
-- counted no more are needed than are held
pub record IsSound (size : ℕ) (view : ℕ → Option (List ℕ)) (page_size usable : ℕ) (first : List (List ℕ)) (left : ℕ) (counted : Bool) : Type 0 where
  pub least : 480 ≤ usable
  pub within : usable ≤ page_size
  pub few : length (concat first) + left ≤ longest_payload
  pub enough : counted ≡ true → need_of usable left ≤ length (held_pages size view)
