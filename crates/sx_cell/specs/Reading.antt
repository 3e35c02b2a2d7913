-- A cell read from left to right, with the first fault that is met.
use Rattle.std.specs.Prelude.{ℕ, ◌+◌, ◌-◌, max, nat_lt, if◌then◌else◌, List, length, take, drop, Option, Result, Ok, Err, ℤ}
use Rattle.sx_cell.specs.declared.cell.Kind.{Kind}
use Rattle.sx_cell.specs.declared.cell.Cell.{Cell}
use Rattle.sx_cell.specs.declared.cell.CellFault.{CellFault}
use Rattle.sx_cell.specs.declared.cell.CellFault.TheVariants.{Outside}
use Rattle.sx_cell.specs.Local.{local_of}
use Rattle.sx_cell.specs.Kinds.{has_child}
use Rattle.sx_cell.specs.Fields.{◌>>=◌, word_if, size_field, key_field}

-- what stands in front of the payload, and the bytes behind it
pub record Head : Type 0 where
  pub child : Option ℕ
  pub payload : ℕ
  pub key : Option ℤ
  pub rest : List ℕ

unfoldable pub head_at : Kind → List ℕ → Result Head CellFault
head_at kind bytes = do
  child ← word_if (has_child kind) bytes
  size ← size_field kind child.1
  key ← key_field kind size.1
  Ok (record { child = child.0; payload = size.0; key = key.0; rest = key.1 })

-- the first overflow page behind the local part of a payload, and the bytes behind that
unfoldable pub body_at : ℕ → ℕ → List ℕ → Result (Option ℕ × List ℕ) CellFault
body_at local payload bytes =
    if nat_lt (length bytes) local then Err Outside else word_if (nat_lt local payload) (drop local bytes)

-- a cell whose bytes end within the usable ones
abbrev pub owned : ℕ → Cell → Result Cell CellFault
owned usable cell = if nat_lt usable (cell.at + cell.len) then Err Outside else Ok cell

-- the cell at a place, where these are the usable bytes from there on
unfoldable pub cell_at : Kind → ℕ → ℕ → List ℕ → Result Cell CellFault
cell_at kind at usable bytes = do
  head ← head_at kind bytes
  body ← body_at (local_of kind head.payload usable) head.payload head.rest
  owned usable (record {
    at = at;
    len = max 4 (length bytes - length body.1);
    child = head.child;
    rowid = head.key;
    payload = head.payload;
    local_at = usable - length head.rest;
    local = local_of kind head.payload usable;
    overflow = body.0;
  })

-- the cell at a place of a page, or the first fault
unfoldable pub cell_of : Kind → List ℕ → ℕ → ℕ → Result Cell CellFault
cell_of kind page at usable =
    if nat_lt usable at then Err Outside else cell_at kind at usable (drop at (take usable page))
