-- The payload of a cell that holds all of it.
use Rattle.std.proofs.Common.{◌≡◌, ℕ, ◌-◌, List, [], ◌++◌, Option, take, sym, ap, ◌∙◌, arith, append-nil}
use Rattle.std.proofs.lemmas.List.{take_all}
use Rattle.sx_cell.specs.declared.cell.Cell.{Cell}
use Rattle.sx_cell.specs.Local.{spilled, need_of}
use Rattle.sx_overflow.specs.Payloads.{local_part}
use Rattle.sx_overflow.specs.Whole.{IsPayload}
use Rattle.sx_overflow.proofs.Pieces.{need_none}

abbrev no_bytes : List ℕ
no_bytes = []

nothing : (n : ℕ) → take n no_bytes ≡ no_bytes
nothing n = take_all n no_bytes (omega arith)

pub local_is_payload : (size : ℕ) (view : ℕ → Option (List ℕ)) (page : List ℕ) (usable : ℕ) (cell : Cell) (bytes : List ℕ)
    → spilled cell ≡ 0 → bytes ≡ local_part page cell → IsPayload size view page usable cell bytes
local_is_payload size view page usable cell bytes none is = record {
  pages = [];
  chain = tt;
  needed = sym (ap (need_of usable) none ∙ need_none (usable - 4));
  few = omega arith;
  joined = is ∙ sym (append-nil (local_part page cell)) ∙ ap (λ rest. local_part page cell ++ rest) (sym (nothing (spilled cell)));
}
