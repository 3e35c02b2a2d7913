-- The payload of a cell: its local part, and then what the overflow pages hold that it needs ("Cell Payload Overflow
-- Pages").
use Rattle.std.specs.Prelude.{◌≡◌, ℕ, ◌==◌, Bool, true, false, List, [], ◌∷◌, ◌++◌, length, take, drop, Option, Some, None, unwrap_or, Result, Ok, Err, if◌then◌else◌}
use Rattle.std.specs.List.{concat}
use Rattle.std.specs.Borrow.{Bor}
use Rattle.std.specs.declared.vec.Vec.{Vec}
use Rattle.std.specs.declared.alloc.Global.{Global}
use Rattle.sx_cell.specs.declared.cell.Cell.{Cell}
use Rattle.sx_overflow.specs.declared.refusal.ShortChain.{ShortChain}
use Rattle.sx_overflow.specs.declared.refusal.PayloadRefused.{PayloadRefused}
use Rattle.sx_overflow.specs.declared.refusal.PayloadRefused.TheVariants.{ShortChain as IsShort, Memory}
use Rattle.sx_cell.specs.Local.{spilled, need_of}
use Rattle.sx_overflow.specs.Chains.{overflow_pages, bodies_of}

-- what is to come of a payload: its pieces in order, and whether these make it whole; else the chain is too short
pub record ToCome : Type 0 where
  pub pieces : List (List ℕ)
  pub whole : Bool

-- first these pieces, then what the overflow pages hold from a page on, with so many bytes left for them
unfoldable pub to_come : ℕ → (ℕ → Option (List ℕ)) → ℕ → List (List ℕ) → ℕ → ℕ → ToCome
to_come size view usable first number left =
    let pages = overflow_pages size view usable number left in
    record { pieces = first ++ bodies_of usable left pages; whole = length pages == need_of usable left }

-- the part of a payload that stands in its cell
abbrev pub local_part : List ℕ → Cell → List ℕ
local_part page cell = take cell.local (drop cell.local_at page)

-- a piece, if it has any bytes
abbrev pub some_piece : List ℕ → List (List ℕ)
some_piece bytes = if length bytes == 0 then [] else bytes ∷ []

-- the payload of a cell of a page
abbrev pub payload_of : ℕ → (ℕ → Option (List ℕ)) → List ℕ → ℕ → Cell → ToCome
payload_of size view page usable cell =
    to_come size view usable (some_piece (local_part page cell)) (unwrap_or cell.overflow 0) (spilled cell)

-- the payload where it stands in its cell as a whole
abbrev pub local_payload : List ℕ → Cell → Option (List ℕ)
local_payload page cell = if spilled cell == 0 then Some (local_part page cell) else None

-- the next piece comes off the front; at the end nothing changes, and it is the end of a whole payload or of a short chain
abbrev pub Gives : Result (Option (Bor (List ℕ))) ShortChain → ToCome → ToCome → Type 0
Gives (Ok (Some piece)) before after = (before.pieces ≡ piece.now ∷ after.pieces) × (before.whole ≡ after.whole)
Gives (Ok None) before after = (before.pieces ≡ []) × (before.whole ≡ true) × (after ≡ before)
Gives (Err short) before after = (before.pieces ≡ []) × (before.whole ≡ false) × (after ≡ before)

-- the pieces joined where they make the payload whole; where they don't, the refusal says so, and not want of memory
abbrev pub Gathers : Result (Vec ℕ Global) PayloadRefused → ToCome → Type 0
Gathers (Ok bytes) rest = (bytes.items ≡ concat rest.pieces) × (rest.whole ≡ true)
Gathers (Err IsShort) rest = rest.whole ≡ false
Gathers (Err Memory) rest = rest.whole ≡ true

-- the same where the pieces are appended to bytes that were there: a refusal leaves these as they were
abbrev pub GathersInto : Result Unit PayloadRefused → ToCome → List ℕ → List ℕ → Type 0
GathersInto (Ok done) rest before after = (after ≡ before ++ concat rest.pieces) × (rest.whole ≡ true)
GathersInto (Err IsShort) rest before after = (after ≡ before) × (rest.whole ≡ false)
GathersInto (Err Memory) rest before after = (after ≡ before) × (rest.whole ≡ true)
