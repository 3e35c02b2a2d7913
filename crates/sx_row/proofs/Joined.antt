-- The payload of a row in one piece.
use Rattle.std.proofs.Common.{◌≡◌, ℕ, ◌^◌, ◌<◌, ◌≤◌, Bool, true, false, List, Option, Some, None, length, if◌then◌else◌, refl, sym, ap, ◌∙◌, arith}
use Rattle.std.specs.List.{concat}
use Rattle.sx_cell.specs.declared.cell.Cell.{Cell}
use Rattle.sx_cell.specs.Cells.{WasRead}
use Rattle.sx_cell.proofs.CellLemmas.{read_ranges}
use Rattle.sx_overflow.specs.Payloads.{ToCome, payload_of}
use Rattle.sx_overflow.specs.Whole.{HasUsable, IsPayload}
use Rattle.sx_overflow.proofs.WholeLemmas.{whole_is_long, payload_is_whole, payload_is_only}
use Rattle.sx_row.specs.Rows.{joined, row_payload}

joined_whole : (payload : ToCome) (b : Bool) → payload.whole ≡ b → b ≡ true → joined payload ≡ Some (concat payload.pieces)
joined_whole payload true is whole = ap (λ w. if w then Some (concat payload.pieces) else None) is
joined_whole payload false is whole = let clash : false ≡ true = whole in cc

-- a whole payload's pieces joined
pub is_whole : (size : ℕ) (view : ℕ → Option (List ℕ)) (usable : ℕ) (page bytes : List ℕ) (cell : Cell)
    → (payload_of size view page usable cell).whole ≡ true → bytes ≡ concat (payload_of size view page usable cell).pieces
    → Some bytes ≡ row_payload size view usable page cell
unfolding row_payload
is_whole size view usable page bytes cell whole is =
    ap Some is ∙ sym (joined_whole (payload_of size view page usable cell) true whole refl)

-- a short one has none
pub is_short : (size : ℕ) (view : ℕ → Option (List ℕ)) (usable : ℕ) (page : List ℕ) (cell : Cell)
    → (payload_of size view page usable cell).whole ≡ false → None ≡ row_payload size view usable page cell
unfolding row_payload
is_short size view usable page cell short =
    sym (ap (λ w. if w then Some (concat (payload_of size view page usable cell).pieces) else None) short)

whole_of : (size : ℕ) (view : ℕ → Option (List ℕ)) (usable : ℕ) (page bytes : List ℕ) (cell : Cell) (b : Bool)
    → (payload_of size view page usable cell).whole ≡ b → IsPayload size view page usable cell bytes → b ≡ true
whole_of size view usable page bytes cell true is payload = refl
whole_of size view usable page bytes cell false is payload = absurd (payload_is_whole size view page usable cell bytes is payload)

-- the bytes that are the payload
pub is_joined : (size : ℕ) (view : ℕ → Option (List ℕ)) (usable page_size : ℕ) (page bytes : List ℕ) (cell : Cell)
    → ((number : ℕ) (page : List ℕ) → view number ≡ Some page → length page ≡ page_size) → usable ≤ page_size
    → IsPayload size view page usable cell bytes → Some bytes ≡ row_payload size view usable page cell
is_joined size view usable page_size page bytes cell sized within payload =
    let whole = whole_of size view usable page bytes cell (payload_of size view page usable cell).whole refl payload in
    is_whole size view usable page bytes cell whole
    (payload_is_only size view page usable cell bytes (λ number other there. let long = sized number other there in omega (arith, long, within)) payload)

long_case : (size : ℕ) (view : ℕ → Option (List ℕ)) (usable : ℕ) (page bytes : List ℕ) (cell : Cell) (b : Bool)
    → (payload_of size view page usable cell).whole ≡ b → 480 ≤ usable → usable ≤ length page → HasUsable view usable → WasRead page usable cell
    → (if b then Some (concat (payload_of size view page usable cell).pieces) else None) ≡ Some bytes → length bytes ≡ cell.payload
long_case size view usable page bytes cell true is least held room was found =
    let same : concat (payload_of size view page usable cell).pieces ≡ bytes = cc in
    sym (ap length same) ∙ whole_is_long size view page usable cell least held room was is
long_case size view usable page bytes cell false is least held room was found =
    let clash : None ≡ Some bytes = found in absurd cc

-- a payload has few bytes
pub is_few : (size : ℕ) (view : ℕ → Option (List ℕ)) (usable page_size : ℕ) (page bytes : List ℕ) (cell : Cell)
    → ((number : ℕ) (page : List ℕ) → view number ≡ Some page → length page ≡ page_size) → usable ≤ page_size
    → 480 ≤ usable → usable ≤ length page → WasRead page usable cell → Some bytes ≡ row_payload size view usable page cell
    → length bytes < 2 ^ 32
unfolding row_payload
is_few size view usable page_size page bytes cell sized within least held was found =
    let room : HasUsable view usable = λ number other there. let long = sized number other there in omega (arith, long, within) in
    let long = long_case size view usable page bytes cell (payload_of size view page usable cell).whole refl least held room was (sym found) in
    let limit = (read_ranges page usable cell least held was).limit in
    omega (arith, long, limit)

-- what was joined, where that is whole
pub found_then : (whole : Bool) (bytes items : List ℕ) (found : Option (List ℕ)) → (if whole then Some items else None) ≡ found → whole ≡ true
    → bytes ≡ items → Some bytes ≡ found
found_then true bytes items found is whole same = ap Some same ∙ is
found_then false bytes items found is whole same = let clash : false ≡ true = whole in cc
