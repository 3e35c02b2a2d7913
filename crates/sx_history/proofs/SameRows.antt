-- A row stands where its page has the same view, and so have the overflow pages that its payload needs.
use Rattle.std.proofs.Common.{◌≡◌, ℕ, zero, suc, ◌-◌, ◌==◌, Bool, true, false, if◌then◌else◌, List, [], ◌∷◌, ◌++◌, length, nat_le, Option, Some, None, unwrap_or, is_some, filter, cond, refl, sym, ap, ◌∙◌, arith, append-nil, eqb-true}
use Rattle.std.specs.List.{concat, range_with_len}
use Rattle.std.specs.Option.{option_map_or}
use Rattle.sx_base.specs.Held.{held_pages}
use Rattle.sx_cell.specs.declared.cell.Cell.{Cell}
use Rattle.sx_cell.specs.Local.{need_of, spilled}
use Rattle.sx_overflow.specs.Chains.{link_of, linked, chain_of, overflow_pages, bodies_of}
use Rattle.sx_overflow.specs.Payloads.{to_come, some_piece, local_part, local_payload}
use Rattle.sx_overflow.proofs.Pieces.{need_none}
use Rattle.sx_row.specs.Rows.{joined, row_payload}
use Rattle.sx_history.specs.Closed.{IsLinked}

-- ---- how many pages are held

pub filter_same : (p q : ℕ → Bool) (xs : List ℕ) → ((n : ℕ) → p n ≡ q n) → filter p xs ≡ filter q xs
filter_same p q [] same = refl
filter_same p q (x ∷ xs) same =
    ap (λ b. cond b (x ∷ filter p xs) (filter p xs)) (same x)
    ∙ ap (λ l. cond (q x) (x ∷ l) l) (filter_same p q xs same)

pub held_same : (size : ℕ) (view next : ℕ → Option (List ℕ)) → ((n : ℕ) → is_some (next n) ≡ is_some (view n)) → held_pages size next ≡ held_pages size view
unfolding held_pages
held_same size view next same = filter_same (λ n. is_some (next n)) (λ n. is_some (view n)) (range_with_len 1 size) same

-- ---- chains

linked_case : (b : Bool) (view : Option (List ℕ)) (page : List ℕ) → (if b then None else view) ≡ Some page → view ≡ Some page
linked_case true view page is = let clash : None ≡ Some page = is in absurd cc
linked_case false view page is = is

-- the page 0 has no chain
from_none : (view : ℕ → Option (List ℕ)) (n : ℕ) → chain_of view 0 n ≡ []
unfolding chain_of
from_none view zero = refl
from_none view (suc n) = refl

more_case : (some others : ℕ → List (List ℕ)) (found : Option (List ℕ)) → ((page : List ℕ) → found ≡ Some page → some (link_of page) ≡ others (link_of page))
    → option_map_or (λ page. page ∷ some (link_of page)) found [] ≡ option_map_or (λ page. page ∷ others (link_of page)) found []
more_case some others None same = refl
more_case some others (Some page) same = ap (λ l. page ∷ l) (same page refl)

module _ (view next : ℕ → Option (List ℕ)) (Chain : ℕ → Type 0) (links : (n : ℕ) → Chain n → IsLinked Chain (view n)) (still : (n : ℕ) → Chain n → next n ≡ view n) where
  chain_more : (n number : ℕ) → Chain number → chain_of next number n ≡ chain_of view number n
  unfolding chain_of
  chain_more zero number there = refl
  chain_more (suc n) number there =
      ap (λ v. option_map_or (λ page. page ∷ chain_of next (link_of page) n) (if number == 0 then None else v) []) (still number there)
      ∙ more_case (λ link. chain_of next link n) (λ link. chain_of view link n) (linked view number) (λ page is.
      chain_more n (link_of page) (links number there page (linked_case (number == 0) (view number) page is)))

  pub chain_same : (n : ℕ) (overflow : Option ℕ) → ((page : ℕ) → overflow ≡ Some page → Chain page)
      → chain_of next (unwrap_or overflow 0) n ≡ chain_of view (unwrap_or overflow 0) n
  chain_same n None there = from_none next n ∙ sym (from_none view n)
  chain_same n (Some page) there = chain_more n page (there page refl)

-- ---- payloads

pages_same : (size : ℕ) (view next : ℕ → Option (List ℕ)) (usable number left : ℕ) → held_pages size next ≡ held_pages size view
    → ((n : ℕ) → chain_of next number n ≡ chain_of view number n) → overflow_pages size next usable number left ≡ overflow_pages size view usable number left
unfolding overflow_pages
pages_same size view next usable number left held chains =
    ap (λ all. if nat_le (need_of usable left) (length all) then chain_of next number (need_of usable left) else []) held
    ∙ ap (λ chain. if nat_le (need_of usable left) (length (held_pages size view)) then chain else []) (chains (need_of usable left))

pub payload_same : (size : ℕ) (view next : ℕ → Option (List ℕ)) (usable : ℕ) (page : List ℕ) (cell : Cell) → held_pages size next ≡ held_pages size view
    → ((n : ℕ) → chain_of next (unwrap_or cell.overflow 0) n ≡ chain_of view (unwrap_or cell.overflow 0) n)
    → row_payload size next usable page cell ≡ row_payload size view usable page cell
unfolding row_payload to_come
payload_same size view next usable page cell held chains =
    ap (λ pages. joined (record { pieces = some_piece (local_part page cell) ++ bodies_of usable (spilled cell) pages; whole = length pages == need_of usable (spilled cell) }))
    (pages_same size view next usable (unwrap_or cell.overflow 0) (spilled cell) held chains)

-- ---- a cell that holds all of its payload

piece_by : (bytes : List ℕ) (b : Bool) → (length bytes == 0) ≡ b → concat (if b then [] else bytes ∷ []) ≡ bytes
piece_by [] true is = refl
piece_by (byte ∷ bytes) true is = absurd (omega (arith, eqb-true (length (byte ∷ bytes)) 0 is))
piece_by bytes false is = append-nil bytes

piece_case : (bytes : List ℕ) → concat (some_piece bytes) ≡ bytes
piece_case bytes = piece_by bytes (length bytes == 0) refl

neither : (b : Bool) → (let none : List (List ℕ) = [] in (if b then none else none) ≡ none)
neither true = refl
neither false = refl

no_pages : (size : ℕ) (view : ℕ → Option (List ℕ)) (usable number left : ℕ) → need_of usable left ≡ 0 → overflow_pages size view usable number left ≡ []
unfolding overflow_pages chain_of
no_pages size view usable number left none =
    ap (λ n. if nat_le n (length (held_pages size view)) then chain_of view number n else []) none
    ∙ neither (nat_le 0 (length (held_pages size view)))

pub local_is : (size : ℕ) (view : ℕ → Option (List ℕ)) (usable : ℕ) (page : List ℕ) (cell : Cell) → spilled cell ≡ 0
    → row_payload size view usable page cell ≡ local_payload page cell
unfolding row_payload to_come bodies_of
local_is size view usable page cell none =
    let need : need_of usable (spilled cell) ≡ 0 = ap (need_of usable) none ∙ need_none (usable - 4) in
    ap (λ pages. joined (record { pieces = some_piece (local_part page cell) ++ bodies_of usable (spilled cell) pages; whole = length pages == need_of usable (spilled cell) }))
    (no_pages size view usable (unwrap_or cell.overflow 0) (spilled cell) need)
    ∙ ap (λ n. joined (record { pieces = some_piece (local_part page cell) ++ []; whole = 0 == n })) need
    ∙ ap (λ l. Some (concat l)) (append-nil (some_piece (local_part page cell)))
    ∙ ap Some (piece_case (local_part page cell))
    ∙ sym (ap (λ n. if n == 0 then Some (local_part page cell) else None) none)
