-- The pieces of a payload joined, against the whole chain of its overflow pages.
use Rattle.std.proofs.Common.{◌≡◌, ℕ, zero, suc, ◌+◌, ◌-◌, ◌≤◌, ◌==◌, Bool, true, false, List, [], ◌∷◌, ◌++◌, Option, Some, None, unwrap_or, length, take, drop, map, nat_le, refl, sym, ap, ◌∙◌, arith, eqb-true, eq-eqb, append-nil, length-append, length-drop, if◌then◌else◌}
use Rattle.std.specs.List.{concat}
use Rattle.std.specs.Option.{option_map_or}
use Rattle.std.proofs.lemmas.Bool.{leb-true, leb-false, le-leb}
use Rattle.std.proofs.lemmas.List.{take_all, length-take, take-append-le}
use Rattle.std.proofs.lemmas.List.Folds.{concat-append}
use Rattle.std.proofs.Math.Seq.{take-append-add}
use Rattle.sx_base.specs.Held.{held_pages}
use Rattle.sx_cell.specs.declared.cell.Cell.{Cell}
use Rattle.sx_cell.specs.Cells.{WasRead}
use Rattle.sx_cell.proofs.CellLemmas.{read_ranges}
use Rattle.sx_cell.specs.Local.{need_of}
use Rattle.sx_overflow.specs.Chains.{link_of, body_of, linked, chain_of, overflow_pages, bodies_of}
use Rattle.sx_overflow.specs.Payloads.{to_come, local_part, some_piece, payload_of}
use Rattle.sx_overflow.specs.Whole.{IsLinked, HasUsable, IsPayload}
use Rattle.sx_overflow.proofs.Pieces.{need_none, need_more}

linked_case : (view : ℕ → Option (List ℕ)) (number n : ℕ) (found : Option (List ℕ)) → linked view number ≡ found
    → ((page : List ℕ) → IsLinked view (link_of page) (chain_of view (link_of page) n))
    → IsLinked view number (option_map_or (λ page. page ∷ chain_of view (link_of page) n) found [])
linked_case view number n None is rest = tt
linked_case view number n (Some page) is rest = (is, rest page)

-- the views of a chain are linked
chain_linked : (view : ℕ → Option (List ℕ)) (number n : ℕ) → IsLinked view number (chain_of view number n)
unfolding chain_of
chain_linked view number zero = tt
chain_linked view number (suc n) =
    linked_case view number n (linked view number) refl (λ page. chain_linked view (link_of page) n)

-- pages that are linked are the views of a chain
linked_chain : (view : ℕ → Option (List ℕ)) (number : ℕ) (pages : List (List ℕ)) → IsLinked view number pages
    → chain_of view number (length pages) ≡ pages
unfolding chain_of
linked_chain view number [] chain = refl
linked_chain view number (page ∷ pages) chain =
    rw chain.0 (ap (λ rest. page ∷ rest) (linked_chain view (link_of page) pages chain.1))

-- each page of a chain has the usable bytes
abbrev EachUsable : ℕ → List (List ℕ) → Type 0
EachUsable usable [] = Unit {0}
EachUsable usable (page ∷ pages) = (usable ≤ length page) × EachUsable usable pages

view_case : (view : ℕ → Option (List ℕ)) (number : ℕ) (page : List ℕ) (zeroth : Bool) → (if zeroth then None else view number) ≡ Some page
    → view number ≡ Some page
view_case view number page true found = let never : None ≡ Some page = found in cc
view_case view number page false found = found

linked_view : (view : ℕ → Option (List ℕ)) (number : ℕ) (page : List ℕ) → linked view number ≡ Some page → view number ≡ Some page
linked_view view number page found = view_case view number page (number == 0) found

linked_usable : (view : ℕ → Option (List ℕ)) (usable number : ℕ) (pages : List (List ℕ)) → HasUsable view usable
    → IsLinked view number pages → EachUsable usable pages
linked_usable view usable number [] room chain = tt
linked_usable view usable number (page ∷ pages) room chain =
    (room number page (linked_view view number page chain.0), linked_usable view usable (link_of page) pages room chain.1)

body_long : (usable : ℕ) (page : List ℕ) → usable ≤ length page → length (body_of usable page) ≡ usable - 4
body_long usable page within = omega (arith, length-take (usable - 4) (drop 4 page), length-drop 4 page)

cut_case : (left : ℕ) (xs ys : List ℕ) (b : Bool) → nat_le left (length xs) ≡ b
    → take left (xs ++ ys) ≡ take left xs ++ take (left - length xs) ys
cut_case left xs ys true is =
    let short = leb-true left (length xs) is in
    let none : left - length xs ≡ 0 = omega arith in
    take-append-le left xs ys short ∙ sym (append-nil (take left xs)) ∙ ap (λ n. take left xs ++ take n ys) (sym none)
cut_case left xs ys false is =
    let long = leb-false left (length xs) is in
    let parts : left ≡ length xs + (left - length xs) = omega arith in
    let all : take left xs ≡ xs = take_all left xs (omega arith) in
    ap (λ n. take n (xs ++ ys)) parts ∙ take-append-add xs ys (left - length xs) ∙ ap (λ front. front ++ take (left - length xs) ys) (sym all)

-- the pieces on overflow pages joined are the first bytes of their bodies joined
bodies_joined : (usable left : ℕ) (pages : List (List ℕ)) → EachUsable usable pages
    → concat (bodies_of usable left pages) ≡ take left (concat (map (body_of usable) pages))
unfolding bodies_of
bodies_joined usable left [] each = sym (take_all left [] (omega arith))
bodies_joined usable left (page ∷ pages) each =
    let long = body_long usable page each.0 in
    ap (λ rest. take left (body_of usable page) ++ rest) (bodies_joined usable (left - (usable - 4)) pages each.1)
    ∙ ap (λ n. take left (body_of usable page) ++ take (left - n) (concat (map (body_of usable) pages))) (sym long)
    ∙ sym (cut_case left (body_of usable page) (concat (map (body_of usable) pages)) (nat_le left (length (body_of usable page))) refl)

need_next : (usable left n : ℕ) → 480 ≤ usable → need_of usable left ≤ suc n → need_of usable (left - (usable - 4)) ≤ n
need_next usable zero n least enough =
    let none : 0 - (usable - 4) ≡ 0 = omega arith in
    let over = need_none (usable - 4) in
    rw none (omega (arith, over))
need_next usable (suc left) n least enough =
    let more = need_more (usable - 4) (suc left) (omega arith) (omega arith) in
    omega (arith, more, enough)

none_left : (usable left : ℕ) → 480 ≤ usable → need_of usable left ≤ 0 → left ≡ 0
none_left usable zero least enough = refl
none_left usable (suc left) least enough =
    let more = need_more (usable - 4) (suc left) (omega arith) (omega arith) in
    absurd (omega (arith, more, enough))

-- and have as many bytes as are left, where the pages are as many as those need
bodies_long : (usable left : ℕ) (pages : List (List ℕ)) → 480 ≤ usable → EachUsable usable pages → need_of usable left ≤ length pages
    → length (concat (bodies_of usable left pages)) ≡ left
unfolding bodies_of
bodies_long usable left [] least each enough = sym (none_left usable left least enough)
bodies_long usable left (page ∷ pages) least each enough =
    let rest = bodies_long usable (left - (usable - 4)) pages least each.1 (need_next usable left (length pages) least enough) in
    let long = body_long usable page each.0 in
    omega (arith, rest, long, length-take left (body_of usable page), length-append (take left (body_of usable page)) (concat (bodies_of usable (left - (usable - 4)) pages)))

-- the overflow pages of a payload are linked, and held
pages_linked : (size : ℕ) (view : ℕ → Option (List ℕ)) (usable number left : ℕ) (within : Bool)
    → nat_le (need_of usable left) (length (held_pages size view)) ≡ within
    → IsLinked view number (overflow_pages size view usable number left)
unfolding overflow_pages
pages_linked size view usable number left true is = rw is (chain_linked view number (need_of usable left))
pages_linked size view usable number left false is = rw is tt

pages_few : (size : ℕ) (view : ℕ → Option (List ℕ)) (usable number left : ℕ) (within : Bool)
    → nat_le (need_of usable left) (length (held_pages size view)) ≡ within
    → length (overflow_pages size view usable number left) ≡ need_of usable left
    → length (overflow_pages size view usable number left) ≤ length (held_pages size view)
unfolding overflow_pages
pages_few size view usable number left true is needed =
    let enough = leb-true (need_of usable left) (length (held_pages size view)) is in
    rw needed enough
pages_few size view usable number left false is needed = rw is (omega arith)

-- a piece is the bytes that it is made of
piece_case : (bytes : List ℕ) (empty : Bool) → (length bytes == 0) ≡ empty → concat (if empty then [] else bytes ∷ []) ≡ bytes
piece_case [] true is = refl
piece_case (b ∷ bytes) true is =
    let none = eqb-true (length (b ∷ bytes)) 0 is in
    absurd (omega (arith, none))
piece_case bytes false is = append-nil bytes

some_piece_joined : (bytes : List ℕ) → concat (some_piece bytes) ≡ bytes
some_piece_joined bytes = piece_case bytes (length bytes == 0) refl

-- the pieces of a payload joined
joined_pieces : (size : ℕ) (view : ℕ → Option (List ℕ)) (page : List ℕ) (usable : ℕ) (cell : Cell)
    → concat (payload_of size view page usable cell).pieces
    ≡ local_part page cell ++ concat (bodies_of usable (cell.payload - cell.local) (overflow_pages size view usable (unwrap_or cell.overflow 0) (cell.payload - cell.local)))
unfolding to_come
joined_pieces size view page usable cell =
    let bodies = bodies_of usable (cell.payload - cell.local) (overflow_pages size view usable (unwrap_or cell.overflow 0) (cell.payload - cell.local)) in
    concat-append (some_piece (local_part page cell)) bodies
    ∙ ap (λ front. front ++ concat bodies) (some_piece_joined (local_part page cell))

whole_needed : (size : ℕ) (view : ℕ → Option (List ℕ)) (page : List ℕ) (usable : ℕ) (cell : Cell)
    → (payload_of size view page usable cell).whole ≡ true
    → length (overflow_pages size view usable (unwrap_or cell.overflow 0) (cell.payload - cell.local)) ≡ need_of usable (cell.payload - cell.local)
unfolding to_come
whole_needed size view page usable cell whole = eqb-true _ _ whole

pub whole_is_payload : (size : ℕ) (view : ℕ → Option (List ℕ)) (page : List ℕ) (usable : ℕ) (cell : Cell)
    → HasUsable view usable → (payload_of size view page usable cell).whole ≡ true
    → IsPayload size view page usable cell (concat (payload_of size view page usable cell).pieces)
whole_is_payload size view page usable cell room whole =
    let number = unwrap_or cell.overflow 0 in
    let left = cell.payload - cell.local in
    let needed = whole_needed size view page usable cell whole in
    let linked = pages_linked size view usable number left (nat_le (need_of usable left) (length (held_pages size view))) refl in
    record {
      pages = overflow_pages size view usable number left;
      chain = linked;
      needed = needed;
      few = pages_few size view usable number left (nat_le (need_of usable left) (length (held_pages size view))) refl needed;
      joined = joined_pieces size view page usable cell
          ∙ ap (λ rest. local_part page cell ++ rest)
          (bodies_joined usable left (overflow_pages size view usable number left) (linked_usable view usable number (overflow_pages size view usable number left) room linked));
    }

pub whole_is_long : (size : ℕ) (view : ℕ → Option (List ℕ)) (page : List ℕ) (usable : ℕ) (cell : Cell) → 480 ≤ usable → usable ≤ length page
    → HasUsable view usable → WasRead page usable cell → (payload_of size view page usable cell).whole ≡ true
    → length (concat (payload_of size view page usable cell).pieces) ≡ cell.payload
whole_is_long size view page usable cell least held room was whole =
    let number = unwrap_or cell.overflow 0 in
    let left = cell.payload - cell.local in
    let pages = overflow_pages size view usable number left in
    let ranges = read_ranges page usable cell least held was in
    let needed = whole_needed size view page usable cell whole in
    let linked = pages_linked size view usable number left (nat_le (need_of usable left) (length (held_pages size view))) refl in
    let rest = bodies_long usable left pages least (linked_usable view usable number pages room linked) (omega (arith, needed)) in
    let long = length-append (local_part page cell) (concat (bodies_of usable left pages)) in
    ap length (joined_pieces size view page usable cell)
    ∙ omega (arith, rest, long, ranges.part, ranges.held, length-take cell.local (drop cell.local_at page), length-drop cell.local_at page)

linked_pages : (size : ℕ) (view : ℕ → Option (List ℕ)) (usable number left : ℕ) (pages : List (List ℕ))
    → IsLinked view number pages → length pages ≡ need_of usable left → length pages ≤ length (held_pages size view)
    → overflow_pages size view usable number left ≡ pages
unfolding overflow_pages
linked_pages size view usable number left pages chain needed few =
    rw (← needed, le-leb (length pages) (length (held_pages size view)) few) (linked_chain view number pages chain)

pub payload_is_whole : (size : ℕ) (view : ℕ → Option (List ℕ)) (page : List ℕ) (usable : ℕ) (cell : Cell) (bytes : List ℕ)
    → (payload_of size view page usable cell).whole ≡ false → IsPayload size view page usable cell bytes → ⊥
unfolding to_come
payload_is_whole size view page usable cell bytes short payload =
    let left = cell.payload - cell.local in
    let same = linked_pages size view usable (unwrap_or cell.overflow 0) left payload.pages payload.chain payload.needed payload.few in
    let is : (length payload.pages == need_of usable left) ≡ true = eq-eqb _ _ payload.needed in
    let found : (length payload.pages == need_of usable left) ≡ false = rw (← same) short in
    let never : true ≡ false = sym is ∙ found in
    cc

-- no other bytes are the payload
pub payload_is_only : (size : ℕ) (view : ℕ → Option (List ℕ)) (page : List ℕ) (usable : ℕ) (cell : Cell) (bytes : List ℕ) → HasUsable view usable
    → IsPayload size view page usable cell bytes → bytes ≡ concat (payload_of size view page usable cell).pieces
payload_is_only size view page usable cell bytes room payload =
    let number = unwrap_or cell.overflow 0 in
    let left = cell.payload - cell.local in
    let same = linked_pages size view usable number left payload.pages payload.chain payload.needed payload.few in
    payload.joined
    ∙ ap (λ rest. local_part page cell ++ rest) (sym (bodies_joined usable left payload.pages (linked_usable view usable number payload.pages room payload.chain)))
    ∙ ap (λ pages. local_part page cell ++ concat (bodies_of usable left pages)) (sym same)
    ∙ sym (joined_pieces size view page usable cell)

bodies_few : (usable left : ℕ) (pages : List (List ℕ)) → length (concat (bodies_of usable left pages)) ≤ left
unfolding bodies_of
bodies_few usable left [] = omega arith
bodies_few usable left (page ∷ pages) =
    let rest = bodies_few usable (left - (usable - 4)) pages in
    omega (arith, rest, length-take left (body_of usable page), length-take (usable - 4) (drop 4 page), length-append (take left (body_of usable page)) (concat (bodies_of usable (left - (usable - 4)) pages)))

-- no more bytes come than the local part has and are left
pub few_to_come : (size : ℕ) (view : ℕ → Option (List ℕ)) (usable : ℕ) (first : List (List ℕ)) (number left : ℕ)
    → length (concat (to_come size view usable first number left).pieces) ≤ length (concat first) + left
unfolding to_come
few_to_come size view usable first number left =
    let bodies = bodies_of usable left (overflow_pages size view usable number left) in
    let joined : length (concat (first ++ bodies)) ≡ length (concat first ++ concat bodies) = ap length (concat-append first bodies) in
    omega (arith, joined, length-append (concat first) (concat bodies), bodies_few usable left (overflow_pages size view usable number left))
