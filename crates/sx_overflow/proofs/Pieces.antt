-- A payload goes on by one piece, or ends.
use Rattle.std.proofs.Common.{◌≡◌, ℕ, suc, ◌+◌, ◌-◌, ◌/◌, ◌%◌, ◌<◌, ◌≤◌, ◌==◌, Bool, true, false, min, List, [], ◌∷◌, ◌++◌, Option, Some, None, Bor, length, take, drop, nat_le, option_copied, refl, sym, ap, ◌∙◌, arith}
use Rattle.std.specs.Int.{div_ceil}
use Rattle.std.specs.Option.{option_to_list}
use Rattle.std.proofs.Math.Nat.{add-div_right, div-eq_of_lt, add-mod_right, mod-eq_of_lt, zero-div, zero-mod}
use Rattle.std.proofs.lemmas.Bool.{leb-true, leb-false, le-leb}
use Rattle.std.proofs.lemmas.Bool.Decides.{nat_tests}
use Rattle.std.proofs.lemmas.List.{take-take, take_all, length-take}
use Rattle.sx_base.specs.Held.{held_pages}
use Rattle.sx_cell.specs.Local.{need_of}
use Rattle.sx_overflow.specs.Chains.{link_of, body_of, linked, chain_of, overflow_pages, bodies_of}
use Rattle.sx_overflow.specs.Payloads.{ToCome, to_come}

-- nothing is needed for nothing
pub need_none : (room : ℕ) → div_ceil 0 room ≡ 0
need_none room = rw (zero-div room, zero-mod room) refl

need_case : (room left : ℕ) (b : Bool) → 0 < room → 0 < left → nat_le room left ≡ b
    → div_ceil left room ≡ suc (div_ceil (left - room) room)
need_case room left true some more over =
    let enough = leb-true room left over in
    let whole : left ≡ left - room + room = omega arith in
    let parts : left / room ≡ (left - room) / room + 1
    = ap (λ n. n / room) whole ∙ add-div_right (left - room) some in
    let rest : left % room ≡ (left - room) % room
    = ap (λ n. n % room) whole ∙ add-mod_right (left - room) room in
    omega (arith, parts, rest)
need_case room left false some more less =
    let under = leb-false room left less in
    let none : left - room ≡ 0 = omega arith in
    let parts = div-eq_of_lt under in
    let rest = mod-eq_of_lt under in
    rw (none, need_none room) (omega (arith, parts, rest))

-- one page more is needed than for what is left behind it
pub need_more : (room left : ℕ) → 0 < room → 0 < left → div_ceil left room ≡ suc (div_ceil (left - room) room)
need_more room left some more = need_case room left (nat_le room left) some more refl

-- what the overflow pages are, by cases
pages_none : (size : ℕ) (view : ℕ → Option (List ℕ)) (usable number : ℕ) → overflow_pages size view usable number 0 ≡ []
unfolding overflow_pages chain_of
pages_none size view usable number =
    let none = need_none (usable - 4) in
    rw (none, le-leb 0 (length (held_pages size view)) (omega arith)) refl

pages_beyond : (size : ℕ) (view : ℕ → Option (List ℕ)) (usable number left : ℕ)
    → nat_le (need_of usable left) (length (held_pages size view)) ≡ false → overflow_pages size view usable number left ≡ []
unfolding overflow_pages
pages_beyond size view usable number left beyond = rw beyond refl

pages_missing : (size : ℕ) (view : ℕ → Option (List ℕ)) (usable number left : ℕ) → 480 ≤ usable → 0 < left
    → nat_le (need_of usable left) (length (held_pages size view)) ≡ true → linked view number ≡ None
    → overflow_pages size view usable number left ≡ []
unfolding overflow_pages chain_of
pages_missing size view usable number left least more within none =
    let need = need_more (usable - 4) left (omega arith) more in
    rw within (rw need (rw none refl))

pages_step : (size : ℕ) (view : ℕ → Option (List ℕ)) (usable number left : ℕ) (page : List ℕ) → 480 ≤ usable → 0 < left
    → nat_le (need_of usable left) (length (held_pages size view)) ≡ true → linked view number ≡ Some page
    → overflow_pages size view usable number left ≡ page ∷ overflow_pages size view usable (link_of page) (left - (usable - 4))
unfolding overflow_pages chain_of
pages_step size view usable number left page least more within found =
    let need = need_more (usable - 4) left (omega arith) more in
    let fits = leb-true (need_of usable left) (length (held_pages size view)) within in
    let still : nat_le (need_of usable (left - (usable - 4))) (length (held_pages size view)) ≡ true
    = le-leb (need_of usable (left - (usable - 4))) (length (held_pages size view)) (omega (arith, fits, need)) in
    rw within (rw need (rw (found, still) refl))

-- what is to come, by its two parts
come_pieces : (size : ℕ) (view : ℕ → Option (List ℕ)) (usable : ℕ) (first : List (List ℕ)) (number left : ℕ)
    → (to_come size view usable first number left).pieces ≡ first ++ bodies_of usable left (overflow_pages size view usable number left)
unfolding to_come
come_pieces size view usable first number left = refl

come_whole : (size : ℕ) (view : ℕ → Option (List ℕ)) (usable : ℕ) (first : List (List ℕ)) (number left : ℕ)
    → (to_come size view usable first number left).whole
    ≡ (length (overflow_pages size view usable number left) == need_of usable left)
unfolding to_come
come_whole size view usable first number left = refl

-- the local part that is still to come
abbrev pub first_of : Option (Bor (List ℕ)) → List (List ℕ)
first_of local = option_to_list (option_copied local)

-- the local part is given
pub given_local : (size : ℕ) (view : ℕ → Option (List ℕ)) (usable number left : ℕ) (local taken : Option (Bor (List ℕ))) (piece : Bor (List ℕ)) (before : ToCome)
    → to_come size view usable (first_of local) number left ≡ before → local ≡ Some piece → taken ≡ None
    → (before.pieces ≡ piece.now ∷ (to_come size view usable (first_of taken) number left).pieces)
    × (before.whole ≡ (to_come size view usable (first_of taken) number left).whole)
unfolding to_come
given_local size view usable number left local taken piece before seen is none = rw (← seen, is, none) (refl, refl)

-- nothing is left
pub given_end : (size : ℕ) (view : ℕ → Option (List ℕ)) (usable number left : ℕ) (local taken : Option (Bor (List ℕ))) (before : ToCome)
    → to_come size view usable (first_of local) number left ≡ before → local ≡ None → taken ≡ local → left ≡ 0
    → (before.pieces ≡ []) × (before.whole ≡ true) × (to_come size view usable (first_of taken) number left ≡ before)
unfolding to_come bodies_of
given_end size view usable number left local taken before seen none same over =
    let pages = pages_none size view usable number in
    let need = need_none (usable - 4) in
    (rw (← seen, none, over, pages) refl, rw (← seen, over, pages, need) refl, rw same seen)

none_is : (count need less : ℕ) → count ≡ 0 → need ≡ suc less → (count == need) ≡ false
none_is count need less none more = grind (arith, nat_tests)

one_more_is : (count need less : ℕ) → need ≡ suc less → (suc count == need) ≡ (count == less)
one_more_is count need less more = grind (arith, nat_tests)

-- a page is missing, or more are needed than are held
short_end : (size : ℕ) (view : ℕ → Option (List ℕ)) (usable number left : ℕ) (local taken : Option (Bor (List ℕ))) (before : ToCome)
    → to_come size view usable (first_of local) number left ≡ before → local ≡ None → taken ≡ local → 480 ≤ usable → 0 < left
    → overflow_pages size view usable number left ≡ []
    → (before.pieces ≡ []) × (before.whole ≡ false) × (to_come size view usable (first_of taken) number left ≡ before)
unfolding to_come bodies_of
short_end size view usable number left local taken before seen none same least more pages =
    let need = need_more (usable - 4) left (omega arith) more in
    (rw (← seen, none, pages) refl, rw (← seen, pages) (none_is 0 (need_of usable left) (div_ceil (left - (usable - 4)) (usable - 4)) refl need), rw same seen)

pub given_beyond : (size : ℕ) (view : ℕ → Option (List ℕ)) (usable number left : ℕ) (local taken : Option (Bor (List ℕ))) (before : ToCome)
    → to_come size view usable (first_of local) number left ≡ before → local ≡ None → taken ≡ local → 480 ≤ usable → 0 < left
    → nat_le (need_of usable left) (length (held_pages size view)) ≡ false
    → (before.pieces ≡ []) × (before.whole ≡ false) × (to_come size view usable (first_of taken) number left ≡ before)
given_beyond size view usable number left local taken before seen none same least more beyond =
    short_end size view usable number left local taken before seen none same least more
    (pages_beyond size view usable number left beyond)

pub given_missing : (size : ℕ) (view : ℕ → Option (List ℕ)) (usable number left : ℕ) (local taken : Option (Bor (List ℕ))) (before : ToCome)
    → to_come size view usable (first_of local) number left ≡ before → local ≡ None → taken ≡ local → 480 ≤ usable → 0 < left
    → nat_le (need_of usable left) (length (held_pages size view)) ≡ true → linked view number ≡ None
    → (before.pieces ≡ []) × (before.whole ≡ false) × (to_come size view usable (first_of taken) number left ≡ before)
given_missing size view usable number left local taken before seen none same least more within missing =
    short_end size view usable number left local taken before seen none same least more
    (pages_missing size view usable number left least more within missing)

take_over : (m n : ℕ) (xs : List ℕ) → n ≤ m → take m (take n xs) ≡ take n xs
take_over m n xs over = take_all m (take n xs) (omega (arith, length-take n xs))

least_case : (m n : ℕ) (b : Bool) (xs : List ℕ) → nat_le m n ≡ b → take m (take n xs) ≡ take (min m n) xs
least_case m n true xs is =
    let below = leb-true m n is in
    let same : min m n ≡ m = omega arith in
    rw same (take-take m n xs below)
least_case m n false xs is =
    let above = leb-false m n is in
    let same : min m n ≡ n = omega arith in
    rw same (take_over m n xs (omega arith))

take_least : (m n len : ℕ) (xs : List ℕ) → len ≡ min m n → take m (take n xs) ≡ take len xs
take_least m n len xs is = rw is (least_case m n (nat_le m n) xs refl)

-- an overflow page gives its part
pub given_body : (size : ℕ) (view : ℕ → Option (List ℕ)) (usable number left next rest len cut : ℕ) (page : List ℕ) (local taken : Option (Bor (List ℕ))) (before : ToCome)
    → to_come size view usable (first_of local) number left ≡ before → local ≡ None → taken ≡ local → 480 ≤ usable → 0 < left
    → nat_le (need_of usable left) (length (held_pages size view)) ≡ true → linked view number ≡ Some page
    → next ≡ link_of page → len ≡ min left (usable - 4) → rest ≡ left - len → cut ≡ len
    → (before.pieces ≡ take cut (drop 4 page) ∷ (to_come size view usable (first_of taken) next rest).pieces)
    × (before.whole ≡ (to_come size view usable (first_of taken) next rest).whole)
unfolding to_come bodies_of
given_body size view usable number left next rest len cut page local taken before seen none same least more within found link long still is_cut =
    let need = need_more (usable - 4) left (omega arith) more in
    let pages = pages_step size view usable number left page least more within found in
    let over : rest ≡ left - (usable - 4) = omega arith in
    let piece : take left (body_of usable page) ≡ take cut (drop 4 page) = take_least left (usable - 4) cut (drop 4 page) (is_cut ∙ long) in (
      rw (← seen, none, same, none, link, over, pages) (rw piece refl),
      rw (← seen, link, over, pages) (one_more_is (length (overflow_pages size view usable (link_of page) (left - (usable - 4)))) (need_of usable left) (div_ceil (left - (usable - 4)) (usable - 4)) need),
    )

-- whether no more pages are needed than are held, as it was found out
pub enough : (size : ℕ) (view : ℕ → Option (List ℕ)) (usable left need : ℕ) (answer found : Bool)
    → need ≡ need_of usable left → answer ≡ nat_le need (length (held_pages size view)) → answer ≡ found
    → nat_le (need_of usable left) (length (held_pages size view)) ≡ found
enough size view usable left need answer found needed is same =
    ap (λ n. nat_le n (length (held_pages size view))) (sym needed) ∙ sym is ∙ same

-- whether the pieces make the payload whole, found out by the chain alone
pub whole_chain : (size : ℕ) (view : ℕ → Option (List ℕ)) (usable : ℕ) (first : List (List ℕ)) (number left : ℕ)
    → nat_le (need_of usable left) (length (held_pages size view)) ≡ true
    → (length (chain_of view number (need_of usable left)) == need_of usable left) ≡ (to_come size view usable first number left).whole
unfolding to_come overflow_pages
whole_chain size view usable first number left within = rw within refl

pub whole_beyond : (size : ℕ) (view : ℕ → Option (List ℕ)) (usable : ℕ) (first : List (List ℕ)) (number left : ℕ)
    → nat_le (need_of usable left) (length (held_pages size view)) ≡ false
    → false ≡ (to_come size view usable first number left).whole
unfolding to_come
whole_beyond size view usable first number left beyond =
    let above = leb-false (need_of usable left) (length (held_pages size view)) beyond in
    let more : need_of usable left ≡ suc (need_of usable left - 1) = omega arith in
    rw (pages_beyond size view usable number left beyond) (sym (none_is 0 (need_of usable left) (need_of usable left - 1) refl more))
