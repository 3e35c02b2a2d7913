-- How long a chain of overflow pages is, page by page.
use Rattle.std.proofs.Common.{◌≡◌, ℕ, suc, ◌+◌, ◌-◌, ◌<◌, ◌≤◌, List, Option, Some, None, length, refl, arith}
use Rattle.sx_overflow.specs.Chains.{link_of, linked, chain_of}

-- a page more
pub chain_more : (view : ℕ → Option (List ℕ)) (number need met next : ℕ) (page : List ℕ) → met < need → linked view number ≡ Some page
    → next ≡ link_of page
    → length (chain_of view number (need - met)) ≡ suc (length (chain_of view next (need - (met + 1))))
unfolding chain_of
chain_more view number need met next page below found link =
    let more : need - met ≡ suc (need - (met + 1)) = omega arith in
    rw more (rw (found, link) refl)

-- no page where one is needed
pub chain_short : (view : ℕ → Option (List ℕ)) (number most met whole : ℕ) → met < most → linked view number ≡ None
    → whole ≡ met + length (chain_of view number (most - met)) → met ≡ whole
unfolding chain_of
chain_short view number most met whole below none is =
    let more : most - met ≡ suc (most - (met + 1)) = omega arith in
    let over : length (chain_of view number (most - met)) ≡ 0 = rw more (rw none refl) in
    omega arith

-- as many pages as are asked for
pub chain_whole : (view : ℕ → Option (List ℕ)) (number most met whole : ℕ) → met ≤ most → most ≤ met
    → whole ≡ met + length (chain_of view number (most - met)) → most ≡ whole
unfolding chain_of
chain_whole view number most met whole within past is =
    let none : most - met ≡ 0 = omega arith in
    let over : length (chain_of view number (most - met)) ≡ 0 = rw none refl in
    omega arith
