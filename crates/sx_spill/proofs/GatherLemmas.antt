-- The payload, page by page.
use Rattle.std.proofs.Common.{◌≡◌, ℕ, zero, suc, ◌+◌, ◌-◌, ◌<◌, ◌≤◌, min, List, [], ◌∷◌, ◌++◌, length, take, drop, Some, None, refl, sym, ap, ◌∙◌, arith, append-nil, append_assoc, length-take, length-drop}
use Rattle.sx_spill.specs.Chains.{link_of, trail_of}
use Rattle.sx_spill.specs.Completion.{body_of, body_in, bodies_of}
use Rattle.sx_spill.specs.Unused.{Unused}
use Rattle.sx_spill.proofs.ChainLemmas.{trail_none, trail_some, trail_zero}

take_nothing : (n : ℕ) → take {A = ℕ} n [] ≡ []
take_nothing zero = refl
take_nothing (suc n) = refl

take_joined : (n : ℕ) (xs ys : List ℕ) → take n (xs ++ ys) ≡ take n xs ++ take (n - length xs) ys
take_joined n [] ys =
    let all : n - 0 ≡ n = omega arith in
    ap (λ k. take k ys) (sym all) ∙ ap (λ l. l ++ take (n - 0) ys) (sym (take_nothing n))
take_joined zero (x ∷ xs) ys = let none : 0 - length (x ∷ xs) ≡ 0 = omega arith in ap (λ k. take k ys) (sym none)
take_joined (suc n) (x ∷ xs) ys =
    let less : suc n - length (x ∷ xs) ≡ n - length xs = omega arith in
    ap (λ l. x ∷ l) (take_joined n xs ys) ∙ ap (λ k. x ∷ (take n xs ++ take k ys)) (sym less)

take_twice : (m n : ℕ) (xs : List ℕ) → take m (take n xs) ≡ take (min m n) xs
take_twice m n [] = ap (take m) (take_nothing n) ∙ take_nothing m ∙ sym (take_nothing (min m n))
take_twice zero n (x ∷ xs) = let none : min 0 n ≡ 0 = omega arith in ap (λ k. take k (x ∷ xs)) (sym none)
take_twice (suc m) zero (x ∷ xs) = let none : min (suc m) 0 ≡ 0 = omega arith in ap (λ k. take k (x ∷ xs)) (sym none)
take_twice (suc m) (suc n) (x ∷ xs) =
    let more : min (suc m) (suc n) ≡ suc (min m n) = omega arith in
    ap (λ l. x ∷ l) (take_twice m n xs) ∙ ap (λ k. take k (x ∷ xs)) (sym more)

body_long : (usable : ℕ) (page : List ℕ) → 4 ≤ usable → usable ≤ length page → length (body_of usable page) ≡ usable - 4
body_long usable page least within =
    let whole = length-take (usable - 4) (drop 4 page) in
    let behind = length-drop 4 page in
    omega (arith, whole, behind)

-- the rest of a payload: so many bytes of so many pages from one on
abbrev pub rest_of : Unused → ℕ → ℕ → ℕ → List ℕ
rest_of pages at left n = take left (bodies_of pages (trail_of pages.view at n))

pub rest_none : (pages : Unused) (at left n : ℕ) → pages.view at ≡ None → rest_of pages at left n ≡ []
rest_none pages at left n none = ap (λ t. take left (bodies_of pages t)) (trail_none pages.view at n none) ∙ take_nothing left

pub rest_zero : (pages : Unused) (at left : ℕ) → rest_of pages at left 0 ≡ []
rest_zero pages at left = ap (λ t. take left (bodies_of pages t)) (trail_zero pages.view at) ∙ take_nothing left

rest_some : (pages : Unused) (at left n : ℕ) (page : List ℕ) → pages.view at ≡ Some page → 4 ≤ pages.usable → pages.usable ≤ length page
    → rest_of pages at left (suc n) ≡ take (min left (pages.usable - 4)) (drop 4 page) ++ rest_of pages (link_of page) (left - (pages.usable - 4)) n
rest_some pages at left n page found least within =
    let next = bodies_of pages (trail_of pages.view (link_of page) n) in
    ap (λ t. take left (bodies_of pages t)) (trail_some pages.view at n page found)
    ∙ ap (λ f. take left (body_in pages.usable f ++ next)) found
    ∙ take_joined left (body_of pages.usable page) next
    ∙ ap (λ l. l ++ take (left - length (body_of pages.usable page)) next) (take_twice left (pages.usable - 4) (drop 4 page))
    ∙ ap (λ k. take (min left (pages.usable - 4)) (drop 4 page) ++ take (left - k) next) (body_long pages.usable page least within)

-- one page more
pub gathered_more : (pages : Unused) (at next left less len room n met need : ℕ) (page piece old new all : List ℕ) → met < need → n ≡ need - (met + 1) → pages.view at ≡ Some page
    → 4 ≤ pages.usable → pages.usable ≤ length page → room ≡ pages.usable - 4 → len ≡ min left room → less ≡ left - len → piece ≡ take len (drop 4 page) → new ≡ old ++ piece
    → next ≡ link_of page → old ++ rest_of pages at left (need - met) ≡ all → new ++ rest_of pages next less n ≡ all
gathered_more pages at next left less len room n met need page piece old new all below counted found least within roomy long lessened pieced grown leads is =
    let step : need - met ≡ suc n = omega arith in
    let short : less ≡ left - (pages.usable - 4) = omega arith in
    let cut : len ≡ min left (pages.usable - 4) = long ∙ ap (min left) roomy in
    ap (λ l. l ++ rest_of pages next less n) grown
    ∙ append_assoc old piece (rest_of pages next less n)
    ∙ ap (λ l. old ++ (l ++ rest_of pages next less n)) (pieced ∙ ap (λ k. take k (drop 4 page)) cut)
    ∙ ap (λ k. old ++ (take (min left (pages.usable - 4)) (drop 4 page) ++ rest_of pages next k n)) short
    ∙ ap (λ k. old ++ (take (min left (pages.usable - 4)) (drop 4 page) ++ rest_of pages k (left - (pages.usable - 4)) n)) leads
    ∙ ap (λ l. old ++ l) (sym (rest_some pages at left n page found least within))
    ∙ ap (λ k. old ++ rest_of pages at left k) (sym step)
    ∙ is

-- no page is left
pub gathered_none : (pages : Unused) (at left n : ℕ) (old all : List ℕ) → pages.view at ≡ None → old ++ rest_of pages at left n ≡ all → old ≡ all
gathered_none pages at left n old all none is = sym (append-nil old) ∙ ap (λ l. old ++ l) (sym (rest_none pages at left n none)) ∙ is

pub gathered_all : (pages : Unused) (at left n : ℕ) (old all : List ℕ) → n ≡ 0 → old ++ rest_of pages at left n ≡ all → old ≡ all
gathered_all pages at left n old all none is =
    sym (append-nil old) ∙ ap (λ l. old ++ l) (sym (rest_zero pages at left)) ∙ ap (λ k. old ++ rest_of pages at left k) (sym none) ∙ is
