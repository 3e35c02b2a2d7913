-- The stream of draws, one draw more.
use Rattle.std.proofs.Common.{◌≡◌, ℕ, ◌+◌, ◌*◌, ◌/◌, ◌%◌, ◌^◌, ◌<◌, List, [], ◌∷◌, ◌++◌, length, get_or, map, refl, sym, ap, ◌∙◌, arith, add-one}
use Rattle.std.specs.List.{range_with_len}
use Rattle.std.proofs.lemmas.List.FromFn.{map-range_with_len_more, length-map-range_with_len, get_or-map-range_with_len}
use Rattle.sx_gen.specs.Draws.{next_state, state_after, draw, first_letter, letter, taken_leaf}

-- a product that wraps and then a sum that wraps is the sum with the whole product
pub one_modulus : (state factor more : ℕ) → ((state * factor) % 2 ^ 64 + more) % 2 ^ 64 ≡ (state * factor + more) % 2 ^ 64
one_modulus state factor more = omega arith

-- the state behind one draw more
pub state_more : (seed n was now : ℕ) → was ≡ state_after seed n → now ≡ next_state was → now ≡ state_after seed (n + 1)
unfolding state_after
state_more seed n was now so_far step = step ∙ ap next_state so_far ∙ ap (state_after seed) (sym (add-one n))

-- what is drawn next
drawn_next : (seed n was number : ℕ) → was ≡ state_after seed n → number ≡ next_state was / 2 ^ 33 → number ≡ draw seed n
drawn_next seed n was number so_far value = value ∙ ap (λ state. state / 2 ^ 33) (state_more seed n was (next_state was) so_far refl)

-- one letter more
pub letters_more : (seed n was number first : ℕ) (before after : List ℕ) → was ≡ state_after seed n → number ≡ next_state was / 2 ^ 33 → first ≡ first_letter n
    → before ≡ map (letter seed) (range_with_len 0 n) → after ≡ before ++ (first + number % 26) ∷ [] → after ≡ map (letter seed) (range_with_len 0 (n + 1))
letters_more seed n was number first before after state value base so_far put =
    let drawn = drawn_next seed n was number state value in
    put
    ∙ ap (λ front. front ++ (first + number % 26) ∷ []) so_far
    ∙ ap (λ base. map (letter seed) (range_with_len 0 n) ++ (base + number % 26) ∷ []) base
    ∙ ap (λ number. map (letter seed) (range_with_len 0 n) ++ (first_letter n + number % 26) ∷ []) drawn
    ∙ sym (map-range_with_len_more (letter seed) 0 n n (omega arith))

-- one leaf more
pub leaves_more : (seed leaves n was number : ℕ) (before after : List ℕ) → was ≡ state_after seed n → number ≡ next_state was / 2 ^ 33
    → before ≡ map (taken_leaf seed leaves) (range_with_len 0 n) → after ≡ before ++ (number % leaves) ∷ [] → after ≡ map (taken_leaf seed leaves) (range_with_len 0 (n + 1))
leaves_more seed leaves n was number before after state value so_far put =
    let drawn = drawn_next seed n was number state value in
    put
    ∙ ap (λ front. front ++ (number % leaves) ∷ []) so_far
    ∙ ap (λ number. map (taken_leaf seed leaves) (range_with_len 0 n) ++ (number % leaves) ∷ []) drawn
    ∙ sym (map-range_with_len_more (taken_leaf seed leaves) 0 n n (omega arith))

-- each leaf that is taken is there
pub leaves_below : (seed leaves n : ℕ) (taken : List ℕ) → 0 < leaves → taken ≡ map (taken_leaf seed leaves) (range_with_len 0 n) → (i : ℕ) → i < length taken → get_or taken i 0 < leaves
leaves_below seed leaves n taken some is i inside =
    let len : length taken ≡ n = ap length is ∙ length-map-range_with_len (taken_leaf seed leaves) 0 n in
    let at : get_or taken i 0 ≡ draw seed i % leaves = ap (λ xs. get_or xs i 0) is ∙ get_or-map-range_with_len (taken_leaf seed leaves) 0 n i i 0 (omega arith) (omega arith) in
    omega arith
