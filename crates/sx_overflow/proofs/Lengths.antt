-- What the length of a chain tells: step by step, where it goes round, and of payloads.
use Rattle.std.proofs.Common.{◌≡◌, if◌then◌else◌, ℕ, zero, suc, ◌+◌, ◌<◌, ◌≤◌, ◌==◌, min, Bool, true, false, ◌&&◌, List, [], ◌∷◌, Option, Some, None, length, nat_le, refl, sym, ap, ◌∙◌, arith, eq-eqb, leb-true, leb-false}
use Rattle.std.specs.Prelude.{Contains, slice_index_or}
use Rattle.std.specs.Option.{option_map_or}
use Rattle.std.proofs.lemmas.Bool.{ne_eqb}
use Rattle.sx_base.specs.Held.{held_pages}
use Rattle.sx_cell.specs.Local.{need_of}
use Rattle.sx_overflow.specs.Chains.{linked, link_of, chain_of, IsTrail, overflow_pages}
use Rattle.sx_overflow.specs.Payloads.{to_come}

front_case : (view : ℕ → Option (List ℕ)) (need most : ℕ) (found : Option (List ℕ))
    → ((page : List ℕ) → length (chain_of view (link_of page) need) ≡ min need (length (chain_of view (link_of page) most)))
    → length (option_map_or (λ page. page ∷ chain_of view (link_of page) need) found []) ≡ min (suc need) (length (option_map_or (λ page. page ∷ chain_of view (link_of page) most) found []))
front_case view need most None rest = omega arith
front_case view need most (Some page) rest = omega (arith, rest page)

-- fewer pages of a chain are so many of its front
pub chain_front : (view : ℕ → Option (List ℕ)) (number need most : ℕ) → need ≤ most
    → length (chain_of view number need) ≡ min need (length (chain_of view number most))
unfolding chain_of
chain_front view number zero most within = omega arith
chain_front view number (suc need) zero within = absurd (omega arith)
chain_front view number (suc need) (suc most) within =
    front_case view need most (linked view number) (λ page. chain_front view (link_of page) need most (omega arith))

-- where no page is there the chain has none
pub chain_none : (view : ℕ → Option (List ℕ)) (number most : ℕ) → linked view number ≡ None → length (chain_of view number most) ≡ 0
unfolding chain_of
chain_none view number zero none = refl
chain_none view number (suc most) none = rw none refl

-- and else one more than from the next page on, up to the greatest number
pub chain_next : (view : ℕ → Option (List ℕ)) (number most : ℕ) (page : List ℕ) → linked view number ≡ Some page
    → length (chain_of view number most) ≡ min (length (chain_of view (link_of page) most) + 1) most
unfolding chain_of
chain_next view number zero page found = omega arith
chain_next view number (suc most) page found =
    let less = chain_front view (link_of page) most (suc most) (omega arith) in
    let here : length (option_map_or (λ page. page ∷ chain_of view (link_of page) most) (linked view number) []) ≡ suc (length (chain_of view (link_of page) most))
    = ap (λ f. length (option_map_or (λ page. page ∷ chain_of view (link_of page) most) f [])) found in
    here ∙ omega (arith, less)

zero_plus : (n : ℕ) → 0 + n ≡ n
zero_plus n = omega arith

-- along a trail the chain is as long as that
along : (view : ℕ → Option (List ℕ)) (from to n : ℕ) (trail : List ℕ) → IsTrail view from trail to
    → length (chain_of view from (length trail + n)) ≡ length trail + length (chain_of view to n)
unfolding chain_of
along view from to n [] is =
    ap (λ k. length (chain_of view from k)) (zero_plus n)
    ∙ ap (λ k. length (chain_of view k n)) (sym is)
    ∙ sym (zero_plus (length (chain_of view to n)))
along view from to n (number ∷ trail) is =
    let more : length (number ∷ trail) + n ≡ suc (length trail + n) = omega arith in
    let rest = along view (link_of is.1) to n trail is.3 in
    ap (λ k. length (chain_of view from k)) more
    ∙ ap (λ f. length (option_map_or (λ page. page ∷ chain_of view (link_of page) (length trail + n)) f [])) (ap (linked view) (sym is.0) ∙ is.2)
    ∙ omega (arith, rest)

record IsLong (view : ℕ → Option (List ℕ)) (at n : ℕ) : Type 0 where
  many : ℕ
  enough : n ≤ many
  long : length (chain_of view at many) ≡ many

long_round : (view : ℕ → Option (List ℕ)) (at number n : ℕ) (trail : List ℕ) → IsTrail view at (number ∷ trail) at → IsLong view at n
unfolding chain_of
long_round view at number zero trail is = record { many = 0; enough = omega arith; long = refl }
long_round view at number (suc n) trail is =
    let before = long_round view at number n trail is in
    let longer = along view at at before.many (number ∷ trail) is in
    record {
      many = length (number ∷ trail) + before.many;
      enough = omega (arith, before.enough);
      long = omega (arith, longer, before.long);
    }

-- the part of a trail from one of its pages on
part_of : (view : ℕ → Option (List ℕ)) (from to at k : ℕ) (trail : List ℕ) → IsTrail view from trail to → k < length trail → slice_index_or trail k at ≡ at
    → (rest : List ℕ) × (first : ℕ) × IsTrail view at (first ∷ rest) to
part_of view from to at k [] is below there = absurd (omega arith)
part_of view from to at zero (number ∷ trail) is below there = (trail, number, (there, is.1, is.2, is.3))
part_of view from to at (suc k) (number ∷ trail) is below there = part_of view (link_of is.1) to at k trail is.3 (omega arith) there

-- a chain that comes back to its trail never ends
pub chain_round : (view : ℕ → Option (List ℕ)) (from at most : ℕ) (trail : List ℕ) → IsTrail view from trail at → Contains trail at
    → length (chain_of view at most) ≡ most
chain_round view from at most trail is there =
    let part = part_of view from at at there.0 trail is there.1 there.2 in
    let long = long_round view at part.1 most part.0 part.2 in
    let less = chain_front view at most long.many long.enough in
    omega (arith, less, long.long, long.enough)

count_case : (need run front : ℕ) (b : Bool) → nat_le need run ≡ b → front ≡ min need run → (front == need) ≡ b
count_case need run front true is same =
    let enough = leb-true need run is in
    eq-eqb front need (omega (arith, same, enough))
count_case need run front false is same =
    let few = leb-false need run is in
    ne_eqb front need (λ (all : front ≡ need). omega (arith, same, few, all))

whole_case : (view : ℕ → Option (List ℕ)) (most number need : ℕ) (b : Bool) → nat_le need most ≡ b
    → (length (if b then chain_of view number need else []) == need) ≡ (b && nat_le need (length (chain_of view number most)))
whole_case view most number need true is =
    count_case need (length (chain_of view number most)) (length (chain_of view number need)) (nat_le need (length (chain_of view number most))) refl
    (chain_front view number need most (leb-true need most is))
whole_case view most number need false is =
    let past = leb-false need most is in
    ne_eqb 0 need (λ (none : 0 ≡ need). omega (arith, past, none))

-- a payload is whole where it needs no more pages than are held, nor than follow one another from its first on
pub whole_by_length : (size : ℕ) (view : ℕ → Option (List ℕ)) (usable number left : ℕ) (first : List (List ℕ))
    → (to_come size view usable first number left).whole
    ≡ (nat_le (need_of usable left) (length (held_pages size view)) && nat_le (need_of usable left) (length (chain_of view number (length (held_pages size view)))))
unfolding to_come overflow_pages
whole_by_length size view usable number left first =
    whole_case view (length (held_pages size view)) number (need_of usable left) (nat_le (need_of usable left) (length (held_pages size view))) refl
