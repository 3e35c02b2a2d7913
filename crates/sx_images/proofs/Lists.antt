-- Items of lists, by place.
use Rattle.std.proofs.Common.{◌≡◌, ℕ, zero, suc, ◌+◌, ◌<◌, List, [], ◌∷◌, ◌++◌, length, map, Some, slice_get, take, unwrap_or, refl, ap, ◌∙◌, arith, zero-add}
use Rattle.std.proofs.lemmas.Option.{slice_get_within}

pub slice_front : {X : Type 0} (xs ys : List X) (i : ℕ) → i < length xs → slice_get (xs ++ ys) i ≡ slice_get xs i
slice_front [] ys i within = absurd (omega arith)
slice_front (x ∷ xs) ys zero within = refl
slice_front (x ∷ xs) ys (suc i) within = slice_front xs ys i (omega arith)

pub slice_back : {X : Type 0} (xs ys : List X) (i : ℕ) → slice_get (xs ++ ys) (length xs + i) ≡ slice_get ys i
slice_back [] ys i = ap (slice_get ys) (zero-add i)
slice_back (x ∷ xs) ys i =
    let more : length (x ∷ xs) + i ≡ suc (length xs + i) = omega arith in
    ap (slice_get (x ∷ (xs ++ ys))) more ∙ slice_back xs ys i

pub map_both : {X Y Z : Type 0} (f : Y → Z) (g : X → Y) (xs : List X) → map f (map g xs) ≡ map (λ x. f (g x)) xs
map_both f g [] = refl
map_both f g (x ∷ xs) = ap (λ rest. f (g x) ∷ rest) (map_both f g xs)

-- one item more of a front
pub front_more : {X Y : Type 0} (f : X → Y) (xs : List X) (i : ℕ) (x : X) → slice_get xs i ≡ Some x → map f (take (i + 1) xs) ≡ map f (take i xs) ++ f x ∷ []
front_more f [] i x is = let never = slice_get_within [] i x is in absurd (omega arith)
front_more f (y ∷ xs) zero x is = ap (λ z. f z ∷ []) (ap (λ o. unwrap_or o y) is)
front_more f (y ∷ xs) (suc i) x is =
    let one : suc i + 1 ≡ suc (i + 1) = omega arith in
    ap (λ n. map f (take n (y ∷ xs))) one ∙ ap (λ rest. f y ∷ rest) (front_more f xs i x is)
