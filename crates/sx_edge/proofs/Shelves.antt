-- Files on a shelf: found by name and by number, and read up to the next place at which a read fails.
use Rattle.std.proofs.Common.{◌≡◌, ℕ, ◌+◌, ◌-◌, ◌<◌, ◌≤◌, min, Bool, true, false, ◌&&◌, ◌||◌, cond, not, nat_eq, nat_lt, nat_le, List, [], ◌∷◌, ◌++◌, length, get_or, take, drop, map, Option, None, Some, inl, inr, refl, sym, ◌∙◌, ap, arith}
use Rattle.std.proofs.lemmas.Bool.{cases_lt, cond_below, cond_above, cond_both, and_parts, and_cases, both_ways, true≢false, leb-true, eqb-false}
use Rattle.std.proofs.lemmas.Option.{slice_get-get_or, slice_get_past}
use Rattle.std.proofs.lemmas.List.{take_at, length-take-le, take-append-drop, drop-drop, drop_all, length-map, length-drop}
use Rattle.std.proofs.lemmas.List.Folds.{find_at}
use Rattle.std.proofs.Math.Nat.{min-le_left}
use Rattle.std.specs.Prelude.{position, string_bytes}
use Rattle.std.specs.declared.alloc.Global.{Global}
use Rattle.std.specs.declared.vec.Vec.{Vec}
use Rattle.std.specs.declared.string.String.{String}
use Rattle.std.specs.Option.{option_map, option_map_or}
use Rattle.std.specs.List.{find, prefix_len, position_or_len, list_any, filter_map, cons_option}
use Rattle.std.specs.Str.{bytes_eq}
use Rattle.sx_base.specs.Files.{Files, file_named}
use Rattle.sx_edge.specs.declared.trip.Trip.{Trip}
use Rattle.sx_edge.specs.declared.trip.Trip.TheVariants.{Start, Read}
use Rattle.sx_edge.specs.Trips.{bars_read, distance, least}
use Rattle.sx_edge.specs.Shelf.{files_of, names_differ, number_of, bytes_of}

prefix_len-map : {X Y : Type 0} (p : Y → Bool) (f : X → Y) (xs : List X) → prefix_len p (map f xs) ≡ prefix_len (λ x. p (f x)) xs
prefix_len-map p f [] = refl
prefix_len-map p f (x ∷ xs) = ap (λ n. cond (p (f x)) (1 + n) 0) (prefix_len-map p f xs)

-- the place of the first that passes, in a list and in what is made of it
pub position-map : {X Y : Type 0} (p : Y → Bool) (f : X → Y) (xs : List X) → position p (map f xs) ≡ position (λ x. p (f x)) xs
position-map p f xs =
    let at : ℕ → ℕ → Option ℕ = λ place size. cond (nat_lt place size) (Some place) None in
    (λ i. at (prefix_len-map (λ y. not (p y)) f xs i) (length-map xs f i))

-- the first that passes, by its place
find-position : {X : Type 0} (p : X → Bool) (xs : List X) (d : X) → find p xs ≡ option_map (λ i. get_or xs i d) (position p xs)
find-position p xs d =
    let at : ℕ = position_or_len p xs in
    elim (cases_lt at (length xs)) [
      | inl within ↦
          find_at p xs ∙ slice_get-get_or xs at d within ∙ ap (option_map (λ i. get_or xs i d)) (cond_below at (length xs) (Some at) None within)
      | inr past ↦
          find_at p xs ∙ slice_get_past xs at past ∙ ap (option_map (λ i. get_or xs i d)) (cond_above at (length xs) (Some at) None None past refl)
    ]

-- the number of a name is the place of its file
pub number_at : (files : List (String Global × Vec ℕ Global)) (name : List ℕ)
    → number_of (files_of files) name ≡ position (λ file. bytes_eq (string_bytes file.0) name) files
unfolding number_of
number_at files name = position-map (λ file. bytes_eq file.0 name) (λ file. (string_bytes file.0, file.1.items)) files

-- the number leads to the file of the name
pub named : (files : Files) (name : List ℕ) (number : ℕ) → number_of files name ≡ Some number
    → file_named files name ≡ Some (bytes_of files (Some number))
unfolding number_of
named files name number is =
    ap (option_map (λ file. file.1)) (find-position (λ file. bytes_eq file.0 name) files ([], []))
    ∙ ap (λ found. option_map (λ file. file.1) (option_map (λ i. get_or files i ([], [])) found)) is

-- and where there is none, no file has the name
pub unnamed : (files : Files) (name : List ℕ) → number_of files name ≡ None → file_named files name ≡ None
unfolding number_of
unnamed files name is =
    ap (option_map (λ file. file.1)) (find-position (λ file. bytes_eq file.0 name) files ([], []))
    ∙ ap (λ found. option_map (λ file. file.1) (option_map (λ i. get_or files i ([], [])) found)) is

-- the least of a number and others is no more than the number
pub least_within : (n : ℕ) (others : List ℕ) → least n others ≤ n
unfolding least
least_within n [] = omega arith
least_within n (x ∷ others) = omega (arith, least_within (min n x) others, min-le_left n x)

-- a place that bars no read lies before each that does
distance_moves : (started : Option ℕ) (at : ℕ) (trip : Trip) → bars_read started at trip ≡ false
    → (n : ℕ) → 0 < n → 0 < option_map_or (λ d. min n d) (distance started at trip) n
distance_moves None at trip free n some = some
distance_moves (Some number) at (Start file) free n some = some
distance_moves (Some number) at (Read file place) free n some =
    cond_both (nat_eq file number && nat_le at place) (Some (place - at)) None (λ o. 0 < option_map_or (λ d. min n d) o n)
    (λ ahead. let parts = and_parts (nat_eq file number) (nat_le at place) ahead in
    elim (and_cases (nat_eq file number) (nat_eq place at) free) [
      | inl other ↦ absurd (both_ways (nat_eq file number) other parts.0)
      | inr elsewhere ↦ omega (arith, leb-true at place parts.1, eqb-false place at elsewhere)
    ])
    (λ _. some)

or_both : (x y : Bool) → (x || y) ≡ false → (x ≡ false) × (y ≡ false)
or_both true y e = absurd (true≢false e)
or_both false y e = (refl, e)

least_skips : (n : ℕ) (ahead : Option ℕ) (others : List ℕ) → 0 < n → 0 < option_map_or (λ d. min n d) ahead n
    → ((m : ℕ) → 0 < m → 0 < least m others) → 0 < least n (cons_option ahead others)
unfolding least
least_skips n None others some first rest = rest n some
least_skips n (Some d) others some first rest = rest (min n d) first

-- where no read fails, some byte stands before the next place at which one does
pub least_moves : (started : Option ℕ) (at : ℕ) (trips : List Trip) (n : ℕ)
    → list_any (bars_read started at) trips ≡ false → 0 < n → 0 < least n (filter_map (distance started at) trips)
unfolding least
least_moves started at [] n free some = some
least_moves started at (trip ∷ trips) n free some =
    let both = or_both (bars_read started at trip) (list_any (bars_read started at) trips) free in
    least_skips n (distance started at trip) (filter_map (distance started at) trips) some
    (distance_moves started at trip both.0 n some)
    (λ m some_left. least_moves started at trips m both.1 some_left)

-- a piece was read off the front of what was left
pub read_on : (bytes : List ℕ) (at n : ℕ) (piece rest : List ℕ) → piece ≡ take n (drop at bytes) → n ≤ length (drop at bytes)
    → drop at bytes ≡ take n (piece ++ rest) ++ drop (at + n) bytes
read_on bytes at n piece rest is within =
    let front : take n (piece ++ rest) ≡ take n (drop at bytes) =
    take_at piece rest n (ap length is ∙ length-take-le n (drop at bytes) within) ∙ is in
    sym (take-append-drop n (drop at bytes)) ∙ (λ i. sym front i ++ drop-drop n at bytes i)

-- a read with room that gives nothing finds nothing left
pub read_out : (bytes : List ℕ) (at n room : ℕ) → (0 < room → 0 < length (drop at bytes) → 0 < n)
    → n ≡ 0 → 0 < room → drop (at + n) bytes ≡ []
read_out bytes at n room moves none some = elim (cases_lt 0 (length (drop at bytes))) [
  | inl more ↦ absurd (omega (arith, moves some more))
  | inr no_more ↦ drop_all (at + n) bytes (omega (arith, length-drop at bytes))
]

list_any-map : {X Y : Type 0} (p : Y → Bool) (f : X → Y) (xs : List X) → list_any p (map f xs) ≡ list_any (λ x. p (f x)) xs
list_any-map p f [] = refl
list_any-map p f (x ∷ xs) = ap (λ found. p (f x) || found) (list_any-map p f xs)

-- names differ where the first isn't among the others and those differ
pub names_differ_after : (rest : List (String Global × Vec ℕ Global)) (first : String Global × Vec ℕ Global)
    (after : List (String Global × Vec ℕ Global)) → rest ≡ first ∷ after
    → names_differ (files_of rest)
    ≡ (not (list_any (λ file. bytes_eq (string_bytes file.0) (string_bytes first.0)) after) && names_differ (files_of after))
unfolding names_differ
names_differ_after rest first after is =
    ap (λ files. names_differ (files_of files)) is
    ∙ ap (λ found. not found && names_differ (files_of after))
    (list_any-map (λ file. bytes_eq file.0 (string_bytes first.0)) (λ file. (string_bytes file.0, file.1.items)) after)
