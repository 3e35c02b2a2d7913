-- The entries of a map whose keys are kept, as pages with their first images.
use Rattle.std.proofs.Common.{◌≡◌, ℕ, ◌+◌, ◌≤◌, Bool, true, false, cond, not, ◌==◌, List, [], ◌∷◌, ◌++◌, Option, None, refl, sym, ap, ◌∙◌, arith, inl, inr, append_assoc, append-nil}
use Rattle.std.specs.List.{AllByRecursion}
use Rattle.std.specs.List.Sorted.{IsStrictlySortedBy}
use Rattle.std.specs.Ordering.{nat_cmp, is_eq}
use Rattle.std.proofs.Common.{Less}
use Rattle.std.specs.Map.{lookup, keys_of}
use Rattle.std.proofs.lemmas.Bool.{eqb-true, cases_lt}
use Rattle.std.proofs.lemmas.Bool.Decides.{nat_tests}
use Rattle.std.proofs.lemmas.Map.Keys.{sorted_head, sorted_tail}
use Rattle.sx_moment.specs.Firsts.{Rises, first_in}
use Rattle.sx_moment.specs.Gathering.{images_of}
use Rattle.sx_moment.specs.declared.first_image.FirstImage.{FirstImage}

-- a number that a page can have
abbrev pub is_numbered : ℕ → Bool
is_numbered number = not (number == 0)

-- ---- look-ups

same_key : (number key : ℕ) → (key == number) ≡ is_eq (nat_cmp number key)
same_key number key = grind (arith, nat_tests)

found_case : (keeps : ℕ → Bool) (entry : ℕ × ℕ) (entries : List (ℕ × ℕ)) (number : ℕ) (kept same : Bool) → keeps entry.0 ≡ kept → (entry.0 == number) ≡ same
    → first_in (images_of keeps entries) number ≡ cond (keeps number) (lookup (λ k. is_eq (nat_cmp number k)) entries) None
    → first_in (images_of keeps (entry ∷ entries)) number ≡ cond (keeps number) (lookup (λ k. is_eq (nat_cmp number k)) (entry ∷ entries)) None
found_case keeps entry entries number true true kept same rest =
    let here : entry.0 ≡ number = eqb-true _ _ same in
    let keeps_it : keeps number ≡ true = ap keeps (sym here) ∙ kept in
    let key : is_eq (nat_cmp number entry.0) ≡ true = sym (same_key number entry.0) ∙ same in
    rw (kept, same, keeps_it, key) refl
found_case keeps entry entries number true false kept same rest =
    let key : is_eq (nat_cmp number entry.0) ≡ false = sym (same_key number entry.0) ∙ same in
    rw (kept, same, key) rest
found_case keeps entry entries number false true kept same rest =
    let here : entry.0 ≡ number = eqb-true _ _ same in
    let left_out : keeps number ≡ false = ap keeps (sym here) ∙ kept in
    rw (kept, left_out) (rest ∙ rw left_out refl)
found_case keeps entry entries number false false kept same rest =
    let key : is_eq (nat_cmp number entry.0) ≡ false = sym (same_key number entry.0) ∙ same in
    rw (kept, key) rest

nothing : (b : Bool) → (let o : Option ℕ = None in o) ≡ cond b None None
nothing true = refl
nothing false = refl

pub images_found : (keeps : ℕ → Bool) (entries : List (ℕ × ℕ)) (number : ℕ)
    → first_in (images_of keeps entries) number ≡ cond (keeps number) (lookup (λ k. is_eq (nat_cmp number k)) entries) None
images_found keeps [] number = nothing (keeps number)
images_found keeps (entry ∷ entries) number = found_case keeps entry entries number (keeps entry.0) (entry.0 == number) refl refl (images_found keeps entries number)

-- ---- the order

rises_lower : (least below : ℕ) (images : List FirstImage) → below ≤ least → Rises least images → Rises below images
rises_lower least below [] low rises = tt
rises_lower least below (image ∷ images) low rises = (omega (arith, rises.0), rises.1)

less_key : (a b : ℕ) → nat_cmp a b ≡ Less → a + 1 ≤ b
less_key a b less = grind (arith, nat_tests)

pub above : (key : ℕ) (keys : List ℕ) → AllByRecursion (λ k. nat_cmp key k ≡ Less) keys → AllByRecursion (λ k. key + 1 ≤ k) keys
above key [] less = tt
above key (k ∷ keys) less = (less_key key k less.0, above key keys less.1)

rise_case : (keeps : ℕ → Bool) (least : ℕ) (entry : ℕ × ℕ) (entries : List (ℕ × ℕ)) (kept : Bool) → keeps entry.0 ≡ kept → least ≤ entry.0
    → Rises (entry.0 + 1) (images_of keeps entries) → Rises least (images_of keeps (entry ∷ entries))
rise_case keeps least entry entries true kept from rest = rw kept (from, rest)
rise_case keeps least entry entries false kept from rest = rw kept (rises_lower (entry.0 + 1) least (images_of keeps entries) (omega arith) rest)

-- keys that rise give pages that rise
rise_from : (keeps : ℕ → Bool) (least : ℕ) (entries : List (ℕ × ℕ)) → IsStrictlySortedBy nat_cmp (keys_of entries) → AllByRecursion (λ key. least ≤ key) (keys_of entries)
    → Rises least (images_of keeps entries)
rise_from keeps least [] sorted from = tt
rise_from keeps least (entry ∷ entries) sorted from =
    rise_case keeps least entry entries (keeps entry.0) refl from.0
    (rise_from keeps (entry.0 + 1) entries (sorted_tail nat_cmp entry.0 (keys_of entries) sorted) (above entry.0 (keys_of entries) (sorted_head nat_cmp entry.0 (keys_of entries) sorted)))

first_case : (keeps : ℕ → Bool) (entry : ℕ × ℕ) (entries : List (ℕ × ℕ)) → keeps 0 ≡ false → IsStrictlySortedBy nat_cmp (keys_of (entry ∷ entries)) → (kept : Bool) → keeps entry.0 ≡ kept
    → Rises 1 (images_of keeps (entry ∷ entries))
first_case keeps entry entries zero_out sorted true kept =
    let positive : 1 ≤ entry.0 = elim (cases_lt 0 entry.0) [
      | inl more ↦ omega arith
      | inr none ↦ absurd (let same : entry.0 ≡ 0 = omega arith in let never : true ≡ false = sym kept ∙ ap keeps same ∙ zero_out in cc)
    ] in
    rise_case keeps 1 entry entries true kept positive
    (rise_from keeps (entry.0 + 1) entries (sorted_tail nat_cmp entry.0 (keys_of entries) sorted) (above entry.0 (keys_of entries) (sorted_head nat_cmp entry.0 (keys_of entries) sorted)))
first_case keeps entry entries zero_out sorted false kept =
    rw kept (rises_lower (entry.0 + 1) 1 (images_of keeps entries) (omega arith)
    (rise_from keeps (entry.0 + 1) entries (sorted_tail nat_cmp entry.0 (keys_of entries) sorted) (above entry.0 (keys_of entries) (sorted_head nat_cmp entry.0 (keys_of entries) sorted))))

pub images_rise : (keeps : ℕ → Bool) (entries : List (ℕ × ℕ)) → keeps 0 ≡ false → IsStrictlySortedBy nat_cmp (keys_of entries) → Rises 1 (images_of keeps entries)
images_rise keeps [] zero_out sorted = tt
images_rise keeps (entry ∷ entries) zero_out sorted = first_case keeps entry entries zero_out sorted (keeps entry.0) refl

-- ---- one entry more

pub images_more : (keeps : ℕ → Bool) (items new whole : List FirstImage) (key value : ℕ) (rest entries : List (ℕ × ℕ))
    → items ++ images_of keeps ((key, value) ∷ rest) ≡ whole → new ≡ items ++ cond (keeps key) (record { page = key; first = value } ∷ []) [] → new ++ images_of keeps rest ≡ whole
images_more keeps items new whole key value rest entries so_far pushed =
    ap (λ l. l ++ images_of keeps rest) pushed ∙ append_assoc items (cond (keeps key) (record { page = key; first = value } ∷ []) []) (images_of keeps rest) ∙ so_far

-- no entry is left
pub images_all : (keeps : ℕ → Bool) (items : List FirstImage) (rest entries : List (ℕ × ℕ)) → items ++ images_of keeps rest ≡ images_of keeps entries → rest ≡ [] → items ≡ images_of keeps entries
images_all keeps items rest entries so_far none = sym (append-nil items) ∙ ap (λ l. items ++ images_of keeps l) (sym none) ∙ so_far
