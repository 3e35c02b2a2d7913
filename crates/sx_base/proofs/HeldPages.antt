-- The held pages of a snapshot, for those who walk over them and for those who list them.
use Rattle.std.proofs.Common.{◌≡◌, ℕ, ◌+◌, ◌-◌, ◌<◌, ◌≤◌, Bool, true, false, List, [], ◌∷◌, ◌++◌, Option, Some, None, length, slice_index, is_some, filter, length-append, refl, sym, ap, ◌∙◌, arith}
use Rattle.std.specs.List.{range_with_len}
use Rattle.sx_base.specs.Held.{held_pages, held_after}
use Rattle.sx_base.proofs.Ranges.{IsNext, filter_meets, find_next, find_none, kept_at, kept_before, kept_few, kept_gap, kept_next, kept_place, kept_within, next_found, none_found}

-- a page has a view
abbrev pub has_view : (ℕ → Option (List ℕ)) → ℕ → Bool
has_view view number = is_some (view number)

-- a held page has one
pub held_is_there : (size : ℕ) (view : ℕ → Option (List ℕ)) (i : ℕ) → i < length (held_pages size view)
    → is_some (view (slice_index (held_pages size view) i)) ≡ true
unfolding held_pages
held_is_there size view i within = filter_meets (has_view view) (range_with_len 1 size) i within

-- no more are held than the size says
pub held_few : (size : ℕ) (view : ℕ → Option (List ℕ)) → length (held_pages size view) ≤ size
unfolding held_pages
held_few size view = kept_few (has_view view) 1 size

-- each is from 1 to the size
pub held_within : (size : ℕ) (view : ℕ → Option (List ℕ)) (i : ℕ) → i < length (held_pages size view)
    → (1 ≤ slice_index (held_pages size view) i) × (slice_index (held_pages size view) i ≤ size)
unfolding held_pages
held_within size view i within =
    let each = kept_within (has_view view) 1 size i within in
    (each.0, omega (arith, each.1))

-- a page with a view that the size covers is held: its place is how many are held below it
pub held_place : (size : ℕ) (view : ℕ → Option (List ℕ)) (number : ℕ) → 1 ≤ number → number ≤ size → is_some (view number) ≡ true
    → (length (held_pages (number - 1) view) < length (held_pages size view))
    × (slice_index (held_pages size view) (length (held_pages (number - 1) view)) ≡ number)
unfolding held_pages
held_place size view number low high there =
    (kept_place (has_view view) 1 size number low (omega arith) there, kept_at (has_view view) 1 size number low (omega arith) there)

-- what comes next above a number, for those who walk and for those who look it up
pub next_held : (size : ℕ) (view : ℕ → Option (List ℕ)) (after number : ℕ) → held_after size view after ≡ Some number
    → IsNext (has_view view) 1 size after number
unfolding held_pages held_after
next_held size view after number found = next_found (has_view view) 1 size after number found

pub none_held : (size : ℕ) (view : ℕ → Option (List ℕ)) (after : ℕ) → held_after size view after ≡ None
    → (number : ℕ) → after < number → number ≤ size → is_some (view number) ≡ false
unfolding held_pages held_after
none_held size view after found number above within =
    none_found (has_view view) 1 size after found number (omega arith) (omega arith) above

pub is_next_held : (size : ℕ) (view : ℕ → Option (List ℕ)) (after number : ℕ) → IsNext (has_view view) 1 size after number
    → held_after size view after ≡ Some number
unfolding held_pages held_after
is_next_held size view after number next = find_next (has_view view) 1 size after number next

pub is_none_held : (size : ℕ) (view : ℕ → Option (List ℕ)) (after : ℕ)
    → ((number : ℕ) → 1 ≤ number → number ≤ size → after < number → is_some (view number) ≡ false)
    → held_after size view after ≡ None
unfolding held_pages held_after
is_none_held size view after none =
    find_none (has_view view) 1 size after (λ number low high above. none number low (omega arith) above)

-- a walk that has come to a number has met the pages held up to it, and goes on by one page
pub walk_none : (view : ℕ → Option (List ℕ)) → held_pages 0 view ≡ []
unfolding held_pages
walk_none view = refl

pub walk_on : (size : ℕ) (view : ℕ → Option (List ℕ)) (at number : ℕ) → held_after size view at ≡ Some number
    → held_pages number view ≡ held_pages at view ++ number ∷ []
unfolding held_pages
walk_on size view at number found = kept_next (has_view view) size at number (next_held size view at number found)

-- until it has met all
pub walk_end : (size : ℕ) (view : ℕ → Option (List ℕ)) (at : ℕ) → at ≤ size → held_after size view at ≡ None
    → held_pages size view ≡ held_pages at view
unfolding held_pages
walk_end size view at within found =
    let whole : at + (size - at) ≡ size = omega arith in
    ap (λ all. filter (has_view view) (range_with_len 1 all)) (sym whole)
    ∙ kept_gap (has_view view) 1 at (size - at)
    (λ k low high. none_held size view at found k (omega arith) (omega arith))

-- the page that the walk comes to stands behind those that it has met
pub walk_here : (size : ℕ) (view : ℕ → Option (List ℕ)) (at number : ℕ) → held_after size view at ≡ Some number
    → (length (held_pages at view) < length (held_pages size view))
    × (slice_index (held_pages size view) (length (held_pages at view)) ≡ number)
unfolding held_pages
walk_here size view at number found =
    let next = next_held size view at number found in
    let same : held_pages (number - 1) view ≡ held_pages at view = kept_before (has_view view) size at number next in
    let place = held_place size view number next.low (omega (arith, next.high)) next.passes in
    (rw (← same) place.0, rw (← same) place.1)

-- what a loop over the held pages keeps: it stands at a page within the size, and has met as many as are held up to it
pub record IsWalk (size : ℕ) (view : ℕ → Option (List ℕ)) (at count : ℕ) : Type 0 where
  pub within : at ≤ size
  pub met : count ≡ length (held_pages at view)

pub walk_start : (size : ℕ) (view : ℕ → Option (List ℕ)) → IsWalk size view 0 0
walk_start size view = record { within = omega arith; met = ap length (sym (walk_none view)) }

pub walk_step : (size : ℕ) (view : ℕ → Option (List ℕ)) (at count number : ℕ) → IsWalk size view at count
    → held_after size view at ≡ Some number → IsWalk size view number (count + 1)
walk_step size view at count number walk found =
    let next = next_held size view at number found in
    let longer : length (held_pages number view) ≡ length (held_pages at view ++ number ∷ []) = ap length (walk_on size view at number found) in
    record {
      within = omega (arith, next.high);
      met = omega (arith, walk.met, longer, length-append (held_pages at view) (number ∷ []));
    }

pub walk_falls : (size : ℕ) (view : ℕ → Option (List ℕ)) (at number : ℕ) → held_after size view at ≡ Some number
    → size - number < size - at
walk_falls size view at number found =
    let next = next_held size view at number found in
    omega (arith, next.above, next.high)

-- the page that it comes to next stands at the place that it has counted to
pub walk_meets : (size : ℕ) (view : ℕ → Option (List ℕ)) (at count number : ℕ) → IsWalk size view at count
    → held_after size view at ≡ Some number
    → (count < length (held_pages size view)) × (slice_index (held_pages size view) count ≡ number)
walk_meets size view at count number walk found = rw walk.met (walk_here size view at number found)

-- where nothing comes next it has met all
pub walk_all : (size : ℕ) (view : ℕ → Option (List ℕ)) (at count : ℕ) → IsWalk size view at count
    → held_after size view at ≡ None → count ≡ length (held_pages size view)
walk_all size view at count walk found = walk.met ∙ ap length (sym (walk_end size view at walk.within found))
