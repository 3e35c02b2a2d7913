-- The pages of a moment, one stretch after the other.
use Rattle.std.proofs.Common.{◌≡◌, ℕ, zero, suc, ◌+◌, ◌-◌, ◌<◌, ◌≤◌, ◌==◌, ◌||◌, Bool, true, false, cond, nat_le, nat_lt, List, [], ◌∷◌, ◌++◌, filter, is_some, Option, Some, None, MatchOption, refl, sym, ap, subst, ◌∙◌, arith}
use Rattle.std.specs.List.{range_with_len}
use Rattle.std.proofs.lemmas.Bool.{or_left, or_right, eqb-true, eqb-false, eq-eqb}
use borrow.Author.Tests.{le-leb, lt-leb, leb-true, leb-false, ltb-true, ltb-false}
use Rattle.sx_base.specs.Held.{held_after}
use Rattle.sx_base.proofs.HeldPages.{next_held, none_held}
use Rattle.sx_prov.specs.declared.stretch.Stretch.{Stretch}
use Rattle.sx_prov.specs.declared.stretch.Stretch.TheVariants.{Absent, Present}
use Rattle.sx_prov.specs.Stretches.{is_present, present_above, absent_from, stretches_along, stretches_above, stretches_of, AreStretches}
use Rattle.sx_prov.specs.Walking.{before_lock, nearer, stretch_by, IsNext, NoneAbove, IsStretch}

-- ---- the next present page

differ : (one other : ℕ) → (one ≡ other → ⊥) → (b : Bool) → (one == other) ≡ b → (one == other) ≡ false
differ one other apart true is = absurd (apart (eqb-true one other is))
differ one other apart false is = is

not_present : (lock : ℕ) (view : ℕ → Option (List ℕ)) (number : ℕ) → (number ≡ lock → ⊥) → is_some (view number) ≡ false → is_present lock view number ≡ false
not_present lock view number apart none = ap (λ b. b || is_some (view number)) (differ number lock apart (number == lock) refl) ∙ none

lock_present : (lock : ℕ) (view : ℕ → Option (List ℕ)) → is_present lock view lock ≡ true
lock_present lock view = or_left (lock == lock) (is_some (view lock)) (eq-eqb lock lock refl)

held_only : (lock : ℕ) (view : ℕ → Option (List ℕ)) (size after : ℕ) → ((number : ℕ) → after < number → number ≤ size → number ≡ lock → ⊥) → (held : Option ℕ) → held_after size view after ≡ held
    → MatchOption held (NoneAbove lock view size after) (IsNext lock view size after)
held_only lock view size after out None is = λ number above within. not_present lock view number (out number above within) (none_held size view after is number above within)
held_only lock view size after out (Some page) is =
    let next = next_held size view after page is in
    record {
      above = next.above;
      within = let high = next.high in omega arith;
      present = or_right (page == lock) (is_some (view page)) next.passes;
      between = λ number above below.
          not_present lock view number (out number above (let high = next.high in omega arith)) (next.between number (omega arith) above below);
    }

before_case : (lock : ℕ) (view : ℕ → Option (List ℕ)) (size after page : ℕ) → after < lock → lock ≤ size → held_after size view after ≡ Some page → (b : Bool) → nat_lt page lock ≡ b
    → MatchOption (cond b (Some page) (Some lock)) (NoneAbove lock view size after) (IsNext lock view size after)
before_case lock view size after page above within is true before =
    let next = next_held size view after page is in
    let below : page < lock = ltb-true page lock before in
    record {
      above = next.above;
      within = omega arith;
      present = or_right (page == lock) (is_some (view page)) next.passes;
      between = λ number over under. not_present lock view number (λ same. absurd (omega arith)) (next.between number (omega arith) over under);
    }
before_case lock view size after page above within is false before =
    let next = next_held size view after page is in
    let past : lock ≤ page = ltb-false page lock before in
    record {
      above = above;
      within = within;
      present = lock_present lock view;
      between = λ number over under. not_present lock view number (λ same. absurd (omega arith)) (next.between number (omega arith) over (omega arith));
    }

lock_first : (lock : ℕ) (view : ℕ → Option (List ℕ)) (size after : ℕ) → after < lock → lock ≤ size → (held : Option ℕ) → held_after size view after ≡ held
    → MatchOption (before_lock lock held) (NoneAbove lock view size after) (IsNext lock view size after)
lock_first lock view size after above within None is = record {
  above = above;
  within = within;
  present = lock_present lock view;
  between = λ number over under. not_present lock view number (λ same. absurd (omega arith)) (none_held size view after is number over (omega arith));
}
lock_first lock view size after above within (Some page) is = before_case lock view size after page above within is (nat_lt page lock) refl

nearer_case : (lock : ℕ) (view : ℕ → Option (List ℕ)) (size after : ℕ) (held : Option ℕ) → held_after size view after ≡ held → (b c : Bool) → nat_le lock after ≡ b → nat_lt size lock ≡ c
    → MatchOption (cond b held (cond c held (before_lock lock held))) (NoneAbove lock view size after) (IsNext lock view size after)
nearer_case lock view size after held is true c past far =
    let below : lock ≤ after = leb-true lock after past in
    held_only lock view size after (λ number above within same. omega arith) held is
nearer_case lock view size after held is false true past far =
    let over : size < lock = ltb-true size lock far in
    held_only lock view size after (λ number above within same. omega arith) held is
nearer_case lock view size after held is false false past far =
    let above : after < lock = leb-false lock after past in
    let within : lock ≤ size = ltb-false size lock far in
    lock_first lock view size after above within held is

pub nearer_is : (lock : ℕ) (view : ℕ → Option (List ℕ)) (size after : ℕ) (held found : Option ℕ) → held ≡ held_after size view after → found ≡ nearer lock size after held
    → MatchOption found (NoneAbove lock view size after) (IsNext lock view size after)
nearer_is lock view size after held found is near =
    subst (λ next. MatchOption next (NoneAbove lock view size after) (IsNext lock view size after)) (sym near)
    (nearer_case lock view size after held (sym is) (nat_le lock after) (nat_lt size lock) refl refl)

pub next_above : (lock : ℕ) (view : ℕ → Option (List ℕ)) (size after : ℕ) (next : Option ℕ) → after ≤ size → MatchOption next (NoneAbove lock view size after) (IsNext lock view size after)
    → MatchOption next (after ≤ size) (λ page. after < page)
next_above lock view size after None within facts = within
next_above lock view size after (Some page) within facts = facts.above

-- ---- the present pages above a number

skip_case : (p : ℕ → Bool) (from total : ℕ) (b : Bool) → p from ≡ b → b ≡ false → filter p (range_with_len from (suc total)) ≡ filter p (range_with_len (from + 1) total)
skip_case p from total b is none = ap (λ b. cond b (from ∷ filter p (range_with_len (from + 1) total)) (filter p (range_with_len (from + 1) total))) (is ∙ none)

skip : (p : ℕ → Bool) (more from total count : ℕ) → total ≡ more + count → ((number : ℕ) → from ≤ number → number < from + more → p number ≡ false)
    → filter p (range_with_len from total) ≡ filter p (range_with_len (from + more) count)
skip p zero from total count is none =
    let start : from ≡ from + zero = omega arith in
    let same : total ≡ count = omega arith in
    ap (λ n. filter p (range_with_len from n)) same ∙ ap (λ n. filter p (range_with_len n count)) start
skip p (suc more) from zero count is none = absurd (omega arith)
skip p (suc more) from (suc total) count is none =
    let start : from + 1 + more ≡ from + suc more = omega arith in
    skip_case p from total false (none from (omega arith) (omega arith)) refl
    ∙ skip p more (from + 1) total count (omega arith) (λ number low high. none number (omega arith) (omega arith))
    ∙ ap (λ n. filter p (range_with_len n count)) start

above_none : (lock : ℕ) (view : ℕ → Option (List ℕ)) (size after : ℕ) → NoneAbove lock view size after → present_above lock view size after ≡ []
unfolding present_above
above_none lock view size after none =
    skip (is_present lock view) (size - after) (after + 1) (size - after) 0 (omega arith) (λ number low high. none number (omega arith) (omega arith))

above_next : (lock : ℕ) (view : ℕ → Option (List ℕ)) (size after page : ℕ) → IsNext lock view size after page → present_above lock view size after ≡ page ∷ present_above lock view size page
unfolding present_above
above_next lock view size after page next =
    let above = next.above in
    let within = next.within in
    let here : after + 1 + (page - (after + 1)) ≡ page = omega arith in
    skip (is_present lock view) (page - (after + 1)) (after + 1) (size - after) (suc (size - page)) (omega arith)
    (λ number low high. next.between number (omega arith) (omega arith))
    ∙ ap (λ n. filter (is_present lock view) (range_with_len n (suc (size - page)))) here
    ∙ ap (λ b. cond b (page ∷ filter (is_present lock view) (range_with_len (page + 1) (size - page))) (filter (is_present lock view) (range_with_len (page + 1) (size - page)))) next.present

-- ---- the stretches above a number

absent_some : (first last : ℕ) → first ≤ last → absent_from first last ≡ Absent first last ∷ []
absent_some first last some = ap (λ b. cond b (Absent first last ∷ []) []) (le-leb first last some)

absent_none : (first last : ℕ) → last < first → absent_from first last ≡ []
absent_none first last none = ap (λ b. cond b (Absent first last ∷ []) []) (lt-leb first last none)

with_none : (lock : ℕ) (view : ℕ → Option (List ℕ)) (size after : ℕ) → NoneAbove lock view size after → stretches_above lock view size after ≡ absent_from (after + 1) size
unfolding stretches_along
with_none lock view size after none = ap (stretches_along after size) (above_none lock view size after none)

with_next : (lock : ℕ) (view : ℕ → Option (List ℕ)) (size after page : ℕ) → IsNext lock view size after page
    → stretches_above lock view size after ≡ absent_from (after + 1) (page - 1) ++ Present page ∷ stretches_above lock view size page
unfolding stretches_along
with_next lock view size after page next = ap (stretches_along after size) (above_next lock view size after page next)

at_end : (lock : ℕ) (view : ℕ → Option (List ℕ)) (size : ℕ) → stretches_above lock view size size ≡ []
at_end lock view size =
    with_none lock view size size (λ number above within. absurd (omega arith)) ∙ absent_none (size + 1) size (omega arith)

present_first : (lock : ℕ) (view : ℕ → Option (List ℕ)) (size after page : ℕ) → IsNext lock view size after page → page ≡ after + 1
    → stretches_above lock view size after ≡ Present page ∷ stretches_above lock view size page
present_first lock view size after page next is =
    with_next lock view size after page next
    ∙ ap (λ l. l ++ Present page ∷ stretches_above lock view size page) (absent_none (after + 1) (page - 1) (omega arith))

-- the same page is next for a number right before it
right_before : (lock : ℕ) (view : ℕ → Option (List ℕ)) (size after page : ℕ) → IsNext lock view size after page → IsNext lock view size (page - 1) page
right_before lock view size after page next =
    let above = next.above in
    record { above = omega arith; within = next.within; present = next.present; between = λ number over under. absurd (omega arith) }

absent_first : (lock : ℕ) (view : ℕ → Option (List ℕ)) (size after page : ℕ) → IsNext lock view size after page → (page ≡ after + 1 → ⊥)
    → stretches_above lock view size after ≡ Absent (after + 1) (page - 1) ∷ stretches_above lock view size (page - 1)
absent_first lock view size after page next gap =
    let above = next.above in
    with_next lock view size after page next
    ∙ ap (λ l. l ++ Present page ∷ stretches_above lock view size page) (absent_some (after + 1) (page - 1) (omega arith))
    ∙ ap (λ l. Absent (after + 1) (page - 1) ∷ l)
    (sym (present_first lock view size (page - 1) page (right_before lock view size after page next) (omega arith)))

none_case : (lock : ℕ) (view : ℕ → Option (List ℕ)) (size after : ℕ) → NoneAbove lock view size after → (b : Bool) → nat_lt after size ≡ b
    → MatchOption (cond b (Some (Absent (after + 1) size)) None) (stretches_above lock view size after ≡ []) (IsStretch lock view size after)
none_case lock view size after none true more =
    let some : after < size = ltb-true after size more in
    record {
      first = with_none lock view size after none ∙ absent_some (after + 1) size (omega arith)
          ∙ ap (λ l. Absent (after + 1) size ∷ l) (sym (at_end lock view size));
      within = omega arith;
    }
none_case lock view size after none false more =
    let past : size ≤ after = ltb-false after size more in
    with_none lock view size after none ∙ absent_none (after + 1) size (omega arith)

page_case : (lock : ℕ) (view : ℕ → Option (List ℕ)) (size after page : ℕ) → IsNext lock view size after page → (b : Bool) → (page == after + 1) ≡ b
    → MatchOption (cond b (Some (Present page)) (Some (Absent (after + 1) (page - 1)))) (stretches_above lock view size after ≡ []) (IsStretch lock view size after)
page_case lock view size after page next true is = record {
  first = present_first lock view size after page next (eqb-true page (after + 1) is);
  within = next.within;
}
page_case lock view size after page next false is =
    let within = next.within in
    record { first = absent_first lock view size after page next (eqb-false page (after + 1) is); within = omega arith }

next_case : (lock : ℕ) (view : ℕ → Option (List ℕ)) (size after : ℕ) (next : Option ℕ) → MatchOption next (NoneAbove lock view size after) (IsNext lock view size after)
    → MatchOption (stretch_by after size next) (stretches_above lock view size after ≡ []) (IsStretch lock view size after)
next_case lock view size after None none = none_case lock view size after none (nat_lt after size) refl
next_case lock view size after (Some page) next = page_case lock view size after page next (page == after + 1) refl

pub stretch_is : (lock : ℕ) (view : ℕ → Option (List ℕ)) (size after : ℕ) (next : Option ℕ) (found : Option Stretch) → MatchOption next (NoneAbove lock view size after) (IsNext lock view size after)
    → found ≡ stretch_by after size next → MatchOption found (stretches_above lock view size after ≡ []) (IsStretch lock view size after)
stretch_is lock view size after next found facts is =
    subst (λ s. MatchOption s (stretches_above lock view size after ≡ []) (IsStretch lock view size after)) (sym is) (next_case lock view size after next facts)

-- ---- each page is in one stretch

law_none : (lock : ℕ) (view : ℕ → Option (List ℕ)) (size after : ℕ) → NoneAbove lock view size after → (b : Bool) → nat_le (after + 1) size ≡ b
    → AreStretches lock view size after (cond b (Absent (after + 1) size ∷ []) [])
law_none lock view size after none true some =
    let more : after + 1 ≤ size = leb-true (after + 1) size some in
    (refl, more, omega arith, λ number low high. none number (omega arith) high, tt, omega arith)
law_none lock view size after none false some = let past = leb-false (after + 1) size some in omega arith

law_page : (lock : ℕ) (view : ℕ → Option (List ℕ)) (size after page : ℕ) → IsNext lock view size after page → AreStretches lock view size page (stretches_above lock view size page)
    → (b : Bool) → nat_le (after + 1) (page - 1) ≡ b
    → AreStretches lock view size after (cond b (Absent (after + 1) (page - 1) ∷ []) [] ++ Present page ∷ stretches_above lock view size page)
law_page lock view size after page next rest true some =
    let above = next.above in
    let within = next.within in
    let more : after + 1 ≤ page - 1 = leb-true (after + 1) (page - 1) some in (
      refl,
      more,
      omega arith,
      λ number low high. next.between number (omega arith) (omega arith),
      tt,
      (omega arith, within, next.present, rest),
    )
law_page lock view size after page next rest false some =
    let above = next.above in
    let none = leb-false (after + 1) (page - 1) some in
    (omega arith, next.within, next.present, rest)

law_next : (lock : ℕ) (view : ℕ → Option (List ℕ)) (size after : ℕ) (next : Option ℕ) → MatchOption next (NoneAbove lock view size after) (IsNext lock view size after)
    → ((page : ℕ) → after < page → page ≤ size → AreStretches lock view size page (stretches_above lock view size page))
    → AreStretches lock view size after (stretches_above lock view size after)
law_next lock view size after None none rest =
    subst (AreStretches lock view size after) (sym (with_none lock view size after none)) (law_none lock view size after none (nat_le (after + 1) size) refl)
law_next lock view size after (Some page) next rest =
    subst (AreStretches lock view size after) (sym (with_next lock view size after page next))
    (law_page lock view size after page next (rest page next.above next.within) (nat_le (after + 1) (page - 1)) refl)

law_within : (more : ℕ) (lock : ℕ) (view : ℕ → Option (List ℕ)) (size after : ℕ) → size - after ≤ more → after ≤ size
    → AreStretches lock view size after (stretches_above lock view size after)
law_within zero lock view size after few within =
    law_next lock view size after (nearer lock size after (held_after size view after))
    (nearer_is lock view size after (held_after size view after) (nearer lock size after (held_after size view after)) refl refl)
    (λ page above under. absurd (omega arith))
law_within (suc more) lock view size after few within =
    law_next lock view size after (nearer lock size after (held_after size view after))
    (nearer_is lock view size after (held_after size view after) (nearer lock size after (held_after size view after)) refl refl)
    (λ page above under. law_within more lock view size page (omega arith) under)

pub stretches_are : (lock : ℕ) (view : ℕ → Option (List ℕ)) (size : ℕ) → AreStretches lock view size 0 (stretches_of lock view size)
stretches_are lock view size = law_within size lock view size 0 (omega arith) (omega arith)
