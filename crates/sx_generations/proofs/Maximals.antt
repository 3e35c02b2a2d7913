-- The streaks of a row are the maximal lists of at least two neighbours, each once and in order.
use Rattle.std.proofs.Common.{◌≡◌, ◌↔◌, ℕ, zero, suc, ◌+◌, ◌-◌, ◌<◌, ◌≤◌, Bool, true, false, ◌&&◌, not, cond, List, [], ◌∷◌, map, ltb, inl, inr, refl, sym, ap, subst, ◌∙◌, arith, All, Contains}
use Rattle.std.specs.List.{filter, range_with_len}
use Rattle.std.specs.List.Sorted.{IsStrictlyIncreasing}
use Rattle.std.proofs.lemmas.Bool.{cases_lt, and_parts, and_from, not-true, ltb-true, lt-ltb, le-ltb}
use Rattle.std.proofs.lemmas.List.{get_or-map, length-map}
use Rattle.std.proofs.lemmas.List.Elements.{filter_passes, All-weaker, All-map, All-contains}
use Rattle.std.proofs.lemmas.List.FromFn.{length-range_with_len, get_or-range_with_len}
use Rattle.std.proofs.lemmas.List.Kept.{IsStrictlyIncreasing-filter}
use Rattle.sx_generations.specs.declared.neighbours.Streak.{Streak}
use Rattle.sx_generations.specs.Neighbours.{is_followed, follows, begins, links_from, streak_at, streaks_of, IsStreak}
use Rattle.sx_generations.proofs.Walks.{links_are, links_each, links_stop}
use Rattle.sx_generations.proofs.Streaks.{links_within, within_at}

-- ---- each streak is maximal

-- what the second of two tests says where the first passes
second_of : (a b : Bool) → a ≡ true → (a && b) ≡ false → b ≡ false
second_of true b pass both = both
second_of false b pass both = cc

maximal_at : (joined : ℕ → Bool) (count at : ℕ) → begins joined count at ≡ true → IsStreak joined count (streak_at joined count at)
maximal_at joined count at begin =
    let parts = and_parts (is_followed joined count at) (not (follows joined at)) begin in
    let below = ltb-true (at + 1) count (and_parts (ltb (at + 1) count) (joined at) parts.0).0 in
    let links = links_from joined count at in
    let inside = links_within joined count at (omega arith) in
    let held = within_at joined count at begin in
    let stop = links_stop joined count at links inside refl in
    record {
      two = held.two;
      within = held.within;
      each = λ k low high. (and_parts (ltb (k + 1) count) (joined k) (links_each joined count at links inside refl k low (omega arith))).1;
      before = λ some. second_of (ltb 0 at) (joined (at - 1)) (lt-ltb 0 at some) (not-true (follows joined at) parts.1);
      behind = λ more.
          let place : at + (links + 1) - 1 ≡ at + links = omega arith in
          ap joined place ∙ second_of (ltb (at + links + 1) count) (joined (at + links)) (lt-ltb (at + links + 1) count (omega arith)) stop;
    }

each_maximal : (joined : ℕ → Bool) (count : ℕ) → All (IsStreak joined count) (streaks_of joined count)
unfolding streaks_of
each_maximal joined count =
    let firsts = filter (begins joined count) (range_with_len 0 count) in
    All-map (IsStreak joined count) (streak_at joined count) firsts
    (All-weaker (λ at. begins joined count at ≡ true) (λ at. IsStreak joined count (streak_at joined count at)) (λ at begin. maximal_at joined count at begin) firsts
    (filter_passes (begins joined count) (range_with_len 0 count)))

-- ---- and each maximal list is a streak

there_more : (x first : ℕ) (b : Bool) (rest : List ℕ) → Contains rest x → Contains (cond b (first ∷ rest) rest) x
there_more x first true rest there = (suc there.0, omega (arith, there.1), there.2)
there_more x first false rest there = there

-- a number of a range that passes is one of those that do
passes_there : (p : ℕ → Bool) (from n x : ℕ) → from ≤ x → x < from + n → p x ≡ true → Contains (filter p (range_with_len from n)) x
passes_there p from zero x low high pass = absurd (omega arith)
passes_there p from (suc n) x low high pass =
    elim (cases_lt from x) [
      | inl above ↦ there_more x from (p from) (filter p (range_with_len (from + 1) n)) (passes_there p (from + 1) n x (omega arith) (omega arith) pass)
      | inr here ↦
          let same : x ≡ from = omega arith in
          let first : filter p (range_with_len from (suc n)) ≡ from ∷ filter p (range_with_len (from + 1) n) =
          ap (λ b. cond b (from ∷ filter p (range_with_len (from + 1) n)) (filter p (range_with_len (from + 1) n))) (ap p (sym same) ∙ pass) in
          subst (λ xs. Contains xs x) (sym first) (0, omega arith, sym same)
    ]

-- what is made of an item is made of it
made_there : (f : ℕ → Streak) (xs : List ℕ) (x : ℕ) → Contains xs x → Contains (map f xs) (f x)
made_there f xs x there = (there.0, omega (arith, there.1, length-map xs f), get_or-map f xs there.0 x (f x) there.1 ∙ ap f there.2)

begins_first : (joined : ℕ → Bool) (count : ℕ) (streak : Streak) → IsStreak joined count streak → begins joined count streak.first ≡ true
begins_first joined count streak is =
    let two = is.two in
    let within = is.within in
    let followed : is_followed joined count streak.first ≡ true =
    and_from (ltb (streak.first + 1) count) (joined streak.first) (lt-ltb (streak.first + 1) count (omega arith)) (is.each streak.first (omega arith) (omega arith)) in
    let fresh : follows joined streak.first ≡ false =
    elim (cases_lt 0 streak.first) [
      | inl some ↦ ap (λ b. ltb 0 streak.first && b) (is.before some) ∙ and_false (ltb 0 streak.first)
      | inr none ↦ ap (λ b. b && joined (streak.first - 1)) (le-ltb 0 streak.first none)
    ] in
    and_from (is_followed joined count streak.first) (not (follows joined streak.first)) followed (ap not fresh)
  where
    and_false : (b : Bool) → (b && false) ≡ false
    and_false true = refl
    and_false false = refl

streak_is : (joined : ℕ → Bool) (count : ℕ) (streak : Streak) → IsStreak joined count streak → streak_at joined count streak.first ≡ streak
streak_is joined count streak is =
    let two = is.two in
    let within = is.within in
    let last = streak.first + streak.len - 1 in
    let stop : is_followed joined count last ≡ false =
    elim (cases_lt (streak.first + streak.len) count) [
      | inl more ↦ ap (λ b. ltb (last + 1) count && b) (is.behind more) ∙ and_false (ltb (last + 1) count)
      | inr end ↦ ap (λ b. b && joined last) (le-ltb (last + 1) count (omega arith))
    ] in
    let links = links_are joined count streak.first last (omega arith) (omega arith)
    (λ k low high. and_from (ltb (k + 1) count) (joined k) (lt-ltb (k + 1) count (omega arith)) (is.each k low (omega arith))) stop in
    let long : links_from joined count streak.first + 1 ≡ streak.len = omega arith in
    ap (λ n. record { first = streak.first; len = n }) long
  where
    and_false : (b : Bool) → (b && false) ≡ false
    and_false true = refl
    and_false false = refl

maximal_there : (joined : ℕ → Bool) (count : ℕ) (streak : Streak) → IsStreak joined count streak → Contains (streaks_of joined count) streak
unfolding streaks_of
maximal_there joined count streak is =
    let two = is.two in
    let within = is.within in
    let firsts = filter (begins joined count) (range_with_len 0 count) in
    subst (λ s. Contains (map (streak_at joined count) firsts) s) (streak_is joined count streak is)
    (made_there (streak_at joined count) firsts streak.first
    (passes_there (begins joined count) 0 count streak.first (omega arith) (omega arith) (begins_first joined count streak is)))

pub are_maximal : (joined : ℕ → Bool) (count : ℕ) (streak : Streak) → Contains (streaks_of joined count) streak ↔ IsStreak joined count streak
are_maximal joined count streak =
    (λ there. All-contains (IsStreak joined count) (streaks_of joined count) streak (each_maximal joined count) there, λ is. maximal_there joined count streak is)

-- ---- their order

range_rises : (n : ℕ) → IsStrictlyIncreasing (range_with_len 0 n)
range_rises n k inside =
    let len = length-range_with_len 0 n in
    let here = get_or-range_with_len 0 n k 0 (omega arith) in
    let next = get_or-range_with_len 0 n (k + 1) 0 (omega arith) in
    omega arith

firsts_are : (joined : ℕ → Bool) (count : ℕ) (firsts : List ℕ) → map (λ (s : Streak). s.first) (map (streak_at joined count) firsts) ≡ firsts
firsts_are joined count [] = refl
firsts_are joined count (first ∷ firsts) = ap (λ rest. first ∷ rest) (firsts_are joined count firsts)

pub firsts_rise : (joined : ℕ → Bool) (count : ℕ) → IsStrictlyIncreasing (map (λ (streak : Streak). streak.first) (streaks_of joined count))
unfolding streaks_of
firsts_rise joined count =
    let firsts = filter (begins joined count) (range_with_len 0 count) in
    subst IsStrictlyIncreasing (sym (firsts_are joined count firsts)) (IsStrictlyIncreasing-filter (begins joined count) (range_with_len 0 count) (range_rises count))
