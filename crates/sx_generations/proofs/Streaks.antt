-- What streaks are: the maximal lists of at least two neighbours, in order.
use Rattle.std.proofs.Common.{◌≡◌, ℕ, ◌+◌, ◌-◌, ◌<◌, ◌≤◌, Bool, true, ◌&&◌, not, List, [], length, map, get_or, inl, inr, sym, ap, ◌∙◌, arith, All}
use Rattle.std.specs.List.{filter, prefix_len, range_with_len}
use Rattle.std.proofs.lemmas.Bool.{cases_lt, and_parts, ltb-true, le-ltb, both_ways}
use Rattle.std.proofs.lemmas.List.Elements.{filter_passes, All-weaker, All-map, All-get_or, All-same}
use Rattle.std.proofs.lemmas.List.FromFn.{length-range_with_len, get_or-range_with_len}
use Rattle.std.proofs.lemmas.List.Sums.{prefix_len-le-length, prefix_len_passes, prefix_len_stops, length-filter, count_by-le-length}
use Rattle.std.proofs.lemmas.List.{length-map}
use Rattle.sx_generations.specs.declared.neighbours.Streak.{Streak}
use Rattle.sx_generations.specs.Neighbours.{is_followed, follows, begins, links_from, streak_at, streaks_of}
use Rattle.sx_generations.proofs.Walks.{none_pass}

-- the links from a place end before the last place
pub links_within : (joined : ℕ → Bool) (count at : ℕ) → at < count → at + links_from joined count at < count
unfolding links_from
links_within joined count at below =
    let row = range_with_len at (count - at) in
    let len = length-range_with_len at (count - at) in
    let most = prefix_len-le-length (is_followed joined count) row in
    elim (cases_lt (prefix_len (is_followed joined count) row) (count - at)) [
      | inl less ↦ omega arith
      | inr all ↦
          let last = prefix_len_passes (is_followed joined count) row (count - at - 1) 0 (omega arith) in
          let place : at + (count - at - 1) ≡ count - 1 = omega arith in
          let end = ap (is_followed joined count) (sym (get_or-range_with_len at (count - at) (count - at - 1) 0 (omega arith) ∙ place)) ∙ last in
          let inside = ltb-true (count - 1 + 1) count (and_parts _ _ end).0 in
          absurd (omega arith)
    ]

-- a place that is followed has a link
pub links_some : (joined : ℕ → Bool) (count at : ℕ) → is_followed joined count at ≡ true → 0 < links_from joined count at
unfolding links_from
links_some joined count at followed =
    let row = range_with_len at (count - at) in
    let len = length-range_with_len at (count - at) in
    let below = ltb-true (at + 1) count (and_parts _ _ followed).0 in
    elim (cases_lt 0 (prefix_len (is_followed joined count) row)) [
      | inl some ↦ some
      | inr none ↦
          let zeroed : prefix_len (is_followed joined count) row ≡ 0 = omega arith in
          let place : at + 0 ≡ at = omega arith in
          let first = ap (is_followed joined count) (sym place ∙ sym (get_or-range_with_len at (count - at) 0 0 (omega arith)))
          ∙ ap (λ k. is_followed joined count (get_or row k 0)) (sym zeroed) ∙ prefix_len_stops (is_followed joined count) row 0 (omega arith) in
          absurd (both_ways (is_followed joined count at) first followed)
    ]

-- a list of at least two places among so many
pub record IsWithin (count : ℕ) (streak : Streak) : Type 0 where
  pub two : 2 ≤ streak.len
  pub within : streak.first + streak.len ≤ count

-- the one that begins at a place is
pub within_at : (joined : ℕ → Bool) (count at : ℕ) → begins joined count at ≡ true → IsWithin count (streak_at joined count at)
within_at joined count at begin =
    let followed = (and_parts (is_followed joined count at) _ begin).0 in
    let below = ltb-true (at + 1) count (and_parts _ _ followed).0 in
    let some = links_some joined count at followed in
    let within = links_within joined count at (omega arith) in
    record { two = omega arith; within = omega arith }

-- each streak is
pub streaks_within : (joined : ℕ → Bool) (count : ℕ) → All (IsWithin count) (streaks_of joined count)
unfolding streaks_of
streaks_within joined count =
    let firsts = filter (begins joined count) (range_with_len 0 count) in
    All-map (IsWithin count) (streak_at joined count) firsts
    (All-weaker (λ at. begins joined count at ≡ true) (λ at. IsWithin count (streak_at joined count at)) (λ at begin. within_at joined count at begin) firsts
    (filter_passes (begins joined count) (range_with_len 0 count)))

-- there are no more streaks than places
pub few_streaks : (joined : ℕ → Bool) (count : ℕ) → length (streaks_of joined count) ≤ count
unfolding streaks_of
few_streaks joined count =
    let firsts = filter (begins joined count) (range_with_len 0 count) in
    omega (arith, length-map firsts (streak_at joined count), length-filter (begins joined count) (range_with_len 0 count), count_by-le-length (begins joined count) (range_with_len 0 count), length-range_with_len 0 count)

-- fewer than two places have none
pub none_of_one : (joined : ℕ → Bool) (count : ℕ) → count < 2 → streaks_of joined count ≡ []
unfolding streaks_of
none_of_one joined count few =
    ap (map (streak_at joined count)) (none_pass (begins joined count) 0 count
    (λ k low high. ap (λ b. (b && joined k) && not (follows joined k)) (le-ltb (k + 1) count (omega arith))))

-- so is the one at a place of the list
pub within_get : (joined : ℕ → Bool) (count i : ℕ) (streaks : List Streak) (other : Streak) → streaks ≡ streaks_of joined count → i < length streaks
    → IsWithin count (get_or streaks i other)
within_get joined count i streaks other are below =
    All-get_or (IsWithin count) streaks i other below (All-same (IsWithin count) streaks (streaks_of joined count) are (streaks_within joined count))
