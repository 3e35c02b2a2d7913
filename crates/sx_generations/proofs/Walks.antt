-- The walk over a row finds its streaks.
use Rattle.std.proofs.Common.{◌≡◌, ℕ, zero, suc, ◌+◌, ◌-◌, ◌<◌, ◌≤◌, Bool, true, false, ◌&&◌, ◌⊎◌, not, cond, List, [], ◌∷◌, ◌++◌, map, get_or, ltb, inl, inr, refl, sym, ap, ◌∙◌, arith, append-nil}
use Rattle.std.specs.List.{filter, range_with_len}
use Rattle.std.proofs.lemmas.Bool.{cases_lt, and_parts, lt-ltb, le-ltb}
use Rattle.std.proofs.lemmas.List.{map-append}
use Rattle.std.proofs.lemmas.List.Elements.{filter-append}
use Rattle.std.proofs.lemmas.List.FromFn.{length-range_with_len, get_or-range_with_len}
use Rattle.std.proofs.lemmas.List.Sums.{prefix_len_is, prefix_len_passes, prefix_len_stops}
use Rattle.sx_generations.specs.declared.neighbours.Streak.{Streak}
use Rattle.sx_generations.specs.Neighbours.{is_followed, follows, begins, links_from, streak_at, streaks_of}

-- ---- the links from a place on

-- the places from one on that are followed, up to the first that isn't
pub links_are : (joined : ℕ → Bool) (count first at : ℕ) → first ≤ at → at < count
    → ((k : ℕ) → first ≤ k → k < at → is_followed joined count k ≡ true) → is_followed joined count at ≡ false
    → at - first ≡ links_from joined count first
unfolding links_from
links_are joined count first at from below each stop =
    let len = length-range_with_len first (count - first) in
    sym (prefix_len_is (is_followed joined count) (range_with_len first (count - first)) (at - first) 0 (omega arith)
    (λ k inside. ap (is_followed joined count) (get_or-range_with_len first (count - first) k 0 (omega arith)) ∙ each (first + k) (omega arith) (omega arith))
    (λ inside. let here : first + (at - first) ≡ at = omega arith in
    ap (is_followed joined count) (get_or-range_with_len first (count - first) (at - first) 0 (omega arith) ∙ here) ∙ stop))

-- each of them is followed
pub links_each : (joined : ℕ → Bool) (count first links : ℕ) → first + links < count → links ≡ links_from joined count first
    → (k : ℕ) → first ≤ k → k < first + links → is_followed joined count k ≡ true
unfolding links_from
links_each joined count first links within is k low high =
    let place : first + (k - first) ≡ k = omega arith in
    ap (is_followed joined count) (sym (get_or-range_with_len first (count - first) (k - first) 0 (omega arith) ∙ place))
    ∙ prefix_len_passes (is_followed joined count) (range_with_len first (count - first)) (k - first) 0 (omega arith)

-- and the one behind them isn't
pub links_stop : (joined : ℕ → Bool) (count first links : ℕ) → first + links < count → links ≡ links_from joined count first
    → is_followed joined count (first + links) ≡ false
unfolding links_from
links_stop joined count first links within is =
    let row = range_with_len first (count - first) in
    let len = length-range_with_len first (count - first) in
    ap (is_followed joined count) (sym (get_or-range_with_len first (count - first) links 0 (omega arith)))
    ∙ ap (λ k. is_followed joined count (get_or row k 0)) is
    ∙ prefix_len_stops (is_followed joined count) row 0 (omega arith)

-- ---- where streaks begin

-- a range in two pieces
pub range_split : (from n m : ℕ) → range_with_len from (n + m) ≡ range_with_len from n ++ range_with_len (from + n) m
range_split from zero m =
    let none : 0 + m ≡ m = omega arith in
    let here : from ≡ from + 0 = omega arith in
    ap (λ k. range_with_len from k) none ∙ ap (λ k. range_with_len k m) here
range_split from (suc n) m =
    let more : suc n + m ≡ suc (n + m) = omega arith in
    let behind : from + 1 + n ≡ from + suc n = omega arith in
    ap (λ k. range_with_len from k) more ∙ ap (λ rest. from ∷ rest) (range_split (from + 1) n m ∙ ap (λ k. range_with_len (from + 1) n ++ range_with_len k m) behind)

-- no number of a range passes
pub none_pass : (p : ℕ → Bool) (from n : ℕ) → ((k : ℕ) → from ≤ k → k < from + n → p k ≡ false) → filter p (range_with_len from n) ≡ []
none_pass p from zero none = refl
none_pass p from (suc n) none = rw (none from (omega arith) (omega arith)) (none_pass p (from + 1) n (λ k low high. none k (omega arith) (omega arith)))

and_no : (b : Bool) → (b && false) ≡ false
and_no true = refl
and_no false = refl

-- no streak begins at a place that follows
no_begin : (joined : ℕ → Bool) (count k : ℕ) → 0 < k → joined (k - 1) ≡ true → begins joined count k ≡ false
no_begin joined count k some join = rw (lt-ltb 0 k some, join) (and_no (is_followed joined count k))

-- one begins at a place that doesn't follow, where it has a link
begin_at : (joined : ℕ → Bool) (count at links : ℕ) → at + links < count → follows joined at ≡ false → links ≡ links_from joined count at
    → (0 < links) ⊎ (links ≤ 0) → begins joined count at ≡ ltb 0 links
begin_at joined count at links within fresh is (inl more) =
    ap (λ b. b && not (follows joined at)) (links_each joined count at links within is at (omega arith) (omega arith)) ∙ ap not fresh ∙ sym (lt-ltb 0 links more)
begin_at joined count at links within fresh is (inr none) =
    let here : at + links ≡ at = omega arith in
    ap (λ b. b && not (follows joined at)) (ap (is_followed joined count) (sym here) ∙ links_stop joined count at links within is) ∙ sym (le-ltb 0 links none)

-- ---- the walk

-- what the walk has found when it stands at a place
pub record Found (joined : ℕ → Bool) (count at : ℕ) (streaks : List Streak) : Type 0 where
  pub within : at ≤ count
  pub fresh : at < count → follows joined at ≡ false
  pub all : streaks ≡ map (streak_at joined count) (filter (begins joined count) (range_with_len 0 at))

-- the place behind the first that isn't followed doesn't follow
fresh_behind : (joined : ℕ → Bool) (count at links : ℕ) → at + links < count → links ≡ links_from joined count at → at + (links + 1) < count
    → follows joined (at + (links + 1)) ≡ false
fresh_behind joined count at links within is below =
    let place : at + (links + 1) - 1 ≡ at + links = omega arith in
    let next : ltb (at + links + 1) count ≡ true = lt-ltb (at + links + 1) count (omega arith) in
    let other : joined (at + links) ≡ false = sym (ap (λ b. b && joined (at + links)) next) ∙ links_stop joined count at links within is in
    ap (λ k. ltb 0 (at + (links + 1)) && joined k) place ∙ ap (λ b. ltb 0 (at + (links + 1)) && b) other ∙ and_no (ltb 0 (at + (links + 1)))

-- the streaks that begin up to there
walked : (joined : ℕ → Bool) (count at links : ℕ) → at + links < count → follows joined at ≡ false → links ≡ links_from joined count at
    → filter (begins joined count) (range_with_len 0 (at + (links + 1))) ≡ filter (begins joined count) (range_with_len 0 at) ++ cond (ltb 0 links) (at ∷ []) []
walked joined count at links within fresh is =
    let zeroed : 0 + at ≡ at = omega arith in
    let next : links + 1 ≡ suc links = omega arith in
    let rest : filter (begins joined count) (range_with_len (at + 1) links) ≡ [] =
    none_pass (begins joined count) (at + 1) links
    (λ k low high. no_begin joined count k (omega arith) (and_parts _ _ (links_each joined count at links within is (k - 1) (omega arith) (omega arith))).1) in
    let some : begins joined count at ≡ ltb 0 links = begin_at joined count at links within fresh is (cases_lt 0 links) in
    let one : range_with_len (0 + at) (links + 1) ≡ at ∷ range_with_len (at + 1) links =
    ap (λ k. range_with_len k (links + 1)) zeroed ∙ ap (λ k. range_with_len at k) next in
    let here : filter (begins joined count) (at ∷ range_with_len (at + 1) links) ≡ cond (ltb 0 links) (at ∷ []) [] =
    ap (λ b. cond b (at ∷ filter (begins joined count) (range_with_len (at + 1) links)) (filter (begins joined count) (range_with_len (at + 1) links))) some
    ∙ ap (λ xs. cond (ltb 0 links) (at ∷ xs) xs) rest in
    ap (filter (begins joined count)) (range_split 0 at (links + 1) ∙ ap (λ k. range_with_len 0 at ++ k) one)
    ∙ filter-append (begins joined count) (range_with_len 0 at) (at ∷ range_with_len (at + 1) links)
    ∙ ap (λ xs. filter (begins joined count) (range_with_len 0 at) ++ xs) here

-- a streak more
pub found_more : (joined : ℕ → Bool) (count at links : ℕ) (streaks : List Streak) → Found joined count at streaks → at + links < count → links ≡ links_from joined count at → 0 < links
    → Found joined count (at + (links + 1)) (streaks ++ record { first = at; len = links + 1 } ∷ [])
found_more joined count at links streaks so_far within is some =
    let firsts = filter (begins joined count) (range_with_len 0 at) in
    let one : filter (begins joined count) (range_with_len 0 (at + (links + 1))) ≡ firsts ++ at ∷ [] =
    walked joined count at links within (so_far.fresh (omega arith)) is ∙ ap (λ b. firsts ++ cond b (at ∷ []) []) (lt-ltb 0 links some) in
    let same : streak_at joined count at ≡ record { first = at; len = links + 1 } = ap (λ n. record { first = at; len = n + 1 }) (sym is) in
    record {
      within = omega arith;
      fresh = λ below. fresh_behind joined count at links within is below;
      all = ap (λ xs. xs ++ record { first = at; len = links + 1 } ∷ []) so_far.all
          ∙ sym (ap (map (streak_at joined count)) one ∙ map-append (streak_at joined count) firsts (at ∷ [])
          ∙ ap (λ streak. map (streak_at joined count) firsts ++ streak ∷ []) same);
    }

-- no streak more
pub found_none : (joined : ℕ → Bool) (count at links : ℕ) (streaks : List Streak) → Found joined count at streaks → at + links < count → links ≡ links_from joined count at → links ≤ 0
    → Found joined count (at + (links + 1)) streaks
found_none joined count at links streaks so_far within is none =
    let firsts = filter (begins joined count) (range_with_len 0 at) in
    let one : filter (begins joined count) (range_with_len 0 (at + (links + 1))) ≡ firsts =
    walked joined count at links within (so_far.fresh (omega arith)) is ∙ ap (λ b. firsts ++ cond b (at ∷ []) []) (le-ltb 0 links none) ∙ append-nil firsts in
    record {
      within = omega arith;
      fresh = λ below. fresh_behind joined count at links within is below;
      all = so_far.all ∙ sym (ap (map (streak_at joined count)) one);
    }

-- the same, of equal lists
pub found_same : (joined : ℕ → Bool) (count at : ℕ) (streaks same : List Streak) → same ≡ streaks → Found joined count at streaks → Found joined count at same
found_same joined count at streaks same is found = rw is found

-- the walk has come to the end
pub found_all : (joined : ℕ → Bool) (count at : ℕ) (streaks : List Streak) → Found joined count at streaks → count ≤ at → streaks ≡ streaks_of joined count
unfolding streaks_of
found_all joined count at streaks so_far end =
    let within = so_far.within in
    let same : at ≡ count = omega arith in
    so_far.all ∙ ap (λ n. map (streak_at joined count) (filter (begins joined count) (range_with_len 0 n))) same
