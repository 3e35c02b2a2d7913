-- The ranks that changed past a turn, while ranks are marked.
use Rattle.std.proofs.Common.{◌≡◌, ◌≢◌, ℕ, zero, suc, ◌+◌, ◌<◌, ◌≤◌, Bool, true, false, cond, ◌&&◌, ◌||◌, ◌==◌, nat_lt, nat_le, nat_eq, List, [], ◌∷◌, ◌++◌, length, replicate, slice_index, slice_set, take, refl, sym, ap, ◌∙◌, arith, inl, inr, length-append, length-set, zero-add}
use Rattle.std.specs.List.{range_with_len, list_any, IsDistinct, All, count_by}
use Rattle.std.proofs.lemmas.Bool.{eqb-true, ltb-true, ltb-false, cases_lt, lt-ltb, le-ltb}
use Rattle.std.proofs.lemmas.Cmp.{nat_eq_equiv}
use Rattle.std.proofs.lemmas.Bool.Decides.{nat_tests}
use Rattle.std.proofs.lemmas.List.{get_or-set_same, get_or-set_other, get_or-replicate, length-replicate, length-take-le, get_or_past, append-nil}
use Rattle.std.proofs.lemmas.List.Folds.{list_any-append, sum_by-replicate}
use Rattle.std.proofs.lemmas.List.FromFn.{length-range_with_len, get_or-range_with_len}
use Rattle.std.proofs.lemmas.List.Sums.{sum_by-set, sum_by-cons, count_by-le-length}
use Rattle.std.proofs.lemmas.Map.Keys.{IsDistinct-push, IsDistinct-from_apart}
use Rattle.sx_moment.specs.Turns.{is_among}
use Rattle.sx_moment.specs.Changes.{AreListed}

or_false : (b : Bool) → (b || false) ≡ b
or_false true = refl
or_false false = refl

or_true : (b : Bool) → (b || true) ≡ true
or_true true = refl
or_true false = refl

-- ---- what is among a list

-- the test of being among a list, either way round
pub among_turned : (xs : List ℕ) (n : ℕ) → list_any (nat_eq n) xs ≡ is_among xs n
among_turned [] n = refl
among_turned (x ∷ xs) n =
    let turned : nat_eq n x ≡ nat_eq x n = grind (arith, nat_tests) in
    rw (turned, among_turned xs n) refl

one_among : (x n : ℕ) → is_among (x ∷ []) n ≡ (x == n)
one_among x n = or_false (x == n)

pub among_push : (xs : List ℕ) (x n : ℕ) → is_among (xs ++ x ∷ []) n ≡ (is_among xs n || (x == n))
among_push xs x n = list_any-append (λ page. page == n) xs (x ∷ []) ∙ ap (λ b. is_among xs n || b) (one_among x n)

among_case : (a x n : ℕ) (m : ℕ) (same : Bool) → (a == n) ≡ same → is_among (range_with_len (a + 1) m) n ≡ (nat_le (a + 1) n && nat_lt n (a + 1 + m))
    → is_among (range_with_len a (suc m)) n ≡ (nat_le a n && nat_lt n (a + suc m))
among_case a x n m true is rest =
    let here : a ≡ n = eqb-true _ _ is in
    let low : nat_le a n ≡ true = grind (arith, nat_tests) in
    let high : nat_lt n (a + suc m) ≡ true = grind (arith, nat_tests) in
    rw (is, low, high) refl
among_case a x n m false is rest =
    let same : (nat_le (a + 1) n && nat_lt n (a + 1 + m)) ≡ (nat_le a n && nat_lt n (a + suc m)) = grind (arith, nat_tests) in
    rw is (rest ∙ same)

-- a range has the numbers from its first on and below its end
pub among_range : (a m n : ℕ) → is_among (range_with_len a m) n ≡ (nat_le a n && nat_lt n (a + m))
among_range a zero n = grind (arith, nat_tests)
among_range a (suc m) n = among_case a a n m (a == n) refl (among_range (a + 1) m n)

-- ---- none settled

fresh_at : (n rank : ℕ) → (nat_le 0 rank && nat_lt rank (0 + n)) ≡ nat_lt 0 (slice_index (replicate n 1) rank)
fresh_at n rank =
    elim (cases_lt rank n) [
      | inl below ↦
          let one : slice_index (replicate n 1) rank ≡ 1 = get_or-replicate n rank 1 0 below in
          rw one (grind (arith, nat_tests))
      | inr past ↦
          let none : slice_index (replicate n 1) rank ≡ 0 = get_or_past (replicate n 1) rank 0 (let long = length-replicate {A = ℕ} n 1 in omega (arith, long, past)) in
          rw none (grind (arith, nat_tests))
    ]

-- all ranks changed at turn 1
pub listed_fresh : (n : ℕ) → AreListed 0 (replicate n 1) (range_with_len 0 n)
listed_fresh n = record {
  are = λ rank. among_range 0 n rank ∙ fresh_at n rank;
  once = IsDistinct-from_apart nat_eq (range_with_len 0 n) (λ i j d before below.
      let long = length-range_with_len 0 n in
      let first = get_or-range_with_len 0 n i d (omega arith) in
      let second = get_or-range_with_len 0 n j d (omega arith) in
      grind (arith, nat_tests, first, second));
  few = length-range_with_len 0 n ∙ sym (sum_by-replicate (λ turn. cond (nat_lt 0 turn) 1 0) n 1 ∙ grind arith);
}

-- ---- a rank is marked

same_case : (settled turn rank other : ℕ) (turns : List ℕ) (same : Bool) → (rank == other) ≡ same → rank < length turns → settled < turn
    → nat_lt settled (slice_index (slice_set turns rank turn) other) ≡ (nat_lt settled (slice_index turns other) || (rank == other))
same_case settled turn rank other turns true is within later =
    let here : rank ≡ other = eqb-true _ _ is in
    let set : slice_index (slice_set turns rank turn) rank ≡ turn = get_or-set_same turns rank turn 0 within in
    let late : nat_lt settled turn ≡ true = lt-ltb settled turn later in
    ap (λ n. nat_lt settled (slice_index (slice_set turns rank turn) n)) (sym here)
    ∙ ap (nat_lt settled) set
    ∙ late
    ∙ sym (or_true (nat_lt settled (slice_index turns other)))
    ∙ ap (λ b. nat_lt settled (slice_index turns other) || b) (sym is)
same_case settled turn rank other turns false is within later =
    let apart : other ≢ rank = λ same. grind (arith, nat_tests) in
    let kept : slice_index (slice_set turns rank turn) other ≡ slice_index turns other = get_or-set_other turns rank other turn 0 apart in
    rw (kept, is) (sym (or_false (nat_lt settled (slice_index turns other))))

absorbed : (rank other : ℕ) (turns : List ℕ) (settled : ℕ) (same : Bool) → (rank == other) ≡ same → nat_lt settled (slice_index turns rank) ≡ true
    → (nat_lt settled (slice_index turns other) || same) ≡ nat_lt settled (slice_index turns other)
absorbed rank other turns settled true is late =
    let here : rank ≡ other = eqb-true _ _ is in
    rw (← here, late) refl
absorbed rank other turns settled false is late = or_false (nat_lt settled (slice_index turns other))

-- one that is listed stays so
pub listed_kept : (settled turn rank : ℕ) (turns listed : List ℕ) → AreListed settled turns listed → rank < length turns → settled < turn → settled < slice_index turns rank
    → AreListed settled (slice_set turns rank turn) listed
listed_kept settled turn rank turns listed are within later late =
    let yes : nat_lt settled (slice_index turns rank) ≡ true = lt-ltb settled (slice_index turns rank) late in
    let now : nat_lt settled turn ≡ true = lt-ltb settled turn later in
    let counted = sum_by-set (λ other. cond (nat_lt settled other) 1 0) turns rank turn 0 within in
    record {
      are = λ other.
          are.are other
          ∙ sym (absorbed rank other turns settled (rank == other) refl yes)
          ∙ sym (same_case settled turn rank other turns (rank == other) refl within later);
      once = are.once;
      few = let one = rw (yes, now) at counted in omega (arith, one, are.few);
    }

unlisted : (settled rank : ℕ) (turns listed : List ℕ) → AreListed settled turns listed → slice_index turns rank ≤ settled → is_among listed rank ≡ false
unlisted settled rank turns listed are early = are.are rank ∙ le-ltb settled (slice_index turns rank) early

-- one that isn't is put behind the others
pub listed_more : (settled turn rank : ℕ) (turns listed now : List ℕ) → AreListed settled turns listed → rank < length turns → settled < turn → slice_index turns rank ≤ settled
    → now ≡ listed ++ rank ∷ [] → AreListed settled (slice_set turns rank turn) now
listed_more settled turn rank turns listed now are within later early pushed =
    let no : nat_lt settled (slice_index turns rank) ≡ false = le-ltb settled (slice_index turns rank) early in
    let yes : nat_lt settled turn ≡ true = lt-ltb settled turn later in
    let counted = sum_by-set (λ other. cond (nat_lt settled other) 1 0) turns rank turn 0 within in
    let new = unlisted settled rank turns listed are early in
    rw pushed (record {
      are = λ other.
          among_push listed rank other
          ∙ ap (λ b. b || (rank == other)) (are.are other)
          ∙ sym (same_case settled turn rank other turns (rank == other) refl within later);
      once = IsDistinct-push nat_eq_equiv listed rank are.once (among_turned listed rank ∙ new);
      few = let one = rw (no, yes) at counted in omega (arith, one, are.few, length-append listed (rank ∷ []));
    })

-- there is room for it
pub listed_room : (settled rank : ℕ) (turns listed : List ℕ) → AreListed settled turns listed → rank < length turns → slice_index turns rank ≤ settled → length listed < length turns
listed_room settled rank turns listed are within early =
    let no : nat_lt settled (slice_index turns rank) ≡ false = le-ltb settled (slice_index turns rank) early in
    let late : nat_lt settled (settled + 1) ≡ true = lt-ltb settled (settled + 1) (omega arith) in
    let counted = sum_by-set (λ other. cond (nat_lt settled other) 1 0) turns rank (settled + 1) 0 within in
    let most = count_by-le-length (nat_lt settled) (slice_set turns rank (settled + 1)) in
    let long = length-set turns rank (settled + 1) in
    let one = rw (no, late) at counted in
    omega (arith, one, most, long, are.few)

-- ---- all is settled

none_late : (turn : ℕ) (turns : List ℕ) (rank : ℕ) → All (λ other. other ≤ turn) turns → false ≡ nat_lt turn (slice_index turns rank)
none_late turn turns rank all =
    elim (cases_lt rank (length turns)) [
      | inl below ↦ sym (le-ltb turn (slice_index turns rank) (all rank 0 below))
      | inr past ↦
          let none : slice_index turns rank ≡ 0 = get_or_past turns rank 0 past in
          rw none (sym (le-ltb turn 0 (omega arith)))
    ]

none_counted : (turn : ℕ) (turns : List ℕ) → All (λ other. other ≤ turn) turns → 0 ≡ count_by (nat_lt turn) turns
none_counted turn [] all = refl
none_counted turn (x ∷ turns) all =
    let early : nat_lt turn x ≡ false = le-ltb turn x (all 0 x (omega arith)) in
    let rest = none_counted turn turns (λ k d below. all (suc k) d (omega arith)) in
    let first = sum_by-cons (λ other. cond (nat_lt turn other) 1 0) x turns in
    sym (first ∙ ap (λ b. cond b 1 0 + count_by (nat_lt turn) turns) early ∙ zero-add (count_by (nat_lt turn) turns) ∙ sym rest)

pub listed_none : (turn : ℕ) (turns : List ℕ) → All (λ other. other ≤ turn) turns → AreListed turn turns []
unfolding IsDistinct
listed_none turn turns all = record {
  are = λ rank. none_late turn turns rank all;
  once = tt;
  few = none_counted turn turns all;
}

-- ---- for the code

-- a mark puts the rank behind the others, unless it is listed
pub listed_marked : (settled turn rank count : ℕ) (late : Bool) (turns listed now : List ℕ) → AreListed settled turns listed → rank < length turns → settled < turn
    → late ≡ nat_lt settled (slice_index turns rank) → now ≡ listed ++ cond late [] (rank ∷ []) → AreListed settled (slice_set turns rank turn) now
listed_marked settled turn rank count true turns listed now are within later is pushed =
    let same : now ≡ listed = pushed ∙ append-nil listed in
    let after : settled < slice_index turns rank = ltb-true _ _ (sym is) in
    rw same (listed_kept settled turn rank turns listed are within later after)
listed_marked settled turn rank count false turns listed now are within later is pushed =
    let early : slice_index turns rank ≤ settled = ltb-false _ _ (sym is) in
    listed_more settled turn rank turns listed now are within later early pushed

-- where it isn't listed there is room for it behind the others
pub listed_fits : (settled turn rank count : ℕ) (turns listed : List ℕ) → AreListed settled turns (take count listed) → count ≤ length listed → length listed ≡ length turns
    → rank < length turns → nat_lt settled (slice_index turns rank) ≡ false → count < length listed
listed_fits settled turn rank count turns listed are bound long within early =
    let room = listed_room settled rank turns (take count listed) are within (ltb-false _ _ early) in
    let front = length-take-le count listed bound in
    omega (arith, room, front, long)
