-- Pages that go round.
use Rattle.std.proofs.Common.{◌≡◌, inl, inr, ℕ, zero, suc, ◌+◌, ◌-◌, ◌<◌, ◌≤◌, ◌==◌, Bool, true, false, cond, ◌&&◌, ◌||◌, if◌then◌else◌, List, [], ◌∷◌, ◌++◌, Option, Some, length, nat_eq, take, drop, get_or, refl, sym, ap, subst, ◌∙◌, arith, append-nil, length-append, eq-eqb}
use Rattle.std.specs.Prelude.{slice_index}
use Rattle.std.specs.List.{list_any}
use Rattle.std.proofs.lemmas.List.{take_more}
use Rattle.sx_spill.specs.Chains.{link_of, trail_of, are_distinct, has_chain}
use Rattle.sx_spill.specs.Marks.{Reaches, IsTrail, is_settled, IsPassed, IsNoted, IsOut, IsBack}
use Rattle.sx_spill.proofs.BoolLemmas.{and_both, and_none, no_both, or_left, or_right, or_one, same_true, true_same, turned}
use Rattle.sx_spill.proofs.ListLemmas.{has, has_append, has_swapped, swapped, second_apart, first_apart, parts_apart, twice, among}
use Rattle.sx_spill.proofs.ChainLemmas.{trail_some, trail_zero}
use Rattle.sx_spill.proofs.TrailLemmas.{trail_parts, trail_join}

zero_more : (n : ℕ) → 0 + n ≡ n
zero_more n = omega arith

-- along a trail
along : (view : ℕ → Option (List ℕ)) (from to n : ℕ) (trail : List ℕ) → IsTrail view from trail to → trail_of view from (length trail + n) ≡ trail ++ trail_of view to n
along view from to n [] is = ap (trail_of view from) (zero_more n) ∙ ap (λ k. trail_of view k n) (sym is)
along view from to n (number ∷ trail) is =
    let more : length (number ∷ trail) + n ≡ suc (length trail + n) = omega arith in
    ap (trail_of view from) more
    ∙ trail_some view from (length trail + n) is.1 (ap view (sym is.0) ∙ is.2)
    ∙ ap (λ l. from ∷ l) (along view (link_of is.1) to n trail is.3)
    ∙ ap (λ k. k ∷ (trail ++ trail_of view to n)) (sym is.0)

chain_is : (view : ℕ → Option (List ℕ)) (number n : ℕ) (trail : List ℕ) → trail_of view number n ≡ trail → has_chain view number n ≡ ((length trail == n) && are_distinct trail)
unfolding has_chain
chain_is view number n trail is = ap (λ t. (length t == n) && are_distinct t) is

-- a trail of distinct pages that comes back to its first page: so many follow one another as it has
round_reach : (view : ℕ → Option (List ℕ)) (at number : ℕ) (trail : List ℕ) → IsTrail view at (number ∷ trail) at → are_distinct (number ∷ trail) ≡ true
    → Reaches view at (length (number ∷ trail))
round_reach view at number trail is apart =
    let round = number ∷ trail in
    let none : length round ≡ length round + 0 = omega arith in
    let here : trail_of view at (length round) ≡ round = ap (trail_of view at) none ∙ along view at at 0 round is ∙ ap (λ l. round ++ l) (trail_zero view at) ∙ append-nil round in
    let one : trail_of view at 1 ≡ at ∷ [] = trail_some view at 0 is.1 (ap view (sym is.0) ∙ is.2) ∙ ap (λ l. at ∷ l) (trail_zero view (link_of is.1)) in
    let past : trail_of view at (length round + 1) ≡ round ++ at ∷ [] = along view at at 1 round is ∙ ap (λ l. round ++ l) one in
    record {
      whole = chain_is view at (length round) round here ∙ and_both (length round == length round) (are_distinct round) (eq-eqb (length round) (length round) refl) apart;
      end = chain_is view at (length round + 1) (round ++ at ∷ []) past
          ∙ and_none (length (round ++ at ∷ []) == length round + 1) (are_distinct (round ++ at ∷ []))
          (twice at round [] (or_left (nat_eq at number) (has trail at) (same_true at number (sym is.0))));
    }

-- the same from each of its pages
pub record IsRound (view : ℕ → Option (List ℕ)) (q len : ℕ) (round : List ℕ) : Type 0 where
  pub rest : List ℕ
  pub trail : IsTrail view q (q ∷ rest) q
  pub apart : are_distinct (q ∷ rest) ≡ true
  pub long : length (q ∷ rest) ≡ len
  pub same : (n : ℕ) → has (q ∷ rest) n ≡ has round n

turn : (view : ℕ → Option (List ℕ)) (at q : ℕ) (before behind : List ℕ) → IsTrail view at (before ++ q ∷ behind) at → are_distinct (before ++ q ∷ behind) ≡ true
    → IsRound view q (length (before ++ q ∷ behind)) (before ++ q ∷ behind)
turn view at q before behind is apart =
    let parts = trail_parts view at at before (q ∷ behind) is in
    let turned = trail_join view parts.at at parts.at (q ∷ behind) before parts.other parts.one in
    record {
      rest = behind ++ before;
      trail = subst (λ n. IsTrail view n (q ∷ (behind ++ before)) n) (sym parts.other.0) turned;
      apart = swapped before (q ∷ behind) apart;
      long = length-append (q ∷ behind) before ∙ omega arith ∙ sym (length-append before (q ∷ behind));
      same = λ n. has_swapped (q ∷ behind) before n;
    }

pub round_from : (view : ℕ → Option (List ℕ)) (at q len : ℕ) (round : List ℕ) → IsTrail view at round at → are_distinct round ≡ true → len ≡ length round → has round q ≡ true
    → IsRound view q len round
round_from view at q len round is apart long there =
    let place = among q round there in
    let turned = turn view at q place.before place.behind (subst (λ r. IsTrail view at r at) place.parts is) (ap are_distinct (sym place.parts) ∙ apart) in
    subst (λ r. IsRound view q len r) (sym place.parts)
    (subst (λ n. IsRound view q n (place.before ++ q ∷ place.behind)) (sym (ap length place.parts) ∙ sym long) turned)

pub from_each : (view : ℕ → Option (List ℕ)) (q len : ℕ) (round : List ℕ) → IsRound view q len round → Reaches view q len
from_each view q len round is = subst (Reaches view q) is.long (round_reach view q q is.rest is.trail is.apart)

-- the page behind each of them is one of them
next_of : (view : ℕ → Option (List ℕ)) (q next : ℕ) (rest : List ℕ) → IsTrail view next rest q → has (q ∷ rest) next ≡ true
next_of view q next [] is = or_left (nat_eq next q) false (same_true next q (sym is))
next_of view q next (number ∷ rest) is = or_right (nat_eq next q) (has (number ∷ rest) next) (or_left (nat_eq next number) (has rest next) (same_true next number (sym is.0)))

pub next_in_round : (view : ℕ → Option (List ℕ)) (q len : ℕ) (round page : List ℕ) → IsRound view q len round → view q ≡ Some page → has round (link_of page) ≡ true
next_in_round view q len round page is found =
    let both : Some is.trail.1 ≡ Some page = sym is.trail.2 ∙ found in
    let one : is.trail.1 ≡ page = cc in
    sym (is.same (link_of page)) ∙ next_of view q (link_of page) is.rest (subst (λ p. IsTrail view (link_of p) is.rest q) one is.trail.3)

-- ---- where a page stands

pub data IsPlace (trail : List ℕ) (at place : ℕ) : Type 0 where
  found : (front behind : List ℕ) → trail ≡ front ++ at ∷ behind → length front ≡ place → IsPlace trail at place

pub split_place : (trail : List ℕ) (at place : ℕ) → place < length trail → slice_index trail place ≡ at → IsPlace trail at place
split_place [] at place within is = absurd (omega arith)
split_place (number ∷ trail) at zero within is = found [] trail (ap (λ n. n ∷ trail) is) refl
split_place (number ∷ trail) at (suc place) within is =
    elim (split_place trail at place (omega arith) is) [
      | found front behind parts long ↦ found (number ∷ front) behind (ap (λ l. number ∷ l) parts) (omega (arith, long))
    ]

pub not_past : (trail : List ℕ) (at : ℕ) → ((k : ℕ) → k < length trail → slice_index trail k ≡ at → ⊥) → has trail at ≡ false
not_past [] at none = refl
not_past (number ∷ trail) at none = past_case (nat_eq at number) refl (not_past trail at (λ k below is. none (suc k) (omega arith) is))
  where
    past_case : (b : Bool) → nat_eq at number ≡ b → has trail at ≡ false → (nat_eq at number || has trail at) ≡ false
    past_case true same rest = absurd (none 0 (omega arith) (sym (true_same at number same)))
    past_case false other rest = ap (λ b. b || has trail at) other ∙ rest

pub is_placed : (trail : List ℕ) (at place : ℕ) → place ≤ length trail → ((k : ℕ) → k < place → slice_index trail k ≡ at → ⊥) → has trail at ≡ true → place < length trail
is_placed trail at place within none there = placed_case (nat_eq place (length trail)) refl
  where
    placed_case : (b : Bool) → nat_eq place (length trail) ≡ b → place < length trail
    placed_case true same =
        let all : place ≡ length trail = true_same place (length trail) same in
        absurd (no_both (has trail at) there (not_past trail at (λ k below is. none k (omega (arith, all, below)) is)))
    placed_case false other =
        let apart : place ≡ length trail → ⊥ = λ (same : place ≡ length trail). no_both (nat_eq place (length trail)) (same_true place (length trail) same) other in
        omega (arith, within, apart)

-- ---- the pages that go round are noted

round_noted : (view : ℕ → Option (List ℕ)) (at len : ℕ) (front round : List ℕ) (marks more : ℕ → Option ℕ) → IsTrail view at round at → are_distinct (front ++ round) ≡ true
    → suc len ≡ length round → IsNoted view (front ++ round) marks → ((q : ℕ) → more q ≡ (if has round q then Some (suc len) else marks q)) → IsNoted view front more
round_noted view at len front round marks more is apart long noted put = record {
  right = λ number n there. right_case number n there (has round number) refl;
  half = λ number there. half_case number there (has round number) refl;
  there = λ number there. there_case number there;
  closed = λ number page there held. closed_case number page there held (has round number) refl;
}
  where
    put_in : (q : ℕ) → has round q ≡ true → more q ≡ Some (suc len)
    put_in q inside = put q ∙ ap (λ b. if b then Some (suc len) else marks q) inside

    put_out : (q : ℕ) → has round q ≡ false → more q ≡ marks q
    put_out q other = put q ∙ ap (λ b. if b then Some (suc len) else marks q) other

    each : (q : ℕ) → has round q ≡ true → IsRound view q (suc len) round
    each q inside = round_from view at q (suc len) round is (second_apart front round apart) long inside

    right_case : (number n : ℕ) → more number ≡ Some (suc n) → (b : Bool) → has round number ≡ b → Reaches view number (suc n)
    right_case number n there true inside =
        let one : Some (suc len) ≡ Some (suc n) = sym (put_in number inside) ∙ there in
        let same : suc len ≡ suc n = cc in
        subst (Reaches view number) same (from_each view number (suc len) round (each number inside))
    right_case number n there false other = noted.right number n (sym (put_out number other) ∙ there)

    half_case : (number : ℕ) → more number ≡ Some 0 → (b : Bool) → has round number ≡ b → has front number ≡ true
    half_case number there true inside = let clash : Some (suc len) ≡ Some 0 = sym (put_in number inside) ∙ there in absurd cc
    half_case number there false other = front_of (has front number) refl (sym (has_append front round number) ∙ noted.half number (sym (put_out number other) ∙ there))
      where
        front_of : (b : Bool) → has front number ≡ b → (has front number || has round number) ≡ true → has front number ≡ true
        front_of true inside either = inside
        front_of false none either = absurd (no_both (has round number) (or_one (has front number) (has round number) either none) other)

    there_case : (number : ℕ) → has front number ≡ true → more number ≡ Some 0
    there_case number there =
        put_out number (parts_apart front round number apart there)
        ∙ noted.there number (has_append front round number ∙ or_left (has front number) (has round number) there)

    settled_still : (q : ℕ) → is_settled (marks q) ≡ true → (b : Bool) → has round q ≡ b → is_settled (more q) ≡ true
    settled_still q settled true inside = ap is_settled (put_in q inside)
    settled_still q settled false other = ap is_settled (put_out q other) ∙ settled

    passed_still : (q : ℕ) → IsPassed view marks q → IsPassed view more q
    passed_still q passed = elim passed [
      | inl settled ↦ inl (settled_still q settled (has round q) refl)
      | inr gone ↦ inr gone
    ]

    closed_case : (number : ℕ) (page : List ℕ) → is_settled (more number) ≡ true → view number ≡ Some page → (b : Bool) → has round number ≡ b → IsPassed view more (link_of page)
    closed_case number page there held true inside =
        inl (ap is_settled (put_in (link_of page) (next_in_round view number (suc len) round page (each number inside) held)))
    closed_case number page there held false other =
        passed_still (link_of page) (noted.closed number page (ap is_settled (sym (put_out number other)) ∙ there) held)

-- they are taken off the trail
closed_at : (view : ℕ → Option (List ℕ)) (link at len : ℕ) (front behind : List ℕ) (marks more : ℕ → Option ℕ) → IsOut view link at (front ++ at ∷ behind) marks
    → suc len ≡ length (at ∷ behind) → ((q : ℕ) → more q ≡ (if has (at ∷ behind) q then Some (suc len) else marks q)) → IsBack view link at (suc len) front more
closed_at view link at len front behind marks more out long put =
    let parts = trail_parts view link at front (at ∷ behind) out.leads in
    let round = subst (λ n. IsTrail view n (at ∷ behind) at) (sym parts.other.0) parts.other in
    let apart = second_apart front (at ∷ behind) out.apart in
    let here = or_left (nat_eq at at) (has behind at) (same_true at at refl) in
    record {
      out = record {
        leads = subst (IsTrail view link front) (sym parts.other.0) parts.one;
        apart = first_apart front (at ∷ behind) out.apart;
        noted = round_noted view at len front (at ∷ behind) marks more round out.apart long out.noted put;
      };
      passed = inl (ap is_settled (put at ∙ ap (λ b. if b then Some (suc len) else marks at) here));
      reaches = from_each view at (suc len) (at ∷ behind) (round_from view at at (suc len) (at ∷ behind) round apart long here);
    }

drop_front : (front behind : List ℕ) → drop (length front) (front ++ behind) ≡ behind
drop_front [] behind = refl
drop_front (x ∷ front) behind = drop_front front behind

take_front : (front behind : List ℕ) → take (length front) (front ++ behind) ≡ front
take_front [] behind = refl
take_front (x ∷ front) behind = ap (λ l. x ∷ l) (take_front front behind)

pub closed : (view : ℕ → Option (List ℕ)) (link at first len : ℕ) (trail round new : List ℕ) (marks more : ℕ → Option ℕ) → IsOut view link at trail marks
    → first < length trail → slice_index trail first ≡ at → len ≡ length trail - first → round ≡ drop first trail → new ≡ take first trail
    → ((q : ℕ) → more q ≡ (if list_any (nat_eq q) round then Some len else marks q)) → IsBack view link at len new more
closed view link at first len trail round new marks more out within is long rounded kept put =
    elim (split_place trail at first within is) [
      | found front behind parts placed ↦
          let count : len ≡ suc (length behind) = long ∙ omega (arith, placed, ap length parts, length-append front (at ∷ behind)) in
          let turned : round ≡ at ∷ behind = rounded ∙ ap (drop first) parts ∙ ap (λ n. drop n (front ++ at ∷ behind)) (sym placed) ∙ drop_front front (at ∷ behind) in
          let left : new ≡ front = kept ∙ ap (take first) parts ∙ ap (λ n. take n (front ++ at ∷ behind)) (sym placed) ∙ take_front front (at ∷ behind) in
          subst (λ l. IsBack view link at len l more) (sym left)
          (subst (λ n. IsBack view link at n front more) (sym count)
          (closed_at view link at (length behind) front behind marks more (subst (λ t. IsOut view link at t marks) parts out) refl
          (λ q. put q ∙ ap (λ r. if has r q then Some len else marks q) turned ∙ ap (λ n. if has (at ∷ behind) q then Some n else marks q) count)))
    ]

-- one more of them is noted
pub noted_more : (round : List ℕ) (i len q : ℕ) (first old new : Option ℕ) → i < length round → new ≡ cond (nat_eq (get_or round i 0) q) (Some len) old
    → old ≡ (if has (take i round) q then Some len else first) → new ≡ (if has (take (i + 1) round) q then Some len else first)
noted_more round i len q first old new below put before =
    let all : has (take (i + 1) round) q ≡ (has (take i round) q || has (get_or round i 0 ∷ []) q)
    = ap (λ l. has l q) (take_more round i 0 below) ∙ has_append (take i round) (get_or round i 0 ∷ []) q in
    noted_case (nat_eq (get_or round i 0) q) refl ∙ ap (λ b. if b then Some len else first) (sym all)
  where
    noted_case : (b : Bool) → nat_eq (get_or round i 0) q ≡ b → new ≡ (if has (take i round) q || has (get_or round i 0 ∷ []) q then Some len else first)
    noted_case true same =
        put ∙ ap (λ b. cond b (Some len) old) same
        ∙ ap (λ b. if b then Some len else first) (sym (or_right (has (take i round) q) (has (get_or round i 0 ∷ []) q) (or_left (nat_eq q (get_or round i 0)) false (turned q (get_or round i 0) ∙ same))))
    noted_case false other =
        put ∙ ap (λ b. cond b (Some len) old) other ∙ before
        ∙ ap (λ b. if b then Some len else first) (or_same (has (take i round) q) (nat_eq q (get_or round i 0)) (turned q (get_or round i 0) ∙ other))
      where
        or_same : (a b : Bool) → b ≡ false → a ≡ (a || (b || false))
        or_same true b none = refl
        or_same false true none = sym none
        or_same false false none = refl
