-- Whether the front of an image is unowned, by the first of its unowned spans.
use Rattle.std.proofs.Common.{◌≡◌, ℕ, zero, suc, ◌+◌, ◌<◌, ◌≤◌, ◌==◌, Bool, true, false, not, ◌&&◌, nat_le, nat_lt, List, [], ◌∷◌, refl, sym, ap, subst, ◌∙◌, arith}
use Rattle.std.specs.List.{list_all, list_any, range_with_len}
use Rattle.std.proofs.lemmas.Bool.Decides.{nat_tests}
use Rattle.sx_base.specs.declared.evidence.Span.{Span}
use Rattle.sx_owned.specs.Spans.{in_span, in_spans, IsMaximal, Rise, AreMaximal}
use Rattle.sx_spill.specs.Unused.{is_unowned}
use Rattle.sx_spill.proofs.BoolLemmas.{and_left, and_right, and_both, is_false, no_both, or_one, or_none}

all_range : (test : ℕ → Bool) (a n : ℕ) → ((at : ℕ) → a ≤ at → at < a + n → test at ≡ true) → list_all test (range_with_len a n) ≡ true
all_range test a zero each = refl
all_range test a (suc n) each =
    and_both (test a) (list_all test (range_with_len (a + 1) n)) (each a (omega arith) (omega arith))
    (all_range test (a + 1) n (λ at low high. each at (omega arith) (omega arith)))

range_all : (test : ℕ → Bool) (a n at : ℕ) → list_all test (range_with_len a n) ≡ true → a ≤ at → at < a + n → test at ≡ true
range_all test a zero at is low high = absurd (omega arith)
range_all test a (suc n) at is low high =
    range_case (nat_le at a) refl (λ past. range_all test (a + 1) n at (and_right (test a) (list_all test (range_with_len (a + 1) n)) is) past (omega arith))
  where
    range_case : (b : Bool) → nat_le at a ≡ b → (a + 1 ≤ at → test at ≡ true) → test at ≡ true
    range_case true below rest =
        let here : a ≡ at = grind (arith, nat_tests) in
        ap test (sym here) ∙ and_left (test a) (list_all test (range_with_len (a + 1) n)) is
    range_case false above rest =
        let past : a + 1 ≤ at = grind (arith, nat_tests) in
        rest past

-- no span that begins behind 0 holds it
past_front : (spans : List Span) (least : ℕ) → 0 < least → Rise least spans → in_spans spans 0 ≡ false
unfolding in_spans
past_front [] least some order = refl
past_front (span ∷ spans) least some order =
    let behind : 0 < span.start = omega (arith, order.0) in
    let out : nat_le span.start 0 ≡ false = grind (arith, nat_tests) in
    or_none (in_span 0 span) (list_any (in_span 0) spans)
    (ap (λ b. b && nat_lt 0 (span.start + span.len)) out) (past_front spans (span.start + span.len) (omega arith) order.1)

first_at_front : (span : Span) (rest : List Span) → 0 < span.len → Rise 0 (span ∷ rest) → in_spans (span ∷ rest) 0 ≡ true → span.start ≡ 0
unfolding in_spans
first_at_front span rest some order there = front_case (in_span 0 span) refl
  where
    front_case : (b : Bool) → in_span 0 span ≡ b → span.start ≡ 0
    front_case true here =
        let low : nat_le span.start 0 ≡ true = and_left (nat_le span.start 0) (nat_lt 0 (span.start + span.len)) here in
        grind (arith, nat_tests)
    front_case false other =
        absurd (no_both (in_spans rest 0) (or_one (in_span 0 span) (list_any (in_span 0) rest) there other) (past_front rest (span.start + span.len) (omega arith) order.1))

pub front_unowned : (owned : ℕ → ℕ → Bool) (usable size image : ℕ) (span : Span) (spans rest : List Span) → spans ≡ span ∷ rest
    → AreMaximal size (λ at. not (owned image at)) spans → 0 < usable → usable ≤ size → (span.start == 0 && nat_le usable span.len) ≡ is_unowned owned usable image
unfolding is_unowned
front_unowned owned usable size image span spans rest first are some within = unowned_case (span.start == 0 && nat_le usable span.len) refl
  where
    all : AreMaximal size (λ at. not (owned image at)) (span ∷ rest)
    all = subst (AreMaximal size (λ at. not (owned image at))) first are

    first_is : IsMaximal size (λ at. not (owned image at)) span
    first_is = all.maximal 0 span (omega arith)

    unowned_case : (b : Bool) → (span.start == 0 && nat_le usable span.len) ≡ b → (span.start == 0 && nat_le usable span.len) ≡ list_all (λ at. not (owned image at)) (range_with_len 0 usable)
    unowned_case true is =
        let one : (span.start == 0) ≡ true = and_left (span.start == 0) (nat_le usable span.len) is in
        let other : nat_le usable span.len ≡ true = and_right (span.start == 0) (nat_le usable span.len) is in
        let start : span.start ≡ 0 = grind (arith, nat_tests) in
        let long : usable ≤ span.len = grind (arith, nat_tests) in
        is ∙ sym (all_range (λ at. not (owned image at)) 0 usable (λ at low high. first_is.each at (omega arith) (omega arith)))
    unowned_case false is =
        is ∙ sym (is_false (list_all (λ at. not (owned image at)) (range_with_len 0 usable))
        (λ (yes : list_all (λ at. not (owned image at)) (range_with_len 0 usable) ≡ true).
        let each = λ (at : ℕ) (below : at < usable). range_all (λ at. not (owned image at)) 0 usable at yes (omega arith) (omega (arith, below)) in
        let start = first_at_front span rest first_is.some all.order (all.all 0 (omega arith) ∙ each 0 some) in
        unowned_end start each (nat_le usable span.len) refl))
      where
        unowned_end : span.start ≡ 0 → ((at : ℕ) → at < usable → not (owned image at) ≡ true) → (b : Bool) → nat_le usable span.len ≡ b → ⊥
        unowned_end start each true long =
            let zero_is : (span.start == 0) ≡ true = grind (arith, nat_tests) in
            no_both (span.start == 0 && nat_le usable span.len) (and_both (span.start == 0) (nat_le usable span.len) zero_is long) is
        unowned_end start each false short =
            let below : span.len < usable = grind (arith, nat_tests) in
            let end : span.start + span.len ≡ span.len = omega arith in
            let stop : not (owned image (span.start + span.len)) ≡ false = first_is.behind (omega arith) in
            no_both (not (owned image span.len)) (each span.len below) (ap (λ at. not (owned image at)) (sym end) ∙ stop)

pub all_owned : (owned : ℕ → ℕ → Bool) (usable size image : ℕ) (spans : List Span) → spans ≡ [] → AreMaximal size (λ at. not (owned image at)) spans
    → 0 < usable → usable ≤ size → false ≡ is_unowned owned usable image
unfolding is_unowned in_spans
all_owned owned usable size image spans none are some within =
    let empty = subst (AreMaximal size (λ at. not (owned image at))) none are in
    sym (is_false (list_all (λ at. not (owned image at)) (range_with_len 0 usable))
    (λ (yes : list_all (λ at. not (owned image at)) (range_with_len 0 usable) ≡ true).
    no_both (not (owned image 0)) (range_all (λ at. not (owned image at)) 0 usable 0 yes (omega arith) (omega arith)) (sym (empty.all 0 (omega arith)))))
