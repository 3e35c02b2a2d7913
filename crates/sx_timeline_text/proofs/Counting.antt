-- Counting the slots of a class, one slot after the other.
use Rattle.std.proofs.Common.{◌≡◌, ℕ, ◌+◌, ◌≤◌, ◌<◌, Bool, true, false, cond, List, length, take, Some, refl, sym, ◌∙◌, ap, arith}
use Rattle.std.specs.Prelude.{slice_get}
use Rattle.std.proofs.lemmas.List.Sums.{count_by_more_yes, count_by_more_no}
use Rattle.std.proofs.lemmas.Option.{get_or_from_slice_get}
use Rattle.sx_base.specs.declared.moment.Class.{Class}
use Rattle.sx_moment.specs.Gathered.{no_slot}
use Rattle.sx_wal.specs.declared.slot.Slot.{Slot}
use Rattle.sx_timeline_text.specs.Timeline.{count_of, is_committed, is_pending, is_foreign, is_broken}
use Rattle.sx_timeline_text.specs.Rest.{tally_of}
use Rattle.sx_timeline_text.specs.declared.tally.Tally.{Tally}
use Rattle.std.proofs.Math.ListN.{get_or}

-- by whether the slot at a place has the class
counted_case : (is_class : Class → Bool) (slots : List Slot) (i : ℕ) (slot : Slot) (b : Bool) → i < length slots → get_or slots i no_slot ≡ slot → is_class slot.class ≡ b
    → count_of is_class (take i slots) + cond b 1 0 ≡ count_of is_class (take (i + 1) slots)
counted_case is_class slots i slot true below at holds =
    sym (count_by_more_yes (λ (s : Slot). is_class s.class) slots i no_slot below (ap (λ (s : Slot). is_class s.class) at ∙ holds))
counted_case is_class slots i slot false below at differs =
    let same : count_of is_class (take (i + 1) slots) ≡ count_of is_class (take i slots) =
    count_by_more_no (λ (s : Slot). is_class s.class) slots i no_slot below (ap (λ (s : Slot). is_class s.class) at ∙ differs) in
    omega (arith, same)

-- one slot more
pub counted : (is_class : Class → Bool) (slots : List Slot) (i : ℕ) (slot : Slot) → i < length slots → slice_get slots i ≡ Some slot
    → count_of is_class (take i slots) + cond (is_class slot.class) 1 0 ≡ count_of is_class (take (i + 1) slots)
counted is_class slots i slot below is = counted_case is_class slots i slot (is_class slot.class) below (get_or_from_slice_get slots i slot no_slot is) refl

-- the number that is added is that of the class
added : (is_class : Class → Bool) (slots : List Slot) (i : ℕ) (slot : Slot) (n one : ℕ) (b : Bool) → i < length slots → slice_get slots i ≡ Some slot
    → n ≡ count_of is_class (take i slots) → b ≡ is_class slot.class → one ≡ cond b 1 0 → n + one ≡ count_of is_class (take (i + 1) slots)
added is_class slots i slot n one b below is so_far tested one_is =
    ap (λ (x : ℕ). x + one) so_far
    ∙ ap (λ (x : ℕ). count_of is_class (take i slots) + x) (one_is ∙ ap (λ (t : Bool). cond t 1 0) tested)
    ∙ counted is_class slots i slot below is

abbrev tally : ℕ → ℕ → ℕ → ℕ → Tally
tally committed pending foreign broken = record { committed = committed; pending = pending; foreign = foreign; broken = broken }

-- tallies of equal counts
same_tally : (a b c d a' b' c' d' : ℕ) → a ≡ a' → b ≡ b' → c ≡ c' → d ≡ d' → tally a b c d ≡ tally a' b' c' d'
same_tally a b c d a' b' c' d' p q r s =
    ap (λ (x : ℕ). tally x b c d) p ∙ ap (λ (x : ℕ). tally a' x c d) q ∙ ap (λ (x : ℕ). tally a' b' x d) r ∙ ap (λ (x : ℕ). tally a' b' c' x) s

-- one slot more is counted
pub tallied : (slots : List Slot) (i : ℕ) (slot : Slot) (old : Tally) (a b c d : ℕ) (at bt ct dt : Bool) → i < length slots → slice_get slots i ≡ Some slot → old ≡ tally_of (take i slots)
    → at ≡ is_committed slot.class → a ≡ cond at 1 0
    → bt ≡ is_pending slot.class → b ≡ cond bt 1 0
    → ct ≡ is_foreign slot.class → c ≡ cond ct 1 0
    → dt ≡ is_broken slot.class → d ≡ cond dt 1 0
    → tally (old.committed + a) (old.pending + b) (old.foreign + c) (old.broken + d) ≡ tally_of (take (i + 1) slots)
tallied slots i slot old a b c d at bt ct dt below is so_far ap-t ap-n bp-t bp-n cp-t cp-n dp-t dp-n =
    same_tally _ _ _ _ _ _ _ _
    (added is_committed slots i slot old.committed a at below is (ap (λ (t : Tally). t.committed) so_far) ap-t ap-n)
    (added is_pending slots i slot old.pending b bt below is (ap (λ (t : Tally). t.pending) so_far) bp-t bp-n)
    (added is_foreign slots i slot old.foreign c ct below is (ap (λ (t : Tally). t.foreign) so_far) cp-t cp-n)
    (added is_broken slots i slot old.broken d dt below is (ap (λ (t : Tally). t.broken) so_far) dp-t dp-n)

-- at most one is added
pub at_most_one : (n i one : ℕ) (b : Bool) → n ≤ i → one ≡ cond b 1 0 → n + one ≤ i + 1
at_most_one n i one true few one_is = omega arith
at_most_one n i one false few one_is = omega arith
