-- Segments that follow one another, one of which changes.
use Rattle.std.proofs.Common.{◌≡◌, ◌≢◌, ℕ, zero, suc, ◌+◌, ◌<◌, ◌≤◌, ◌⊎◌, inl, inr, Bool, true, false, nat_lt, nat_eq, List, [], ◌∷◌, length, refl, sym, ap, subst, ◌∙◌, arith}
use Rattle.std.proofs.lemmas.Bool.Decides.{nat_tests}
use Rattle.sx_seglist.specs.declared.segment.Segment.{Segment}
use Rattle.sx_seglist.specs.Links.{segment_at, start_of, next_of, len_of, way, way_of, Follow, IsOn, claimed_from}

-- ---- on the way

pub on_first : (index : ℕ) (others : List ℕ) → IsOn index index others
on_first index [] = refl
on_first index (next ∷ others) = inl refl

pub starts_rise : (items : List Segment) (index : ℕ) (others : List ℕ) (asked : ℕ) → Follow items index others → IsOn asked index others
    → start_of items index ≤ start_of items asked
starts_rise items index [] asked follow on = rw on (omega arith)
starts_rise items index (next ∷ others) asked follow on =
    elim on [
      | inl is ↦ rw is (omega arith)
      | inr later ↦ let more = starts_rise items next others asked follow.4 later in omega (arith, follow.3, more)
    ]

pub within_end : (items : List Segment) (index : ℕ) (others : List ℕ) (asked : ℕ) → Follow items index others → IsOn asked index others
    → start_of items asked ≤ start_of items 1
within_end items index [] asked follow on = rw (on, follow) (omega arith)
within_end items index (next ∷ others) asked follow on =
    elim on [
      | inl is ↦ let more = within_end items next others next follow.4 (on_first next others) in rw is (omega (arith, follow.3, more))
      | inr later ↦ within_end items next others asked follow.4 later
    ]

pub on_length : (items : List Segment) (index : ℕ) (others : List ℕ) (asked : ℕ) → 1 < length items → Follow items index others → IsOn asked index others → asked < length items
on_length items index [] asked marked follow on = rw (on, follow) marked
on_length items index (next ∷ others) asked marked follow on =
    elim on [ inl is ↦ rw is follow.0 | inr later ↦ on_length items next others asked marked follow.4 later ]

-- the next one of one that isn't the end mark
pub record IsNext (items : List Segment) (index : ℕ) (others : List ℕ) (asked : ℕ) : Type 0 where
  pub on : IsOn (next_of items asked) index others
  pub rises : start_of items asked < start_of items (next_of items asked)

pub next_on : (items : List Segment) (index : ℕ) (others : List ℕ) (asked : ℕ) → Follow items index others → IsOn asked index others → asked ≢ 1
    → IsNext items index others asked
next_on items index [] asked follow on more = absurd (more (on ∙ follow))
next_on items index (next ∷ others) asked follow on more =
    elim on [
      | inl is ↦ rw is (record { on = inr (subst (λ k. IsOn k next others) (sym follow.2) (on_first next others)); rises = subst (λ k. start_of items index < start_of items k) (sym follow.2) follow.3 })
      | inr later ↦ let rest = next_on items next others asked follow.4 later more in record { on = inr rest.on; rises = rest.rises }
    ]

-- no other begins between it and the next one
pub between : (items : List Segment) (index : ℕ) (others : List ℕ) (asked other : ℕ) → Follow items index others → IsOn asked index others → asked ≢ 1 → IsOn other index others
    → (start_of items other ≤ start_of items asked) ⊎ (start_of items (next_of items asked) ≤ start_of items other)
between items index [] asked other follow on more there = absurd (more (on ∙ follow))
between items index (next ∷ others) asked other follow on more there =
    elim on [
      | inl is ↦ elim there [
        | inl same ↦ inl (rw (is, same) (omega arith))
        | inr behind ↦ inr (rw (is, follow.2) (starts_rise items next others other follow.4 behind))
      ]
      | inr later ↦ elim there [
        | inl same ↦ inl (let rise = starts_rise items next others asked follow.4 later in rw same (omega (arith, follow.3, rise)))
        | inr behind ↦ between items next others asked other follow.4 later more behind
      ]
    ]

pub claimed_here : (items : List Segment) (index next : ℕ) (others : List ℕ) (at : ℕ) → at < start_of items next → claimed_from items index (next ∷ others) at ≡ (segment_at items index).claimed
unfolding claimed_from
claimed_here items index next others at before = let is : nat_lt at (start_of items next) ≡ true = grind (arith, nat_tests) in rw is refl

pub claimed_later : (items : List Segment) (index next : ℕ) (others : List ℕ) (at : ℕ) → start_of items next ≤ at → claimed_from items index (next ∷ others) at ≡ claimed_from items next others at
unfolding claimed_from
claimed_later items index next others at past = let is : nat_lt at (start_of items next) ≡ false = grind (arith, nat_tests) in rw is refl

-- what is claimed of a byte of a segment
pub claimed_of : (items : List Segment) (index : ℕ) (others : List ℕ) (asked at : ℕ) → Follow items index others → IsOn asked index others → asked ≢ 1
    → start_of items asked ≤ at → at < start_of items (next_of items asked) → claimed_from items index others at ≡ (segment_at items asked).claimed
claimed_of items index [] asked at follow on more begins ends = absurd (more (on ∙ follow))
claimed_of items index (next ∷ others) asked at follow on more begins ends =
    elim on [
      | inl is ↦ claimed_here items index next others at (rw (is, follow.2) at ends) ∙ ap (λ k. (segment_at items k).claimed) (sym is)
      | inr later ↦
          let rise = starts_rise items next others asked follow.4 later in
          claimed_later items index next others at (omega (arith, rise, begins)) ∙ claimed_of items next others asked at follow.4 later more begins ends
    ]

-- ---- the way is found by its links

pub way_short : (items : List Segment) (index : ℕ) (others : List ℕ) → Follow items index others → start_of items index + length others ≤ start_of items 1
way_short items index [] follow = rw follow (omega arith)
way_short items index (next ∷ others) follow = let rest = way_short items next others follow.4 in omega (arith, follow.3, rest)

pub way_is : (most : ℕ) (items : List Segment) (index : ℕ) (others : List ℕ) → Follow items index others → length others ≤ most → way most items index ≡ others
unfolding way
way_is zero items index [] follow short = refl
way_is zero items index (next ∷ others) follow short = absurd (omega arith)
way_is (suc most) items index [] follow short = let is : nat_eq index 1 ≡ true = grind (arith, nat_tests) in rw is refl
way_is (suc most) items index (next ∷ others) follow short =
    let is : nat_eq index 1 ≡ false = grind (arith, nat_tests, follow.1) in
    rw (is, follow.2) (ap (λ rest. next ∷ rest) (way_is most items next others follow.4 (omega arith)))

pub way_of_is : (items : List Segment) (others : List ℕ) → Follow items 0 others → way_of items ≡ others
unfolding way_of
way_of_is items others follow = way_is (len_of items) items 0 others follow (let short = way_short items 0 others follow in omega (arith, short))

-- ---- one of them changes

-- every other segment is the same, and this one begins where it began
pub record Agrees (old new : List Segment) (changed : ℕ) : Type 0 where
  pub more : length old ≤ length new
  pub same : (index : ℕ) → index < length old → index ≢ changed → segment_at new index ≡ segment_at old index
  pub start : start_of new changed ≡ start_of old changed

pub start_kept : (old new : List Segment) (changed index : ℕ) → Agrees old new changed → index < length old → start_of new index ≡ start_of old index
start_kept old new changed index agrees there = start_by old new changed index (nat_eq index changed) refl agrees there
  where
    start_by : (old new : List Segment) (changed index : ℕ) (here : Bool) → nat_eq index changed ≡ here → Agrees old new changed → index < length old → start_of new index ≡ start_of old index
    start_by old new changed index true is agrees there = let same : index ≡ changed = grind (arith, nat_tests) in rw same agrees.start
    start_by old new changed index false is agrees there = let other : index ≢ changed = grind (arith, nat_tests) in ap (λ segment. segment.start) (agrees.same index there other)

other_start : (items : List Segment) (a b : ℕ) → start_of items a < start_of items b → b ≢ a
other_start items a b less is = let same = ap (start_of items) is in omega (arith, same, less)

-- the segments behind it follow one another still, and the same is claimed of their bytes
pub follow_kept : (old new : List Segment) (changed index : ℕ) (others : List ℕ) → Agrees old new changed → 1 < length old → start_of old changed < start_of old index
    → Follow old index others → Follow new index others
follow_kept old new changed index [] agrees marked behind follow = follow
follow_kept old new changed index (next ∷ others) agrees marked behind follow =
    let is = agrees.same index follow.0 (other_start old changed index behind) in
    let there = on_length old next others next marked follow.4 (on_first next others) in
    let start = start_kept old new changed index agrees follow.0 in
    let start_next = start_kept old new changed next agrees there in
    let more = agrees.more in
    let first = follow.0 in
    let rises = follow.3 in
    (omega arith, follow.1, ap (λ segment. segment.next) is ∙ follow.2, rw (start, start_next) follow.3, follow_kept old new changed next others agrees marked (omega arith) follow.4)

pub claimed_kept : (old new : List Segment) (changed index : ℕ) (others : List ℕ) (at : ℕ) → Agrees old new changed → 1 < length old → start_of old changed < start_of old index
    → Follow old index others → claimed_from new index others at ≡ claimed_from old index others at
unfolding claimed_from
claimed_kept old new changed index [] at agrees marked behind follow = refl
claimed_kept old new changed index (next ∷ others) at agrees marked behind follow =
    let is = agrees.same index follow.0 (other_start old changed index behind) in
    let there = on_length old next others next marked follow.4 (on_first next others) in
    let start_next = start_kept old new changed next agrees there in
    let rises = follow.3 in
    rw (start_next, is, claimed_kept old new changed next others at agrees marked (omega arith) follow.4) refl

-- the place of an index on the way: what follows it, and the way with others behind it
pub record IsPlace (old : List Segment) (asked index : ℕ) (others : List ℕ) : Type 0 where
  pub tail : List ℕ
  pub ahead : List ℕ → List ℕ
  pub follows : Follow old asked tail
  pub same : ahead tail ≡ others
  pub on_tail : (other : ℕ) → IsOn other asked tail → IsOn other index others
  pub on_old : (other : ℕ) (rest : List ℕ) → IsOn other index others → IsOn other index (ahead rest) ⊎ IsOn other asked tail
  pub on_new : (other : ℕ) (rest : List ℕ) → IsOn other index (ahead rest) → IsOn other index others ⊎ IsOn other asked rest
  pub on_rest : (other : ℕ) (rest : List ℕ) → IsOn other asked rest → IsOn other index (ahead rest)
  pub leads : (new : List Segment) (rest : List ℕ) → Agrees old new asked → Follow new asked rest → Follow new index (ahead rest)
  pub before : (new : List Segment) (rest : List ℕ) (at : ℕ) → Agrees old new asked → start_of old index ≤ at → at < start_of old asked
      → claimed_from new index (ahead rest) at ≡ claimed_from old index others at
  pub behind : (new : List Segment) (rest : List ℕ) (at : ℕ) → Agrees old new asked → start_of old asked ≤ at
      → claimed_from new index (ahead rest) at ≡ claimed_from new asked rest at
  pub old_behind : (at : ℕ) → start_of old asked ≤ at → claimed_from old index others at ≡ claimed_from old asked tail at

before_by : (old new : List Segment) (asked index next : ℕ) (others rest : List ℕ) (at : ℕ) (here : Bool) → nat_lt at (start_of old next) ≡ here
    → segment_at new index ≡ segment_at old index → start_of new next ≡ start_of old next
    → (start_of old next ≤ at → claimed_from new next rest at ≡ claimed_from old next others at)
    → claimed_from new index (next ∷ rest) at ≡ claimed_from old index (next ∷ others) at
before_by old new asked index next others rest at true is same start further =
    let below : at < start_of old next = grind (arith, nat_tests) in
    claimed_here new index next rest at (rw start below) ∙ ap (λ segment. segment.claimed) same ∙ sym (claimed_here old index next others at below)
before_by old new asked index next others rest at false is same start further =
    let past : start_of old next ≤ at = grind (arith, nat_tests) in
    claimed_later new index next rest at (rw start past) ∙ further past ∙ sym (claimed_later old index next others at past)

place_here : (old : List Segment) (index : ℕ) (others : List ℕ) → Follow old index others → IsPlace old index index others
place_here old index others follow = record {
  tail = others;
  ahead = λ rest. rest;
  follows = follow;
  same = refl;
  on_tail = λ other on. on;
  on_old = λ other rest on. inr on;
  on_new = λ other rest on. inr on;
  on_rest = λ other rest on. on;
  leads = λ new rest agrees leads. leads;
  before = λ new rest at agrees low high. absurd (omega arith);
  behind = λ new rest at agrees low. refl;
  old_behind = λ at low. refl;
}

place_later : (old : List Segment) (asked index next : ℕ) (others : List ℕ) → 1 < length old → Follow old index (next ∷ others) → start_of old next ≤ start_of old asked
    → IsPlace old asked next others → IsPlace old asked index (next ∷ others)
place_later old asked index next others marked follow rise place =
    let apart : index ≢ asked = (λ is. let same = ap (start_of old) is in let rises = follow.3 in omega arith) in
    record {
      tail = place.tail;
      ahead = λ rest. next ∷ place.ahead rest;
      follows = place.follows;
      same = ap (λ rest. next ∷ rest) place.same;
      on_tail = λ other on. inr (place.on_tail other on);
      on_old = λ other rest on. elim on [
        | inl same ↦ inl (inl same)
        | inr later ↦ elim (place.on_old other rest later) [ inl before ↦ inl (inr before) | inr behind ↦ inr behind ]
      ];
      on_new = λ other rest on. elim on [
        | inl same ↦ inl (inl same)
        | inr later ↦ elim (place.on_new other rest later) [ inl before ↦ inl (inr before) | inr behind ↦ inr behind ]
      ];
      on_rest = λ other rest on. inr (place.on_rest other rest on);
      leads = λ new rest agrees leads.
          let there = on_length old next others next marked follow.4 (on_first next others) in
          let start = start_kept old new asked index agrees follow.0 in
          let start_next = start_kept old new asked next agrees there in
          let long = agrees.more in
          let first = follow.0 in
          (omega arith, follow.1, ap (λ (segment : Segment). segment.next) (agrees.same index follow.0 apart) ∙ follow.2, rw (start, start_next) follow.3, place.leads new rest agrees leads);
      before = λ new rest at agrees low high.
          let there = on_length old next others next marked follow.4 (on_first next others) in
          before_by old new asked index next others (place.ahead rest) at (nat_lt at (start_of old next)) refl (agrees.same index follow.0 apart) (start_kept old new asked next agrees there)
          (λ past. place.before new rest at agrees past high);
      behind = λ new rest at agrees low.
          let there = on_length old next others next marked follow.4 (on_first next others) in
          let start_next = start_kept old new asked next agrees there in
          claimed_later new index next (place.ahead rest) at (rw start_next (omega arith)) ∙ place.behind new rest at agrees low;
      old_behind = λ at low. claimed_later old index next others at (omega arith) ∙ place.old_behind at low;
    }

pub place_of : (old : List Segment) (asked index : ℕ) (others : List ℕ) → 1 < length old → Follow old index others → IsOn asked index others → IsPlace old asked index others
place_of old asked index [] marked follow on = rw on (place_here old index [] follow)
place_of old asked index (next ∷ others) marked follow on =
    elim on [
      | inl is ↦ rw is (place_here old index (next ∷ others) follow)
      | inr later ↦ place_later old asked index next others marked follow (starts_rise old next others asked follow.4 later) (place_of old asked next others marked follow.4 later)
    ]
