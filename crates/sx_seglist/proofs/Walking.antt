-- The runs of segments that follow one another.
use Rattle.std.proofs.Common.{◌≡◌, ◌≢◌, ℕ, ◌+◌, ◌-◌, ◌<◌, inl, inr, List, [], ◌∷◌, length, All, refl, sym, ap, subst, ◌∙◌, arith}
use Rattle.std.proofs.lemmas.List.Elements.{All-nil, All-cons}
use Rattle.sx_seglist.specs.declared.segment.Segment.{Segment}
use Rattle.sx_seglist.specs.Runs.{state_at, Cover, IsMaximal, AreRuns}
use Rattle.sx_seglist.specs.Links.{segment_at, start_of, next_of, len_of, way, way_of, Follow, IsOn, IsLive, IsList, IsLinked, IsSegList, states_of, runs_along, runs_from}
use Rattle.sx_seglist.proofs.Ways.{on_first, on_length, way_short, way_is}
use Rattle.sx_seglist.proofs.Steps.{live_next, live_claimed, live_within}
use Rattle.sx_seglist.proofs.Counting.{states_length, states_read}

-- the run of one segment is maximal
maximal_here : (items : List Segment) (from index next : ℕ) → IsSegList items from → IsLive items index → index ≢ 1 → next_of items index ≡ next
    → IsMaximal (states_of items) (record { start = start_of items index; len = start_of items next - start_of items index }, (segment_at items index).claimed)
maximal_here items from index next list live more is =
    let long = states_length items in
    let after = live_next items index list.list live more in
    let start_next : start_of items (next_of items index) ≡ start_of items next = ap (start_of items) is in
    let rises = after.rises in
    let inside = live_within items (next_of items index) list.list after.on in
    record {
      some = omega arith;
      within = omega arith;
      each = λ at low high. states_read items at (omega arith) ∙ live_claimed items index at list.list live more low (omega arith);
      before = λ positive same.
          list.apart index live more positive
          (sym (states_read items (start_of items index - 1) (omega arith)) ∙ same ∙ sym (live_claimed items index (start_of items index) list.list live more (omega arith) rises));
      behind = λ below same.
          let end : start_of items index + (start_of items next - start_of items index) ≡ start_of items (next_of items index) = omega arith in
          let not_end : next_of items index ≢ 1 = λ last. let at_end = ap (start_of items) last in omega arith in
          list.apart (next_of items index) after.on not_end (omega arith)
          (live_claimed items index (start_of items (next_of items index) - 1) list.list live more (omega arith) (omega arith)
          ∙ sym same ∙ ap (state_at (states_of items)) end ∙ states_read items (start_of items (next_of items index)) (omega arith));
    }

maximal_along : (items : List Segment) (from index : ℕ) (others : List ℕ) → IsSegList items from → Follow items index others → ((other : ℕ) → IsOn other index others → IsLive items other)
    → All (IsMaximal (states_of items)) (runs_along items index others)
unfolding runs_along
maximal_along items from index [] list follow live = All-nil (IsMaximal (states_of items))
maximal_along items from index (next ∷ others) list follow live =
    All-cons (IsMaximal (states_of items)) (record { start = start_of items index; len = start_of items next - start_of items index }, (segment_at items index).claimed) (runs_along items next others)
    (maximal_here items from index next list (live index (inl refl)) follow.1 follow.2) (maximal_along items from next others list follow.4 (λ other on. live other (inr on)))

runs_follow : (items : List Segment) (index : ℕ) (others : List ℕ) → Follow items index others → Cover (start_of items index) (len_of items) (runs_along items index others)
unfolding runs_along
runs_follow items index [] follow = ap (start_of items) follow
runs_follow items index (next ∷ others) follow =
    let rises = follow.3 in
    let end : start_of items next ≡ start_of items index + (start_of items next - start_of items index) = omega arith in
    (refl, subst (λ from. Cover from (len_of items) (runs_along items next others)) end (runs_follow items next others follow.4))

pub runs_are : (items : List Segment) (from : ℕ) → IsSegList items from → AreRuns (states_of items) (runs_from items 0)
unfolding runs_from way_of
runs_are items from list =
    let follow = list.list.follow in
    record {
      maximal = maximal_along items from 0 (way_of items) list follow (λ other on. on);
      all = rw states_length (subst (λ start. Cover start (len_of items) (runs_along items 0 (way_of items))) list.list.first (runs_follow items 0 (way_of items) follow));
    }

pub linked_first : (items : List Segment) → IsList items → IsLinked items 0
unfolding way_of
linked_first items list = record { marked = list.marked; follow = list.follow }

-- ---- the first of the runs from an index on

pub record IsAhead (items : List Segment) (index : ℕ) : Type 0 where
  pub index_there : index < length items
  pub next_there : next_of items index < length items
  pub rises : start_of items index < start_of items (next_of items index)
  pub linked : IsLinked items (next_of items index)
  pub runs : runs_from items index
      ≡ (record { start = start_of items index; len = start_of items (next_of items index) - start_of items index }, (segment_at items index).claimed) ∷ runs_from items (next_of items index)

pub none_ahead : (items : List Segment) (index : ℕ) → index ≡ 1 → runs_from items index ≡ []
unfolding runs_from runs_along
none_ahead items index is = ap (runs_along items index) (way_is (len_of items) items index [] is (omega arith))

ahead_by : (items : List Segment) (index : ℕ) (others : List ℕ) → way (len_of items) items index ≡ others → index ≢ 1 → 1 < length items → Follow items index others → IsAhead items index
unfolding runs_from runs_along
ahead_by items index [] is more marked follow = absurd (more follow)
ahead_by items index (next ∷ others) is more marked follow =
    let short = way_short items next others follow.4 in
    let rest : way (len_of items) items next ≡ others = way_is (len_of items) items next others follow.4 (omega arith) in
    let there = on_length items next others next marked follow.4 (on_first next others) in
    let further : IsLinked items next = record { marked = marked; follow = subst (Follow items next) (sym rest) follow.4 } in
    record {
      index_there = follow.0;
      next_there = subst (λ k. k < length items) (sym follow.2) there;
      rises = subst (λ k. start_of items index < start_of items k) (sym follow.2) follow.3;
      linked = subst (IsLinked items) (sym follow.2) further;
      runs = ap (runs_along items index) is
          ∙ ap (λ tail. (record { start = start_of items index; len = start_of items next - start_of items index }, (segment_at items index).claimed) ∷ tail) (ap (runs_along items next) (sym rest))
          ∙ ap (λ k. (record { start = start_of items index; len = start_of items k - start_of items index }, (segment_at items index).claimed) ∷ runs_from items k) (sym follow.2);
    }

pub ahead : (items : List Segment) (index : ℕ) → index ≢ 1 → IsLinked items index → IsAhead items index
ahead items index more linked = ahead_by items index (way (len_of items) items index) refl more linked.marked linked.follow

pub index_length : (items : List Segment) (index : ℕ) → index ≢ 1 → IsLinked items index → index < length items
index_length items index more linked = (ahead items index more linked).index_there

pub next_index_length : (items : List Segment) (index : ℕ) → index ≢ 1 → IsLinked items index → next_of items index < length items
next_index_length items index more linked = (ahead items index more linked).next_there
