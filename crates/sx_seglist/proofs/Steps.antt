-- A list of segments, one of which is cut, raised or joined with the next.
use Rattle.std.proofs.Common.{◌≡◌, ◌≢◌, ℕ, ◌+◌, ◌<◌, ◌≤◌, ◌⊎◌, inl, inr, Bool, true, false, ◌&&◌, nat_lt, nat_le, nat_eq, if◌then◌else◌, List, [], ◌∷◌, length, refl, sym, ap, subst, ◌∙◌, arith}
use Rattle.std.proofs.lemmas.Bool.Decides.{nat_tests}
use Rattle.sx_base.specs.declared.label.Label.{Label}
use Rattle.sx_seglist.specs.declared.claimed.Claimed.{Claimed}
use Rattle.sx_seglist.specs.declared.segment.Segment.{Segment}
use Rattle.sx_seglist.specs.Claims.{once_more}
use Rattle.sx_seglist.specs.Links.{segment_at, start_of, next_of, len_of, way_of, Follow, IsOn, IsLive, IsList, IsCut, IsRaised, claimed_from, claimed_at}
use Rattle.sx_seglist.proofs.Ways.{Agrees, IsNext, IsPlace, on_first, starts_rise, within_end, on_length, next_on, between, claimed_of, claimed_here, claimed_later, way_of_is, start_kept, follow_kept, claimed_kept, place_of}

-- ---- one list

pub live_next : (items : List Segment) (index : ℕ) → IsList items → IsLive items index → index ≢ 1 → IsNext items 0 (way_of items) index
live_next items index list live more = next_on items 0 (way_of items) index list.follow live more

pub live_within : (items : List Segment) (index : ℕ) → IsList items → IsLive items index → start_of items index ≤ len_of items
live_within items index list live = within_end items 0 (way_of items) index list.follow live

pub live_length : (items : List Segment) (index : ℕ) → IsList items → IsLive items index → index < length items
live_length items index list live = on_length items 0 (way_of items) index list.marked list.follow live

pub live_between : (items : List Segment) (index other : ℕ) → IsList items → IsLive items index → index ≢ 1 → IsLive items other
    → (start_of items other ≤ start_of items index) ⊎ (start_of items (next_of items index) ≤ start_of items other)
live_between items index other list live more there = between items 0 (way_of items) index other list.follow live more there

pub live_claimed : (items : List Segment) (index at : ℕ) → IsList items → IsLive items index → index ≢ 1 → start_of items index ≤ at → at < start_of items (next_of items index)
    → claimed_at items at ≡ (segment_at items index).claimed
unfolding claimed_at
live_claimed items index at list live more begins ends = claimed_of items 0 (way_of items) index at list.follow live more begins ends

pub next_length : (items : List Segment) (index : ℕ) → IsList items → IsLive items index → index ≢ 1 → next_of items index < length items
next_length items index list live more = live_length items (next_of items index) list (live_next items index list live more).on

pub first_live : (items : List Segment) → IsLive items 0
first_live items = on_first 0 (way_of items)

-- ---- one segment changes

pub record IsChanged (old new : List Segment) (changed : ℕ) (tail rest : List ℕ) : Type 0 where
  pub list : IsList new
  pub len : len_of new ≡ len_of old
  pub live : IsLive new changed
  pub on_old : (other : ℕ) → IsLive old other → IsLive new other ⊎ IsOn other changed tail
  pub on_new : (other : ℕ) → IsLive new other → IsLive old other ⊎ IsOn other changed rest
  pub on_rest : (other : ℕ) → IsOn other changed rest → IsLive new other
  pub on_tail : (other : ℕ) → IsOn other changed tail → IsLive old other
  pub before : (at : ℕ) → at < start_of old changed → claimed_at new at ≡ claimed_at old at
  pub behind : (at : ℕ) → start_of old changed ≤ at → claimed_at new at ≡ claimed_from new changed rest at
  pub old_behind : (at : ℕ) → start_of old changed ≤ at → claimed_at old at ≡ claimed_from old changed tail at

pub changed_by : (old new : List Segment) (changed : ℕ) (rest : List ℕ) → IsList old → Agrees old new changed → (place : IsPlace old changed 0 (way_of old)) → Follow new changed rest
    → IsChanged old new changed place.tail rest
unfolding claimed_at
changed_by old new changed rest list agrees place follow =
    let leads = place.leads new rest agrees follow in
    let way = way_of_is new (place.ahead rest) leads in
    let long = agrees.more in
    let marked = list.marked in
    let zero_first = start_kept old new changed 0 agrees (omega arith) in
    record {
      list = record { marked = omega arith; first = zero_first ∙ list.first; follow = subst (Follow new 0) (sym way) leads };
      len = start_kept old new changed 1 agrees list.marked;
      live = subst (IsOn changed 0) (sym way) (place.on_rest changed rest (on_first changed rest));
      on_old = λ other on. elim (place.on_old other rest on) [ inl there ↦ inl (subst (IsOn other 0) (sym way) there) | inr behind ↦ inr behind ];
      on_new = λ other on. place.on_new other rest (subst (IsOn other 0) way on);
      on_rest = λ other on. subst (IsOn other 0) (sym way) (place.on_rest other rest on);
      on_tail = place.on_tail;
      before = λ at low. ap (λ indices. claimed_from new 0 indices at) way ∙ place.before new rest at agrees (rw list.first (omega arith)) low;
      behind = λ at low. ap (λ indices. claimed_from new 0 indices at) way ∙ place.behind new rest at agrees low;
      old_behind = place.old_behind;
    }

-- ---- a segment is cut in two

split_claimed : (old new : List Segment) (whole at cut next : ℕ) (others : List ℕ) (byte : ℕ) (first second : Bool) → nat_lt byte at ≡ first → nat_lt byte (start_of old next) ≡ second
    → start_of new cut ≡ at → start_of new next ≡ start_of old next → at < start_of old next
    → (segment_at new whole).claimed ≡ (segment_at old whole).claimed → (segment_at new cut).claimed ≡ (segment_at old whole).claimed
    → claimed_from new next others byte ≡ claimed_from old next others byte
    → claimed_from new whole (cut ∷ next ∷ others) byte ≡ claimed_from old whole (next ∷ others) byte
split_claimed old new whole at cut next others byte true second is is_second begins start low same cut_same rest =
    let below : byte < at = grind (arith, nat_tests) in
    claimed_here new whole cut (next ∷ others) byte (rw begins below) ∙ same ∙ sym (claimed_here old whole next others byte (omega arith))
split_claimed old new whole at cut next others byte false true is is_second begins start low same cut_same rest =
    let past : at ≤ byte = grind (arith, nat_tests) in
    let below : byte < start_of old next = grind (arith, nat_tests) in
    claimed_later new whole cut (next ∷ others) byte (rw begins past) ∙ claimed_here new cut next others byte (rw start below) ∙ cut_same ∙ sym (claimed_here old whole next others byte below)
split_claimed old new whole at cut next others byte false false is is_second begins start low same cut_same rest =
    let past : at ≤ byte = grind (arith, nat_tests) in
    let over : start_of old next ≤ byte = grind (arith, nat_tests) in
    claimed_later new whole cut (next ∷ others) byte (rw begins past) ∙ claimed_later new cut next others byte (rw start over) ∙ rest ∙ sym (claimed_later old whole next others byte over)

-- the new list has one segment more, which takes over the bytes from a place on
pub record IsSplit (old new : List Segment) (whole at cut : ℕ) : Type 0 where
  pub index : cut ≡ length old
  pub more : length new ≡ length old + 1
  pub same : (other : ℕ) → other < length old → other ≢ whole → segment_at new other ≡ segment_at old other
  pub front : segment_at new whole ≡ record { start = start_of old whole; next = cut; claimed = (segment_at old whole).claimed }
  pub back : segment_at new cut ≡ record { start = at; next = next_of old whole; claimed = (segment_at old whole).claimed }

split_agrees : (old new : List Segment) (whole at cut : ℕ) → IsSplit old new whole at cut → Agrees old new whole
split_agrees old new whole at cut split =
    let more = split.more in
    record { more = omega arith; same = split.same; start = ap (λ (segment : Segment). segment.start) split.front }

split_by : (old new : List Segment) (whole at cut : ℕ) (tail : List ℕ) → IsList old → IsLive old whole → whole ≢ 1 → start_of old whole < at → at < start_of old (next_of old whole)
    → IsSplit old new whole at cut → Follow old whole tail
    → ((rest : List ℕ) → Follow new whole rest → IsChanged old new whole tail rest) → IsCut old new at cut
split_by old new whole at cut [] list live more begins ends split follow changed = absurd (more follow)
split_by old new whole at cut (next ∷ others) list live more begins ends split follow changed =
    let agrees = split_agrees old new whole at cut split in
    let long = split.more in
    let index = split.index in
    let marked = list.marked in
    let rises = follow.3 in
    let is_next : start_of old (next_of old whole) ≡ start_of old next = ap (start_of old) follow.2 in
    let there = on_length old next others next list.marked follow.4 (on_first next others) in
    let inside = follow.0 in
    let starts_at : start_of new cut ≡ at = ap (λ (segment : Segment). segment.start) split.back in
    let start_whole : start_of new whole ≡ start_of old whole = ap (λ (segment : Segment). segment.start) split.front in
    let start_next = start_kept old new whole next agrees there in
    let behind = follow_kept old new whole next others agrees list.marked follow.3 follow.4 in
    let after : Follow new cut (next ∷ others) =
    (omega arith, omega arith, ap (λ (segment : Segment). segment.next) split.back ∙ follow.2, omega arith, behind) in
    let leads : Follow new whole (cut ∷ next ∷ others) =
    (omega arith, more, ap (λ (segment : Segment). segment.next) split.front, omega arith, after) in
    let whole_changed = changed (cut ∷ next ∷ others) leads in
    record {
      list = whole_changed.list;
      len = whole_changed.len;
      live = whole_changed.on_rest cut (inr (on_first cut (next ∷ others)));
      begins = starts_at;
      kept = λ other on. (
        elim (whole_changed.on_old other on) [
          | inl here ↦ here
          | inr back ↦ whole_changed.on_rest other (elim back [ inl same ↦ inl same | inr later ↦ inr (inr later) ])
        ],
        start_kept old new whole other agrees (on_length old 0 (way_of old) other list.marked list.follow on),
      );
      only = λ other on. elim (whole_changed.on_new other on) [
        | inl here ↦ inl here
        | inr back ↦ elim back [
          | inl same ↦ inl (whole_changed.on_tail other (inl same))
          | inr rest ↦ elim rest [
            | inl same ↦ inr (ap (start_of new) same ∙ starts_at)
            | inr later ↦ inl (whole_changed.on_tail other (inr later))
          ]
        ]
      ];
      claimed = λ byte. by_place byte (nat_lt byte (start_of old whole)) refl whole_changed
          (split_claimed old new whole at cut next others byte (nat_lt byte at) (nat_lt byte (start_of old next)) refl refl starts_at start_next (omega arith)
          (ap (λ (segment : Segment). segment.claimed) split.front) (ap (λ (segment : Segment). segment.claimed) split.back)
          (claimed_kept old new whole next others byte agrees list.marked follow.3 follow.4));
    }
  where
    by_place : (byte : ℕ) (before : Bool) → nat_lt byte (start_of old whole) ≡ before → IsChanged old new whole (next ∷ others) (cut ∷ next ∷ others)
        → claimed_from new whole (cut ∷ next ∷ others) byte ≡ claimed_from old whole (next ∷ others) byte
        → claimed_at new byte ≡ claimed_at old byte
    by_place byte true is changed same = changed.before byte (grind (arith, nat_tests))
    by_place byte false is changed same =
        let past : start_of old whole ≤ byte = grind (arith, nat_tests) in
        changed.behind byte past ∙ same ∙ sym (changed.old_behind byte past)

pub cut_is : (old new : List Segment) (whole at cut : ℕ) → IsList old → IsLive old whole → whole ≢ 1 → start_of old whole < at → at < start_of old (next_of old whole)
    → IsSplit old new whole at cut → IsCut old new at cut
cut_is old new whole at cut list live more begins ends split =
    let place = place_of old whole 0 (way_of old) list.marked list.follow live in
    split_by old new whole at cut place.tail list live more begins ends split place.follows
    (λ rest follow. changed_by old new whole rest list (split_agrees old new whole at cut split) place follow)

-- a segment begins there already
pub cut_none : (items : List Segment) (at index : ℕ) → IsList items → IsLive items index → start_of items index ≡ at → IsCut items items at index
cut_none items at index list live begins = record {
  list = list;
  len = refl;
  live = live;
  begins = begins;
  kept = λ other on. (on, refl);
  only = λ other on. inl on;
  claimed = λ byte. refl;
}

-- ---- a segment is claimed once more

pub record IsSet (old new : List Segment) (changed : ℕ) (segment : Segment) : Type 0 where
  pub long : length new ≡ length old
  pub same : (other : ℕ) → other ≢ changed → segment_at new other ≡ segment_at old other
  pub here : segment_at new changed ≡ segment
  pub start : segment.start ≡ start_of old changed

set_agrees : (old new : List Segment) (changed : ℕ) (segment : Segment) → IsSet old new changed segment → Agrees old new changed
set_agrees old new changed segment set =
    let long = set.long in
    record { more = omega arith; same = λ other there apart. set.same other apart; start = ap (λ (segment : Segment). segment.start) set.here ∙ set.start }

-- each start is the same, also those of segments that are out of the list
pub set_starts : (old new : List Segment) (changed : ℕ) (segment : Segment) → IsSet old new changed segment → (index : ℕ) → start_of new index ≡ start_of old index
set_starts old new changed segment set index = by_here (nat_eq index changed) refl
  where
    by_here : (here : Bool) → nat_eq index changed ≡ here → start_of new index ≡ start_of old index
    by_here true is = let same : index ≡ changed = grind (arith, nat_tests) in rw same (ap (λ (segment : Segment). segment.start) set.here ∙ set.start)
    by_here false is = let apart : index ≢ changed = grind (arith, nat_tests) in ap (λ (segment : Segment). segment.start) (set.same index apart)

raise_byte : (start middle byte : ℕ) (label : Label) (claimed : Claimed) → ((nat_le start byte && nat_lt byte middle) ≡ true ⊎ (nat_le start byte && nat_lt byte middle) ≡ false)
    → (new : Claimed)
    → ((nat_le start byte && nat_lt byte middle) ≡ true → new ≡ once_more label claimed)
    → ((nat_le start byte && nat_lt byte middle) ≡ false → new ≡ claimed)
    → new ≡ (if nat_le start byte && nat_lt byte middle then once_more label claimed else claimed)
raise_byte start middle byte label claimed cases new inside outside =
    elim cases [ inl is ↦ rw is (inside is) | inr is ↦ rw is (outside is) ]

either : (b : Bool) → (b ≡ true) ⊎ (b ≡ false)
either true = inl refl
either false = inr refl

raise_by : (old new : List Segment) (index : ℕ) (label : Label) (tail : List ℕ) → IsList old → IsLive old index → index ≢ 1
    → IsSet old new index (record { start = start_of old index; next = next_of old index; claimed = once_more label (segment_at old index).claimed })
    → Follow old index tail → ((rest : List ℕ) → Follow new index rest → IsChanged old new index tail rest)
    → (Follow new index tail → way_of new ≡ way_of old)
    → IsRaised old new (start_of old index) (start_of old (next_of old index)) label
raise_by old new index label [] list live more set follow changed ways = absurd (more follow)
raise_by old new index label (next ∷ others) list live more set follow changed ways =
    let segment : Segment = record { start = start_of old index; next = next_of old index; claimed = once_more label (segment_at old index).claimed } in
    let agrees = set_agrees old new index segment set in
    let long = set.long in
    let inside = follow.0 in
    let there = on_length old next others next list.marked follow.4 (on_first next others) in
    let start_next = start_kept old new index next agrees there in
    let start_index = agrees.start in
    let is_next : start_of old (next_of old index) ≡ start_of old next = ap (start_of old) follow.2 in
    let leads : Follow new index (next ∷ others) = (
      omega arith,
      more,
      ap (λ (segment : Segment). segment.next) set.here ∙ follow.2,
      rw (start_next, start_index) follow.3,
      follow_kept old new index next others agrees list.marked follow.3 follow.4,
    ) in
    let whole = changed (next ∷ others) leads in
    record {
      list = whole.list;
      way = ways leads;
      starts = set_starts old new index segment set;
      claimed = λ byte within. raise_byte (start_of old index) (start_of old (next_of old index)) byte label (claimed_at old byte) (either (nat_le (start_of old index) byte && nat_lt byte (start_of old (next_of old index))))
          (claimed_at new byte)
          (λ is.
          let low : start_of old index ≤ byte = grind (arith, nat_tests) in
          let high : byte < start_of old (next_of old index) = grind (arith, nat_tests) in
          whole.behind byte low ∙ claimed_here new index next others byte (rw start_next (rw is_next at high)) ∙ ap (λ (segment : Segment). segment.claimed) set.here
          ∙ ap (once_more label) (sym (live_claimed old index byte list live more low high)))
          (λ is. outside byte is whole start_next is_next (claimed_kept old new index next others byte agrees list.marked follow.3 follow.4) (nat_lt byte (start_of old index)) refl);
    }
  where
    outside : (byte : ℕ) → (nat_le (start_of old index) byte && nat_lt byte (start_of old (next_of old index))) ≡ false → IsChanged old new index (next ∷ others) (next ∷ others)
        → start_of new next ≡ start_of old next → start_of old (next_of old index) ≡ start_of old next
        → claimed_from new next others byte ≡ claimed_from old next others byte
        → (before : Bool) → nat_lt byte (start_of old index) ≡ before → claimed_at new byte ≡ claimed_at old byte
    outside byte is whole start_next is_next kept true before = whole.before byte (grind (arith, nat_tests))
    outside byte is whole start_next is_next kept false before =
        let low : start_of old index ≤ byte = grind (arith, nat_tests) in
        let past : start_of old (next_of old index) ≤ byte = grind (arith, nat_tests) in
        let over : start_of old next ≤ byte = rw is_next at past in
        whole.behind byte low ∙ claimed_later new index next others byte (rw start_next over) ∙ kept ∙ sym (claimed_later old index next others byte over) ∙ sym (whole.old_behind byte low)

pub raise_one : (old new : List Segment) (index : ℕ) (label : Label) → IsList old → IsLive old index → index ≢ 1
    → IsSet old new index (record { start = start_of old index; next = next_of old index; claimed = once_more label (segment_at old index).claimed })
    → IsRaised old new (start_of old index) (start_of old (next_of old index)) label
raise_one old new index label list live more set =
    let segment : Segment = record { start = start_of old index; next = next_of old index; claimed = once_more label (segment_at old index).claimed } in
    let place = place_of old index 0 (way_of old) list.marked list.follow live in
    let agrees = set_agrees old new index segment set in
    raise_by old new index label place.tail list live more set place.follows
    (λ rest follow. changed_by old new index rest list agrees place follow)
    (λ follow. way_of_is new (place.ahead place.tail) (place.leads new place.tail agrees follow) ∙ place.same)

raised_byte : (start middle end byte : ℕ) (label : Label) (old between new : Claimed) → start ≤ middle → middle ≤ end
    → between ≡ (if nat_le start byte && nat_lt byte middle then once_more label old else old)
    → new ≡ (if nat_le middle byte && nat_lt byte end then once_more label between else between)
    → (first second : Bool) → (nat_le start byte && nat_lt byte middle) ≡ first → (nat_le middle byte && nat_lt byte end) ≡ second
    → new ≡ (if nat_le start byte && nat_lt byte end then once_more label old else old)
raised_byte start middle end byte label old between new low high is further true true first second = absurd (let a : byte < middle = grind (arith, nat_tests) in let b : middle ≤ byte = grind (arith, nat_tests) in omega arith)
raised_byte start middle end byte label old between new low high is further true false first second =
    let both : (nat_le start byte && nat_lt byte end) ≡ true = grind (arith, nat_tests) in
    rw both ((rw second at further) ∙ (rw first at is))
raised_byte start middle end byte label old between new low high is further false true first second =
    let both : (nat_le start byte && nat_lt byte end) ≡ true = grind (arith, nat_tests) in
    rw both ((rw second at further) ∙ ap (once_more label) (rw first at is))
raised_byte start middle end byte label old between new low high is further false false first second =
    let both : (nat_le start byte && nat_lt byte end) ≡ false = grind (arith, nat_tests) in
    rw both ((rw second at further) ∙ (rw first at is))

pub raised_more : (old between new : List Segment) (start middle end : ℕ) (label : Label) → start ≤ middle → middle ≤ end → IsRaised old between start middle label → IsRaised between new middle end label
    → IsRaised old new start end label
raised_more old between new start middle end label low high first second = record {
  list = second.list;
  way = second.way ∙ first.way;
  starts = λ index. second.starts index ∙ first.starts index;
  claimed = λ byte within.
      raised_byte start middle end byte label (claimed_at old byte) (claimed_at between byte) (claimed_at new byte) low high (first.claimed byte within)
      (second.claimed byte (rw (first.starts 1) within)) (nat_le start byte && nat_lt byte middle) (nat_le middle byte && nat_lt byte end) refl refl;
}

-- ---- a segment takes in the next one, of which the same is claimed

taken_claimed : (old new : List Segment) (index next further : ℕ) (others : List ℕ) (byte : ℕ) (first second : Bool) → nat_lt byte (start_of old next) ≡ first → nat_lt byte (start_of old further) ≡ second
    → start_of new further ≡ start_of old further → start_of old next < start_of old further
    → (segment_at new index).claimed ≡ (segment_at old index).claimed → (segment_at old next).claimed ≡ (segment_at old index).claimed
    → claimed_from new further others byte ≡ claimed_from old further others byte
    → claimed_from new index (further ∷ others) byte ≡ claimed_from old index (next ∷ further ∷ others) byte
taken_claimed old new index next further others byte true second is is_second start rises same equal rest =
    let below : byte < start_of old next = grind (arith, nat_tests) in
    claimed_here new index further others byte (rw start (omega arith)) ∙ same ∙ sym (claimed_here old index next (further ∷ others) byte below)
taken_claimed old new index next further others byte false true is is_second start rises same equal rest =
    let past : start_of old next ≤ byte = grind (arith, nat_tests) in
    let below : byte < start_of old further = grind (arith, nat_tests) in
    claimed_here new index further others byte (rw start below) ∙ same ∙ sym equal ∙ sym (claimed_here old next further others byte below) ∙ sym (claimed_later old index next (further ∷ others) byte past)
taken_claimed old new index next further others byte false false is is_second start rises same equal rest =
    let past : start_of old next ≤ byte = grind (arith, nat_tests) in
    let over : start_of old further ≤ byte = grind (arith, nat_tests) in
    claimed_later new index further others byte (rw start over) ∙ rest ∙ sym (claimed_later old next further others byte over) ∙ sym (claimed_later old index next (further ∷ others) byte past)

-- the same is claimed, no other segment is in the list, and this one still is
pub record IsTaken (old new : List Segment) (index : ℕ) : Type 0 where
  pub list : IsList new
  pub live : IsLive new index
  pub starts : (other : ℕ) → start_of new other ≡ start_of old other
  pub only : (other : ℕ) → IsLive new other → IsLive old other
  pub kept : (other : ℕ) → IsLive old other → start_of old other ≤ start_of old index → IsLive new other
  pub claimed : (byte : ℕ) → claimed_at new byte ≡ claimed_at old byte

take_by : (old new : List Segment) (index : ℕ) (tail : List ℕ) → IsList old → IsLive old index → index ≢ 1 → next_of old index ≢ 1
    → (segment_at old (next_of old index)).claimed ≡ (segment_at old index).claimed
    → IsSet old new index (record { start = start_of old index; next = next_of old (next_of old index); claimed = (segment_at old index).claimed })
    → Follow old index tail → ((rest : List ℕ) → Follow new index rest → IsChanged old new index tail rest)
    → IsTaken old new index
take_by old new index [] list live more further equal set follow changed = absurd (more follow)
take_by old new index (next ∷ []) list live more further equal set follow changed = absurd (further (follow.2 ∙ follow.4))
take_by old new index (next ∷ behind ∷ others) list live more further equal set follow changed =
    let segment : Segment = record { start = start_of old index; next = next_of old (next_of old index); claimed = (segment_at old index).claimed } in
    let agrees = set_agrees old new index segment set in
    let long = set.long in
    let inside = follow.0 in
    let after = follow.4 in
    let there = on_length old behind others behind list.marked after.4 (on_first behind others) in
    let start_behind = start_kept old new index behind agrees there in
    let start_index = agrees.start in
    let rises = follow.3 in
    let rises_more = after.3 in
    let passes : start_of old index < start_of old behind = omega arith in
    let links : next_of new index ≡ behind = ap (λ (segment : Segment). segment.next) set.here ∙ ap (next_of old) follow.2 ∙ after.2 in
    let leads : Follow new index (behind ∷ others) =
    (omega arith, more, links, rw (start_behind, start_index) passes, follow_kept old new index behind others agrees list.marked passes after.4) in
    let whole = changed (behind ∷ others) leads in
    record {
      list = whole.list;
      live = whole.live;
      starts = set_starts old new index segment set;
      only = λ other on. elim (whole.on_new other on) [
        | inl here ↦ here
        | inr rest ↦ whole.on_tail other (elim rest [ inl same ↦ inl same | inr later ↦ inr (inr later) ])
      ];
      kept = λ other on low. elim (whole.on_old other on) [
        | inl here ↦ here
        | inr back ↦ elim back [
          | inl same ↦ whole.on_rest other (inl same)
          | inr later ↦ absurd (let rise = starts_rise old next (behind ∷ others) other follow.4 later in omega arith)
        ]
      ];
      claimed = λ byte. by_place byte (nat_lt byte (start_of old index)) refl whole
          (taken_claimed old new index next behind others byte (nat_lt byte (start_of old next)) (nat_lt byte (start_of old behind)) refl refl start_behind rises_more
          (ap (λ (segment : Segment). segment.claimed) set.here) (ap (λ k. (segment_at old k).claimed) (sym follow.2) ∙ equal)
          (claimed_kept old new index behind others byte agrees list.marked passes after.4));
    }
  where
    by_place : (byte : ℕ) (before : Bool) → nat_lt byte (start_of old index) ≡ before → IsChanged old new index (next ∷ behind ∷ others) (behind ∷ others)
        → claimed_from new index (behind ∷ others) byte ≡ claimed_from old index (next ∷ behind ∷ others) byte
        → claimed_at new byte ≡ claimed_at old byte
    by_place byte true is changed same = changed.before byte (grind (arith, nat_tests))
    by_place byte false is changed same =
        let past : start_of old index ≤ byte = grind (arith, nat_tests) in
        changed.behind byte past ∙ same ∙ sym (changed.old_behind byte past)

pub take_one : (old new : List Segment) (index : ℕ) → IsList old → IsLive old index → index ≢ 1 → next_of old index ≢ 1
    → (segment_at old (next_of old index)).claimed ≡ (segment_at old index).claimed
    → IsSet old new index (record { start = start_of old index; next = next_of old (next_of old index); claimed = (segment_at old index).claimed })
    → IsTaken old new index
take_one old new index list live more further equal set =
    let segment : Segment = record { start = start_of old index; next = next_of old (next_of old index); claimed = (segment_at old index).claimed } in
    let place = place_of old index 0 (way_of old) list.marked list.follow live in
    take_by old new index place.tail list live more further equal set place.follows
    (λ rest follow. changed_by old new index rest list (set_agrees old new index segment set) place follow)
