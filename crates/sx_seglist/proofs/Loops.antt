-- What holds along the loops over a list of segments.
use Rattle.std.proofs.Common.{◌≡◌, ◌≢◌, ℕ, ◌+◌, ◌-◌, ◌<◌, ◌≤◌, ◌⊎◌, inl, inr, Bool, true, false, ◌&&◌, nat_lt, nat_le, if◌then◌else◌, List, [], ◌∷◌, length, set, take, refl, sym, ap, subst, ◌∙◌, arith, get_or-set_other, get_or-set_same, length-set, length-append, Result, Ok, Err, is_ok, ◌++◌, get_or}
use Rattle.std.specs.Prelude.{IsOk, IsTrue}
use Rattle.std.proofs.lemmas.List.{get_or_default, get_or_append_left}
use Rattle.std.proofs.Math.Seq.{get_or-append_seam, take-append_seam}
use Rattle.std.proofs.lemmas.Bool.Decides.{nat_tests}
use Rattle.sx_base.specs.declared.label.Label.{Label}
use Rattle.sx_base.specs.declared.evidence.Span.{Span}
use Rattle.sx_seglist.specs.declared.claimed.Claimed.{Claimed}
use Rattle.sx_seglist.specs.declared.segment.Segment.{Segment}
use Rattle.sx_seglist.specs.Claims.{once_more}
use Rattle.sx_seglist.specs.Links.{segment_at, start_of, next_of, len_of, IsOn, IsLive, IsList, IsStart, IsHolder, IsCut, IsRaised, IsJoined, IsSegList, IsClaimed, claimed_at}
use Rattle.sx_seglist.proofs.Steps.{IsSet, IsTaken, IsSplit, first_live, next_length, take_one, cut_none, cut_is, live_length, set_starts, live_next, live_within, live_between, live_claimed, raise_one, raised_more}

abbrev nothing : Segment
nothing = segment_at [] 0

pub set_is : (old : List Segment) (index : ℕ) (segment : Segment) → index < length old → segment.start ≡ start_of old index → IsSet old (set old index segment) index segment
set_is old index segment there start = record {
  long = length-set old index segment;
  same = λ other apart. get_or-set_other old index other segment nothing apart;
  here = get_or-set_same old index segment nothing there;
  start = start;
}

before_end : (items : List Segment) (index : ℕ) → start_of items index < len_of items → index ≢ 1
before_end items index low is = let same = ap (start_of items) is in omega arith

pub within_page : (items : List Segment) (index : ℕ) → IsList items → IsLive items index → index ≢ 1 → start_of items index < len_of items
within_page items index list live more =
    let next = live_next items index list live more in
    let within = live_within items (next_of items index) list next.on in
    let rises = next.rises in
    omega arith

-- ---- looking for a byte

pub record IsBefore (items : List Segment) (at index : ℕ) : Type 0 where
  pub live : IsLive items index
  pub before_end : index ≢ 1
  pub begins : start_of items index ≤ at

pub further : (items : List Segment) (at index : ℕ) → IsList items → at < len_of items → IsBefore items at index → start_of items (next_of items index) ≤ at
    → IsBefore items at (next_of items index)
further items at index list within before past =
    let next = live_next items index list before.live before.before_end in
    record { live = next.on; before_end = before_end items (next_of items index) (omega arith); begins = past }

pub looking_from : (items : List Segment) (at from found : ℕ) → found ≡ from → IsLive items from → from ≢ 1 → start_of items from ≤ at → IsBefore items at found
looking_from items at from found is live more low = rw is (record { live = live; before_end = more; begins = low })

pub looking_first : (items : List Segment) (at found : ℕ) → found ≡ 0 → IsList items → IsBefore items at found
looking_first items at found is list = rw is (record { live = first_live items; before_end = omega arith; begins = rw list.first (omega arith) })

pub nearer : (items : List Segment) (at index : ℕ) → IsList items → at < len_of items → IsBefore items at index
    → len_of items - start_of items (next_of items index) < len_of items - start_of items index
nearer items at index list within before =
    let next = live_next items index list before.live before.before_end in
    let rises = next.rises in
    let low = before.begins in
    omega arith

-- ---- one claim more

pub record IsRaising (old items : List Segment) (start index end : ℕ) (label : Label) : Type 0 where
  pub raised : IsRaised old items start (start_of items index) label
  pub live : IsLive items index
  pub low : start ≤ start_of items index
  pub high : start_of items index ≤ end

pub raising_more : (old items new : List Segment) (start index end : ℕ) (label : Label) → IsStart old end → IsRaising old items start index end label → start_of items index < end
    → (index ≢ 1 → IsSet items new index (record { start = start_of items index; next = next_of items index; claimed = once_more label (segment_at items index).claimed }))
    → IsRaising old new start (next_of items index) end label
raising_more old items new start index end label stop raising low set =
    let raised = raising.raised in
    let list = raised.list in
    let live = raising.live in
    let stop_live : IsLive items stop.index = subst (IsOn stop.index 0) (sym raised.way) stop.live in
    let stop_start : start_of items stop.index ≡ end = raised.starts stop.index ∙ stop.begins in
    let stop_within = live_within items stop.index list stop_live in
    let more = before_end items index (omega arith) in
    let next = live_next items index list live more in
    let rises = next.rises in
    let one = raise_one items new index label list live more (set more) in
    let before = raising.low in
    let starts = one.starts (next_of items index) in
    let here : start_of items (next_of items index) ≤ end =
    elim (live_between items index stop.index list live more stop_live) [ inl under ↦ absurd (omega arith) | inr over ↦ omega arith ] in
    record {
      raised = rw starts (raised_more old items new start (start_of items index) (start_of items (next_of items index)) label before (omega arith) raised one);
      live = subst (IsOn (next_of items index) 0) (sym one.way) next.on;
      low = rw starts (omega arith);
      high = rw starts here;
    }

-- and it was in the page
pub raising_more_end : (old items : List Segment) (start index end : ℕ) (label : Label) → IsStart old end → IsRaising old items start index end label → start_of items index < end → index ≢ 1
raising_more_end old items start index end label stop raising low =
    let raised = raising.raised in
    let stop_live : IsLive items stop.index = subst (IsOn stop.index 0) (sym raised.way) stop.live in
    let stop_start : start_of items stop.index ≡ end = raised.starts stop.index ∙ stop.begins in
    let stop_within = live_within items stop.index raised.list stop_live in
    before_end items index (omega arith)

raised_set : (items : List Segment) (index : ℕ) (label : Label) (claimed : Claimed) → IsList items → IsLive items index → claimed ≡ once_more label (segment_at items index).claimed
    → IsSet items (set items index (record { start = start_of items index; next = next_of items index; claimed = claimed })) index (record { start = start_of items index; next = next_of items index; claimed = once_more label (segment_at items index).claimed })
raised_set items index label claimed list live is = rw is (set_is items index (record { start = start_of items index; next = next_of items index; claimed = once_more label (segment_at items index).claimed }) (live_length items index list live) refl)

pub raising_set : (old items : List Segment) (start index end : ℕ) (label : Label) (claimed : Claimed) → IsStart old end → IsRaising old items start index end label → start_of items index < end
    → claimed ≡ once_more label (segment_at items index).claimed
    → IsRaising old (set items index (record { start = start_of items index; next = next_of items index; claimed = claimed })) start (next_of items index) end label
raising_set old items start index end label claimed stop raising low is =
    let raised = raising.raised in
    raising_more old items (set items index (record { start = start_of items index; next = next_of items index; claimed = claimed })) start index end label stop raising low
    (λ more. raised_set items index label claimed raised.list raising.live is)

pub raising_nearer : (old items : List Segment) (start index end : ℕ) (label : Label) (claimed : Claimed) → IsStart old end → IsRaising old items start index end label → start_of items index < end
    → claimed ≡ once_more label (segment_at items index).claimed
    → len_of (set items index (record { start = start_of items index; next = next_of items index; claimed = claimed })) - start_of (set items index (record { start = start_of items index; next = next_of items index; claimed = claimed })) (next_of items index)
    < len_of items - start_of items index
raising_nearer old items start index end label claimed stop raising low is =
    let raised = raising.raised in
    let one = raised_set items index label claimed raised.list raising.live is in
    let segment : Segment = record { start = start_of items index; next = next_of items index; claimed = once_more label (segment_at items index).claimed } in
    let new : List Segment = set items index (record { start = start_of items index; next = next_of items index; claimed = claimed }) in
    let end_kept : len_of new ≡ len_of items = set_starts items new index segment one 1 in
    let start_kept : start_of new (next_of items index) ≡ start_of items (next_of items index) = set_starts items new index segment one (next_of items index) in
    let more = raising_more_end old items start index end label stop raising low in
    let next = live_next items index raised.list raising.live more in
    let rises = next.rises in
    let inside = within_page items index raised.list raising.live more in
    rw (end_kept, start_kept) (omega arith)

-- ---- neighbours are joined

pub record IsJoining (old items : List Segment) (first index : ℕ) : Type 0 where
  pub joined : IsJoined old items first (start_of items index)
  pub live : IsLive items index
  pub before_end : index ≢ 1
  pub low : start_of items first ≤ start_of items index

pub joining_take : (old items new : List Segment) (first index : ℕ) → IsJoining old items first index → IsTaken items new index → IsJoining old new first index
joining_take old items new first index joining taken =
    let joined = joining.joined in
    let start_first = taken.starts first in
    let start_index = taken.starts index in
    record {
      joined = record {
        list = taken.list;
        live = taken.kept first joined.live joining.low;
        starts = λ other. taken.starts other ∙ joined.starts other;
        only = λ other on. joined.only other (taken.only other on);
        claimed = λ byte. taken.claimed byte ∙ joined.claimed byte;
        apart = λ other on more low high same.
            let start = taken.starts other in
            joined.apart other (taken.only other on) more (omega arith) (omega arith)
            (sym (ap (λ byte. claimed_at items (byte - 1)) start) ∙ sym (taken.claimed (start_of new other - 1)) ∙ same ∙ taken.claimed (start_of new other) ∙ ap (claimed_at items) start);
      };
      live = taken.live;
      before_end = joining.before_end;
      low = let low = joining.low in omega arith;
    }

pub joining_go : (old items : List Segment) (first index : ℕ) → IsJoining old items first index → next_of items index ≢ 1
    → (segment_at items (next_of items index)).claimed ≢ (segment_at items index).claimed → IsJoining old items first (next_of items index)
joining_go old items first index joining further apart =
    let joined = joining.joined in
    let list = joined.list in
    let next = live_next items index list joining.live joining.before_end in
    let rises = next.rises in
    let after = live_next items (next_of items index) list next.on further in
    let rises_more = after.rises in
    let low = joining.low in
    record {
      joined = record {
        list = list;
        live = joined.live;
        starts = joined.starts;
        only = joined.only;
        claimed = joined.claimed;
        apart = λ other on more low high same.
            elim (live_between items index other list joining.live joining.before_end on) [
              | inl under ↦ joined.apart other on more low under same
              | inr over ↦
                  let here : start_of items other ≡ start_of items (next_of items index) = omega arith in
                  let front = live_claimed items index (start_of items other - 1) list joining.live joining.before_end (omega arith) (omega arith) in
                  let back = live_claimed items (next_of items index) (start_of items other) list next.on further (omega arith) (omega arith) in
                  apart (sym back ∙ sym same ∙ front)
            ];
      };
      live = next.on;
      before_end = further;
      low = omega arith;
    }

pub joining_end : (old items : List Segment) (first index end : ℕ) → IsJoining old items first index → (next_of items index ≡ 1) ⊎ (end < start_of items (next_of items index))
    → IsJoined old items first end
joining_end old items first index end joining stop =
    let joined = joining.joined in
    let list = joined.list in
    record {
      list = list;
      live = joined.live;
      starts = joined.starts;
      only = joined.only;
      claimed = joined.claimed;
      apart = λ other on more low high same.
          elim (live_between items index other list joining.live joining.before_end on) [
            | inl under ↦ joined.apart other on more low under same
            | inr over ↦ elim stop [
              | inl last ↦ absurd (let inside = within_page items other list on more in let len = ap (start_of items) last in omega arith)
              | inr behind ↦ absurd (omega arith)
            ]
          ];
    }

pub not_true : {P : Type 0} (b : Bool) → (P → IsTrue b) → b ≡ false → P → ⊥
not_true b further is holds = let other = further holds in cc

-- the two ways of one step
pub joining_taken : (old items : List Segment) (first index : ℕ) → IsJoining old items first index → next_of items index ≢ 1 → (segment_at items (next_of items index)).claimed ≡ (segment_at items index).claimed
    → IsJoining old (set items index (record { start = start_of items index; next = next_of items (next_of items index); claimed = (segment_at items index).claimed })) first index
joining_taken old items first index joining further equal =
    let list = joining.joined.list in
    let segment : Segment = record { start = start_of items index; next = next_of items (next_of items index); claimed = (segment_at items index).claimed } in
    let new : List Segment = set items index segment in
    joining_take old items new first index joining
    (take_one items new index list joining.live joining.before_end further equal (set_is items index segment (live_length items index list joining.live) refl))

pub joining_taken_nearer : (old items : List Segment) (first index : ℕ) → IsJoining old items first index → next_of items index ≢ 1
    → len_of (set items index (record { start = start_of items index; next = next_of items (next_of items index); claimed = (segment_at items index).claimed }))
    - start_of (set items index (record { start = start_of items index; next = next_of items (next_of items index); claimed = (segment_at items index).claimed }))
    (next_of (set items index (record { start = start_of items index; next = next_of items (next_of items index); claimed = (segment_at items index).claimed })) index)
    < len_of items - start_of items (next_of items index)
joining_taken_nearer old items first index joining further =
    let list = joining.joined.list in
    let segment : Segment = record { start = start_of items index; next = next_of items (next_of items index); claimed = (segment_at items index).claimed } in
    let new : List Segment = set items index segment in
    let one = set_is items index segment (live_length items index list joining.live) refl in
    let next_is : next_of new index ≡ next_of items (next_of items index) = ap (λ (segment : Segment). segment.next) one.here in
    let end_kept : len_of new ≡ len_of items = set_starts items new index segment one 1 in
    let start_kept : start_of new (next_of items (next_of items index)) ≡ start_of items (next_of items (next_of items index)) = set_starts items new index segment one (next_of items (next_of items index)) in
    let next = live_next items index list joining.live joining.before_end in
    let after = live_next items (next_of items index) list next.on further in
    let rises = after.rises in
    let inside = within_page items (next_of items index) list next.on further in
    subst (λ (k : ℕ). len_of new - start_of new k < len_of items - start_of items (next_of items index)) (sym next_is) (rw (end_kept, start_kept) (omega arith))

pub joining_go_nearer : (old items : List Segment) (first index : ℕ) → IsJoining old items first index → next_of items index ≢ 1
    → len_of items - start_of items (next_of items (next_of items index)) < len_of items - start_of items (next_of items index)
joining_go_nearer old items first index joining further =
    let list = joining.joined.list in
    let next = live_next items index list joining.live joining.before_end in
    let after = live_next items (next_of items index) list next.on further in
    let rises = after.rises in
    let inside = within_page items (next_of items index) list next.on further in
    omega arith

-- ---- a cut

-- what was read of a list
read_is : (items : List Segment) (index : ℕ) (read : Segment) → index < length items → read ≡ get_or items index read → read ≡ segment_at items index
read_is items index read there is = is ∙ get_or_default items index read nothing there

pub cut_at_next : (items : List Segment) (whole at : ℕ) (segment next : Segment) → IsList items → IsLive items whole → whole ≢ 1
    → segment ≡ get_or items whole segment → next ≡ get_or items segment.next next → next.start ≡ at → IsCut items items at segment.next
cut_at_next items whole at segment next list live more reads reads_next begins =
    let is = read_is items whole segment (live_length items whole list live) reads in
    let index : segment.next ≡ next_of items whole = ap (λ (segment : Segment). segment.next) is in
    let there : segment.next < length items = rw index (next_length items whole list live more) in
    let is_next = read_is items segment.next next there reads_next in
    cut_none items at segment.next list (subst (IsLive items) (sym index) (live_next items whole list live more).on) (sym (ap (λ (segment : Segment). segment.start) is_next) ∙ begins)

pub cut_at_start : (items : List Segment) (whole at : ℕ) (segment : Segment) → IsList items → IsLive items whole → segment ≡ get_or items whole segment → segment.start ≡ at → IsCut items items at whole
cut_at_start items whole at segment list live reads begins =
    let is = read_is items whole segment (live_length items whole list live) reads in
    cut_none items at whole list live (sym (ap (λ (segment : Segment). segment.start) is) ∙ begins)

pub next_there : (items : List Segment) (whole : ℕ) (segment : Segment) → IsList items → IsLive items whole → whole ≢ 1 → segment ≡ get_or items whole segment → segment.next < length items
next_there items whole segment list live more reads =
    let is = read_is items whole segment (live_length items whole list live) reads in
    let index : segment.next ≡ next_of items whole = ap (λ (segment : Segment). segment.next) is in
    rw index (next_length items whole list live more)

-- a push where there was room
pub pushed_is : {T E : Type 0} (r : Result T E) (new more old : List Segment) → IsOk r → new ≡ (if is_ok r then more else old) → new ≡ more
pushed_is (Ok done) new more old ok is = is
pushed_is (Err refused) new more old ok is = cc

split_is : (old : List Segment) (whole at : ℕ) (segment back : Segment) → whole < length old → back ≡ record { start = at; next = next_of old whole; claimed = (segment_at old whole).claimed }
    → segment ≡ record { start = start_of old whole; next = length old; claimed = (segment_at old whole).claimed }
    → IsSplit old (set (old ++ back ∷ []) whole segment) whole at (length old)
split_is old whole at segment back there is_back is_front =
    let long = length-append old (back ∷ []) in
    let apart : length old ≢ whole = λ is. omega arith in
    record {
      index = refl;
      more = length-set (old ++ back ∷ []) whole segment ∙ long;
      same = λ other within apart. get_or-set_other (old ++ back ∷ []) whole other segment nothing apart ∙ get_or_append_left old (back ∷ []) nothing other within;
      front = get_or-set_same (old ++ back ∷ []) whole segment nothing (omega arith) ∙ is_front;
      back = get_or-set_other (old ++ back ∷ []) whole (length old) segment nothing apart ∙ get_or-append_seam old back [] nothing ∙ is_back;
    }

pub cut_inside : (old pushed : List Segment) (whole at behind : ℕ) (segment next : Segment) → IsList old → IsLive old whole → whole ≢ 1
    → start_of old whole ≤ at → at ≤ start_of old (next_of old whole)
    → segment ≡ get_or old whole segment → next ≡ get_or old segment.next next → segment.start ≢ at → next.start ≢ at
    → behind ≡ length old → pushed ≡ old ++ (record { start = at; next = segment.next; claimed = segment.claimed }) ∷ []
    → IsCut old (set pushed whole (record { start = segment.start; next = behind; claimed = segment.claimed })) at behind
cut_inside old pushed whole at behind segment next list live more low high reads reads_next not_start not_next is_behind is_pushed =
    let there = live_length old whole list live in
    let is = read_is old whole segment there reads in
    let index : segment.next ≡ next_of old whole = ap (λ (segment : Segment). segment.next) is in
    let is_next = read_is old segment.next next (rw index (next_length old whole list live more)) reads_next in
    let start : segment.start ≡ start_of old whole = ap (λ (segment : Segment). segment.start) is in
    let end : next.start ≡ start_of old (next_of old whole) = ap (λ (segment : Segment). segment.start) is_next ∙ ap (start_of old) index in
    let back : Segment = record { start = at; next = segment.next; claimed = segment.claimed } in
    rw (is_pushed, is_behind)
    (cut_is old (set (old ++ back ∷ []) whole (record { start = segment.start; next = length old; claimed = segment.claimed })) whole at (length old) list live more (omega arith) (omega arith)
    (split_is old whole at (record { start = segment.start; next = length old; claimed = segment.claimed }) back there
    (ap (λ (segment : Segment). record { start = at; next = segment.next; claimed = segment.claimed }) is)
    (ap (λ (segment : Segment). record { start = segment.start; next = length old; claimed = segment.claimed }) is)))

-- ---- one claim

-- a byte is between two others, or before the first or behind the second
near : (from to at : ℕ) (b : Bool) → (nat_lt from at && nat_le at to) ≡ b → ((from < at) × (at ≤ to)) ⊎ ((at ≤ from) ⊎ (to < at))
near from to at true is = inl (grind (arith, nat_tests), grind (arith, nat_tests))
near from to at false is = inr (away (nat_lt from at) refl is)
  where
    away : (b : Bool) → nat_lt from at ≡ b → (b && nat_le at to) ≡ false → (at ≤ from) ⊎ (to < at)
    away true first rest = inr (grind (arith, nat_tests))
    away false first rest = inl (grind (arith, nat_tests))

not_held : (from to at : ℕ) → (at < from) ⊎ (to ≤ at) → (nat_le from at && nat_lt at to) ≡ false
not_held from to at away = elim away [ inl low ↦ before low | inr high ↦ behind high ]
  where
    before : at < from → (nat_le from at && nat_lt at to) ≡ false
    before low = grind (arith, nat_tests)

    behind : to ≤ at → (nat_le from at && nat_lt at to) ≡ false
    behind high = grind (arith, nat_tests)

pub record IsDone (old new : List Segment) (holder : ℕ) (span : Span) (label : Label) : Type 0 where
  pub list : IsSegList new holder
  pub claimed : IsClaimed old new span label

-- what a claim of the bytes from a start up to an end does
pub record IsMade (old new : List Segment) (start end : ℕ) (label : Label) : Type 0 where
  pub len : len_of new ≡ len_of old
  pub claimed : (byte : ℕ) → byte < len_of old
      → claimed_at new byte ≡ (if nat_le start byte && nat_lt byte end then once_more label (claimed_at old byte) else claimed_at old byte)

made : (old cut both raised new : List Segment) (holder first last start end : ℕ) (label : Label)
    → IsCut old cut start first → IsCut cut both end last → IsRaised both raised (start_of both first) end label → IsJoined raised new holder end → IsMade old new start end label
made old cut both raised new holder first last start end label one two up joined =
    let begins : start_of both first ≡ start = (two.kept first one.live).1 ∙ one.begins in
    let len_both : len_of both ≡ len_of old = two.len ∙ one.len in
    record {
      len = joined.starts 1 ∙ up.starts 1 ∙ len_both;
      claimed = λ byte within.
          joined.claimed byte
          ∙ subst (λ from. claimed_at raised byte ≡ (if nat_le from byte && nat_lt byte end then once_more label (claimed_at both byte) else claimed_at both byte)) begins (up.claimed byte (rw len_both within))
          ∙ ap (λ state. if nat_le start byte && nat_lt byte end then once_more label state else state) (two.claimed byte ∙ one.claimed byte);
    }

outside : (old new : List Segment) (start end : ℕ) (label : Label) (byte : ℕ) → IsMade old new start end label → byte < len_of old → (byte < start) ⊎ (end ≤ byte) → claimed_at new byte ≡ claimed_at old byte
outside old new start end label byte made within away = let is = not_held start end byte away in rw is at (made.claimed byte within)

-- where a segment of the new list begins outside the claim, one of the old list does, of the same index
pub record WasLive (old new : List Segment) (index : ℕ) : Type 0 where
  pub live : IsLive old index
  pub start : start_of new index ≡ start_of old index

was_live : (old cut both raised new : List Segment) (holder first last start end : ℕ) (label : Label) (index : ℕ)
    → IsCut old cut start first → IsCut cut both end last → IsRaised both raised (start_of both first) end label → IsJoined raised new holder end
    → IsLive new index → start_of new index ≢ start → start_of new index ≢ end → WasLive old new index
was_live old cut both raised new holder first last start end label index one two up joined on not_start not_end =
    let in_both : IsLive both index = subst (IsOn index 0) up.way (joined.only index on) in
    let start_both : start_of new index ≡ start_of both index = joined.starts index ∙ up.starts index in
    elim (two.only index in_both) [
      | inr there ↦ absurd (not_end (start_both ∙ there))
      | inl in_cut ↦
          let start_cut : start_of new index ≡ start_of cut index = start_both ∙ (two.kept index in_cut).1 in
          elim (one.only index in_cut) [
            | inr there ↦ absurd (not_start (start_cut ∙ there))
            | inl in_old ↦ record { live = in_old; start = start_cut ∙ (one.kept index in_old).1 }
          ]
    ]

pub claim_done : (old cut both raised new : List Segment) (from holder first last start end : ℕ) (span : Span) (label : Label)
    → span.start ≡ start → span.start + span.len ≡ end → start < end
    → IsSegList old from → IsHolder old (start - 1) holder → IsCut old cut start first → IsCut cut both end last
    → IsRaised both raised (start_of both first) end label → IsJoined raised new holder end → IsDone old new holder span label
claim_done old cut both raised new from holder first last start end span label is_start is_end some before held one two up joined =
    let all = made old cut both raised new holder first last start end label one two up joined in
    let low = held.begins in
    let start_holder : start_of new holder ≡ start_of old holder = joined.starts holder ∙ up.starts holder ∙ (two.kept holder (one.kept holder held.live).0).1 ∙ (one.kept holder held.live).1 in
    record {
      list = record {
        list = joined.list;
        page = let page = before.page in let len = all.len in omega arith;
        live = joined.live;
        before_end = held.before_end;
        apart = λ index on more positive equal.
            elim (near (start_of new holder) end (start_of new index) (nat_lt (start_of new holder) (start_of new index) && nat_le (start_of new index) end) refl) [
              | inl inner ↦ joined.apart index on more inner.0 inner.1 equal
              | inr outer ↦
                  let away : (start_of new index < start) ⊎ (end < start_of new index) = elim outer [ inl under ↦ inl (omega arith) | inr over ↦ inr over ] in
                  let not_start : start_of new index ≢ start = λ is. elim away [ inl under ↦ omega arith | inr over ↦ omega arith ] in
                  let not_end : start_of new index ≢ end = λ is. elim away [ inl under ↦ omega arith | inr over ↦ omega arith ] in
                  let was = was_live old cut both raised new holder first last start end label index one two up joined on not_start not_end in
                  let start_old = was.start in
                  let inside = within_page old index before.list was.live more in
                  let here = outside old new start end label (start_of new index) all (omega arith) (elim away [ inl under ↦ inl under | inr over ↦ inr (omega arith) ]) in
                  let there = outside old new start end label (start_of new index - 1) all (omega arith) (elim away [ inl under ↦ inl (omega arith) | inr over ↦ inr (omega arith) ]) in
                  before.apart index was.live more (omega arith)
                  (ap (λ byte. claimed_at old (byte - 1)) (sym start_old) ∙ sym there ∙ equal ∙ here ∙ ap (claimed_at old) start_old)
            ];
      };
      claimed = record { len = all.len; claimed = rw (is_end, is_start) all.claimed };
    }

took : (count : ℕ) (front back : List Segment) → length front ≡ count → take count (front ++ back) ≡ front
took count front back is = rw (← is) (take-append_seam front back)

-- the same, as the vector's bytes were lent twice
pub claim_finished : (old read cut both lent raised again new rest back : List Segment) (from holder first last before start end count : ℕ) (span : Span) (label : Label)
    → span.start ≡ start → span.start + span.len ≡ end → start < end
    → IsSegList old from → read ≡ old → before ≡ start - 1 → IsHolder read before holder → IsCut old cut start first → IsCut cut both end last
    → lent ≡ both → again ≡ take count (raised ++ rest) → length raised ≡ count → length new ≡ count
    → IsRaised lent raised (start_of lent first) end label → IsJoined again new holder end → IsDone old (take count (new ++ back)) holder span label
claim_finished old read cut both lent raised again new rest back from holder first last before start end count span label is_start is_end some list is_read is_before held one two is_lent is_again long_raised long_new up joined =
    let again_is : again ≡ raised = is_again ∙ took count raised rest long_raised in
    let held_old : IsHolder old (start - 1) holder = subst (λ (items : List Segment). IsHolder items (start - 1) holder) is_read (subst (λ (at : ℕ). IsHolder read at holder) is_before held) in
    let up_both : IsRaised both raised (start_of both first) end label = subst (λ (items : List Segment). IsRaised items raised (start_of items first) end label) is_lent up in
    let joined_raised : IsJoined raised new holder end = subst (λ (items : List Segment). IsJoined items new holder end) again_is joined in
    subst (λ (items : List Segment). IsDone old items holder span label) (sym (took count new back long_new))
    (claim_done old cut both raised new from holder first last start end span label is_start is_end some list held_old one two up_both joined_raised)
