-- What is claimed of each byte counts the claims that hold it.
use Rattle.std.proofs.Common.{◌≡◌, ℕ, ◌+◌, ◌<◌, ◌≤◌, inl, inr, Bool, true, false, ◌&&◌, nat_lt, nat_le, if◌then◌else◌, List, [], ◌∷◌, ◌++◌, length, refl, sym, ap, subst, ◌∙◌, arith}
use Rattle.std.specs.List.{filter}
use Rattle.std.proofs.lemmas.Bool.Decides.{nat_tests}
use Rattle.std.proofs.lemmas.List.Elements.{filter-append}
use Rattle.std.proofs.lemmas.List.FromFn.{length-map-range_with_len, get_or-map-range_with_len}
use Rattle.sx_base.specs.declared.label.Label.{Label}
use Rattle.sx_base.specs.declared.evidence.Span.{Span}
use Rattle.sx_seglist.specs.declared.claimed.Claimed.{Claimed}
use Rattle.sx_seglist.specs.declared.claimed.Claimed.TheVariants.{None}
use Rattle.sx_seglist.specs.declared.segment.Segment.{Segment}
use Rattle.sx_seglist.specs.Claims.{holds, tally, claimed_by, AreCounted, Counts, once_more}
use Rattle.sx_seglist.specs.Runs.{state_at}
use Rattle.sx_seglist.specs.Links.{len_of, start_of, Follow, IsOn, IsSegList, IsClaimed, claimed_from, claimed_at, states_of}
use Rattle.sx_seglist.proofs.Ways.{way_of_is, claimed_here}

-- ---- the states of a list

pub states_length : (items : List Segment) → length (states_of items) ≡ len_of items
unfolding states_of
states_length items = length-map-range_with_len (claimed_at items) 0 (len_of items)

pub states_read : (items : List Segment) (at : ℕ) → at < len_of items → state_at (states_of items) at ≡ claimed_at items at
unfolding states_of
states_read items at within = get_or-map-range_with_len (claimed_at items) 0 (len_of items) at at None within (omega arith)

-- ---- one claim more

tally_more : (claims : List (Span × Label)) (claim : Span × Label) → tally (claims ++ claim ∷ []) ≡ once_more claim.1 (tally claims)
tally_more [] claim = refl
tally_more (first ∷ []) claim = refl
tally_more (first ∷ second ∷ claims) claim = refl

filter_one : (test : Span × Label → Bool) (claim : Span × Label) (b : Bool) → test claim ≡ b → filter test (claim ∷ []) ≡ (if b then claim ∷ [] else [])
filter_one test claim true is = rw is refl
filter_one test claim false is = rw is refl

append_none : (claims : List (Span × Label)) → claims ++ [] ≡ claims
append_none [] = refl
append_none (claim ∷ claims) = ap (λ rest. claim ∷ rest) (append_none claims)

claimed_more : (claims : List (Span × Label)) (claim : Span × Label) (at : ℕ) (b : Bool) → holds at claim ≡ b
    → claimed_by (claims ++ claim ∷ []) at ≡ (if b then once_more claim.1 (claimed_by claims at) else claimed_by claims at)
unfolding claimed_by
claimed_more claims claim at true is =
    ap tally (filter-append (holds at) claims (claim ∷ []) ∙ ap (λ rest. filter (holds at) claims ++ rest) (filter_one (holds at) claim true is)) ∙ tally_more (filter (holds at) claims) claim
claimed_more claims claim at false is =
    ap tally (filter-append (holds at) claims (claim ∷ []) ∙ ap (λ rest. filter (holds at) claims ++ rest) (filter_one (holds at) claim false is) ∙ append_none (filter (holds at) claims))

pub counts_is : (old new : List Segment) (span : Span) (label : Label) → IsClaimed old new span label → Counts (states_of old) (states_of new) (span, label)
counts_is old new span label more =
    let long = states_length old in
    let long_new = states_length new in
    let len = more.len in
    record {
      len = long_new ∙ len ∙ sym long;
      counted = λ claims counted at within.
          let inside : at < len_of old = omega arith in
          let old_is : claimed_at old at ≡ claimed_by claims at = sym (states_read old at inside) ∙ counted at (omega arith) in
          states_read new at (omega arith) ∙ more.claimed at inside
          ∙ ap (λ state. if holds at (span, label) then once_more label state else state) old_is
          ∙ sym (claimed_more claims (span, label) at (holds at (span, label)) refl);
    }

-- a span without a byte
pub counts_none : (states : List Claimed) (span : Span) (label : Label) → span.len ≡ 0 → Counts states states (span, label)
counts_none states span label none = record {
  len = refl;
  counted = λ claims counted at within.
      let not_held : holds at (span, label) ≡ false = empty_span span.start span.len at none in
      counted at within ∙ sym (claimed_more claims (span, label) at false not_held);
}
  where
    empty_span : (start len at : ℕ) → len ≡ 0 → (nat_le start at && nat_lt at (start + len)) ≡ false
    empty_span start len at none = grind (arith, nat_tests)

-- ---- nothing is claimed

abbrev pub fresh_items : ℕ → List Segment
fresh_items len = record { start = 0; next = 1; claimed = None } ∷ record { start = len; next = 1; claimed = None } ∷ []

fresh_follow : (len : ℕ) → 1 ≤ len → Follow (fresh_items len) 0 (1 ∷ [])
fresh_follow len some = (omega arith, omega arith, refl, some, refl)

pub fresh_list : (len : ℕ) (items : List Segment) → items ≡ fresh_items len → 1 ≤ len → len ≤ 65536 → IsSegList items 0
fresh_list len items is some page = rw is (fresh_is len some page)
  where
    fresh_is : (len : ℕ) → 1 ≤ len → len ≤ 65536 → IsSegList (fresh_items len) 0
    fresh_is len some page =
        let way = way_of_is (fresh_items len) (1 ∷ []) (fresh_follow len some) in
        record {
          list = record { marked = omega arith; first = refl; follow = subst (Follow (fresh_items len) 0) (sym way) (fresh_follow len some) };
          page = page;
          live = subst (IsOn 0 0) (sym way) (inl refl);
          before_end = omega arith;
          apart = λ index on more positive same. elim (subst (IsOn index 0) way on) [
            | inl first ↦ absurd (let zero_start = ap (start_of (fresh_items len)) first in omega arith)
            | inr last ↦ absurd (more last)
          ];
        }

pub fresh_length : (len : ℕ) (items : List Segment) → items ≡ fresh_items len → length (states_of items) ≡ len
fresh_length len items is = states_length items ∙ ap len_of is

pub fresh_counted : (len : ℕ) (items : List Segment) → items ≡ fresh_items len → 1 ≤ len → AreCounted [] (states_of items)
unfolding claimed_at claimed_by
fresh_counted len items is some at within =
    let inside : at < len = let long = fresh_length len items is in omega arith in
    let long : len_of items ≡ len = ap len_of is in
    let way = way_of_is (fresh_items len) (1 ∷ []) (fresh_follow len some) in
    states_read items at (omega arith) ∙ ap (λ (items : List Segment). claimed_at items at) is
    ∙ ap (λ others. claimed_from (fresh_items len) 0 others at) way ∙ claimed_here (fresh_items len) 0 1 [] at inside

-- ---- what a claim asks and does, as the list's fields have it

pub within_is : (items new : List Segment) (end : ℕ) → new ≡ items → end ≤ length (states_of items) → end ≤ len_of new
within_is items new end is within = rw is (rw states_length at within)

pub counted_from : (items kept new : List Segment) (span : Span) (label : Label) → kept ≡ items → IsClaimed kept new span label → Counts (states_of items) (states_of new) (span, label)
counted_from items kept new span label is more = subst (λ (old : List Segment). Counts (states_of old) (states_of new) (span, label)) is (counts_is kept new span label more)
