-- The readings determine the segments: exactly one list is that of the segments from a header on.
use Rattle.std.proofs.Common.{◌≡◌, ℕ, zero, suc, ◌+◌, ◌-◌, ◌<◌, ◌≤◌, ◌↔◌, List, [], ◌∷◌, length, Option, Some, None, refl, sym, ap, ◌∙◌, arith}
use Rattle.sx_journal.specs.declared.segment.Segment.{Segment}
use Rattle.sx_journal.specs.Segments.{records_behind, following, segment_at, AreSegments, segments_from, segments_of}
use Rattle.sx_journal.proofs.Walks.{left, IsHeld, held_next, left_falls, segments_next}

-- the list that was computed is one
are_segments : (bytes : List ℕ) (page_size sector : ℕ) → 0 < sector → (most first : ℕ) (next : Option ℕ) → IsHeld bytes next
    → left (length bytes) next ≤ most → AreSegments bytes page_size sector first next (segments_from most bytes page_size sector first next)
unfolding segment_at
are_segments bytes page_size sector some zero first None held enough = refl
are_segments bytes page_size sector some (suc most) first None held enough = refl
are_segments bytes page_size sector some zero first (Some header) held enough = absurd (omega arith)
are_segments bytes page_size sector some (suc most) first (Some header) held enough =
    let falls = left_falls bytes page_size sector header some held in (
      refl,
      refl,
      are_segments bytes page_size sector some most (first + records_behind bytes page_size sector header)
          (following bytes page_size sector header) (held_next bytes page_size sector header) (omega arith),
    )

-- one list more, with its first segment
one_list_case : (bytes : List ℕ) (page_size sector first : ℕ) (segment : Segment) (rest : List Segment)
    → 0 < sector → segment.offset + 28 ≤ length bytes
    → segment ≡ segment_at bytes page_size sector segment.offset first
    → rest ≡ segments_from (left (length bytes) (following bytes page_size sector segment.offset)) bytes page_size sector
    (first + segment.entries) (following bytes page_size sector segment.offset)
    → segment ∷ rest ≡ segments_from (length bytes - segment.offset) bytes page_size sector first (Some segment.offset)
unfolding segment_at
one_list_case bytes page_size sector first segment rest some held is others =
    let behind : segment.entries ≡ records_behind bytes page_size sector segment.offset = ap (λ s. s.entries) is in
    let further = following bytes page_size sector segment.offset in
    ap (λ tail. segment ∷ tail) others
    ∙ ap (λ many. segment ∷ segments_from (left (length bytes) further) bytes page_size sector (first + many) further) behind
    ∙ ap (λ one. one ∷ segments_from (left (length bytes) further) bytes page_size sector
    (first + records_behind bytes page_size sector segment.offset) further) is
    ∙ sym (segments_next bytes page_size sector first segment.offset some held)

-- and no other is
one_list : (bytes : List ℕ) (page_size sector : ℕ) → 0 < sector → (segments : List Segment) (first : ℕ) (next : Option ℕ)
    → IsHeld bytes next → AreSegments bytes page_size sector first next segments
    → segments ≡ segments_from (left (length bytes) next) bytes page_size sector first next
one_list bytes page_size sector some [] first next held none = rw none refl
one_list bytes page_size sector some (segment ∷ rest) first next held are =
    let here : segment.offset + 28 ≤ length bytes = rw are.0 at held in
    let others = one_list bytes page_size sector some rest (first + segment.entries) (following bytes page_size sector segment.offset)
    (held_next bytes page_size sector segment.offset) are.2 in
    rw are.0 (one_list_case bytes page_size sector first segment rest some here are.1 others)

pub readings : (bytes : List ℕ) (page_size sector : ℕ) (segments : List Segment) → 0 < sector → 28 ≤ length bytes
    → AreSegments bytes page_size sector 0 (Some 0) segments ↔ (segments ≡ segments_of bytes page_size sector)
unfolding segments_of
readings bytes page_size sector segments some held =
    let whole : length bytes - 0 ≡ length bytes = omega arith in
    let first : IsHeld bytes (Some 0) = omega arith in (
      λ are. one_list bytes page_size sector some segments 0 (Some 0) first are
          ∙ ap (λ most. segments_from most bytes page_size sector 0 (Some 0)) whole,
      λ is. rw is (are_segments bytes page_size sector some (length bytes) 0 (Some 0) first (omega arith)),
    )
