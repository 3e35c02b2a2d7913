-- What the walk over the headers of a live journal keeps.
use Rattle.std.proofs.Common.{◌≡◌, ℕ, ◌+◌, ◌-◌, ◌<◌, ◌≤◌, ◌^◌, List, [], ◌∷◌, ◌++◌, length, Option, Some, refl, sym, ap, ◌∙◌, arith, append_assoc, append-nil, length-append}
use Rattle.std.proofs.lemmas.Grind.{flat_map-append}
use Rattle.std.proofs.lemmas.List.Sums.{fold-append}
use Rattle.sx_journal.specs.declared.segment.Segment.{Segment}
use Rattle.sx_journal.specs.declared.entry.Entry.{Entry}
use Rattle.sx_journal.specs.Segments.{whole_records, records_behind, following, segment_at, segments_from, segments_of}
use Rattle.sx_journal.specs.Entries.{records_from, records_in, records_of}
use Rattle.sx_journal.specs.Grading.{with_record, with_records}
use Rattle.sx_journal.proofs.Gradings.{length-with_records, length-records_from}
use Rattle.sx_journal.proofs.Walks.{left, reached, IsHeld, held_next, reached_more, segments_next, behind_within, behind_few}

-- the segments and records before the next header were read
pub record IsWalked (bytes : List ℕ) (page_size sector : ℕ) (next : Option ℕ) (segments : List Segment) (entries : List Entry) : Type 0 where
  pub listed : segments ++ segments_from (left (length bytes) next) bytes page_size sector (length entries) next
      ≡ segments_of bytes page_size sector
  pub read : entries ≡ with_records bytes page_size [] (records_of page_size sector segments)
  pub held : IsHeld bytes next
  pub few_entries : length entries ≤ reached (length bytes) next
  pub few_segments : length segments ≤ reached (length bytes) next

pub walked_none : (bytes : List ℕ) (page_size sector : ℕ) (segments : List Segment) (entries : List Entry)
    → 28 ≤ length bytes → segments ≡ [] → entries ≡ [] → IsWalked bytes page_size sector (Some 0) segments entries
unfolding segments_of
walked_none bytes page_size sector segments entries held none empty =
    let whole : length bytes - 0 ≡ length bytes = omega arith in
    rw (none, empty) (record {
      listed = ap (λ most. segments_from most bytes page_size sector 0 (Some 0)) whole;
      read = refl;
      held = omega arith;
      few_entries = omega arith;
      few_segments = omega arith;
    })

-- the records of one segment more
records_more : (bytes : List ℕ) (page_size sector : ℕ) (segments : List Segment) (segment : Segment) (entries : List Entry)
    → entries ≡ with_records bytes page_size [] (records_of page_size sector segments)
    → with_records bytes page_size entries (records_in page_size sector segment)
    ≡ with_records bytes page_size [] (records_of page_size sector (segments ++ segment ∷ []))
records_more bytes page_size sector segments segment entries read =
    let item = records_in page_size sector in
    ap (λ before. with_records bytes page_size before (item segment)) read
    ∙ sym (fold-append (with_record bytes page_size) [] (records_of page_size sector segments) (item segment))
    ∙ ap (with_records bytes page_size [])
    (ap (λ last. records_of page_size sector segments ++ last) (sym (append-nil (item segment)))
    ∙ sym (flat_map-append item segments (segment ∷ [])))

pub walked_more : (bytes : List ℕ) (page_size sector header : ℕ) (segments more : List Segment) (segment : Segment) (entries next : List Entry)
    → 0 < sector → IsWalked bytes page_size sector (Some header) segments entries
    → segment ≡ segment_at bytes page_size sector header (length entries)
    → next ≡ with_records bytes page_size entries (records_from page_size (header + sector) segment.nonce segment.entries)
    → more ≡ segments ++ segment ∷ []
    → IsWalked bytes page_size sector (following bytes page_size sector header) more next
unfolding segment_at
walked_more bytes page_size sector header segments more segment entries next some walked is read added =
    let at_header : segment.offset ≡ header = ap (λ s. s.offset) is in
    let behind : segment.entries ≡ records_behind bytes page_size sector header = ap (λ s. s.entries) is in
    let records : next ≡ with_records bytes page_size entries (records_in page_size sector segment)
    = read ∙ ap (λ place. with_records bytes page_size entries (records_from page_size (place + sector) segment.nonce segment.entries)) (sym at_header) in
    let many : length next ≡ length entries + records_behind bytes page_size sector header
    = ap length read
    ∙ length-with_records bytes page_size entries _
    ∙ ap (λ n. length entries + n) (length-records_from page_size (header + sector) segment.nonce segment.entries ∙ behind) in
    let further = reached_more bytes page_size sector header some walked.held in
    record {
      listed =
          ap (λ front. front ++ segments_from (left (length bytes) (following bytes page_size sector header)) bytes page_size sector (length next) (following bytes page_size sector header)) added
          ∙ append_assoc segments (segment ∷ []) _
          ∙ ap (λ first. segments ++ (segment ∷ segments_from (left (length bytes) (following bytes page_size sector header)) bytes page_size sector first (following bytes page_size sector header))) many
          ∙ ap (λ one. segments ++ (one ∷ segments_from (left (length bytes) (following bytes page_size sector header)) bytes page_size sector (length entries + records_behind bytes page_size sector header) (following bytes page_size sector header))) is
          ∙ ap (λ rest. segments ++ rest) (sym (segments_next bytes page_size sector (length entries) header some walked.held))
          ∙ walked.listed;
      read = records ∙ records_more bytes page_size sector segments segment entries walked.read
          ∙ ap (λ all. with_records bytes page_size [] (records_of page_size sector all)) (sym added);
      held = held_next bytes page_size sector header;
      few_entries = omega (arith, many, walked.few_entries, further);
      few_segments = omega (arith, ap length added, length-append segments (segment ∷ []), walked.few_segments, further);
    }

-- the records of a segment are there, and there is room for them
pub behind_there : (bytes : List ℕ) (page_size sector header first : ℕ) (segment : Segment)
    → segment ≡ segment_at bytes page_size sector header first → segment.entries ≤ whole_records bytes page_size (header + sector)
unfolding segment_at
behind_there bytes page_size sector header first segment is =
    let behind : segment.entries ≡ records_behind bytes page_size sector header = ap (λ s. s.entries) is in
    rw behind (behind_within bytes page_size sector header)

pub behind_room : (bytes : List ℕ) (page_size sector header first : ℕ) (segment : Segment)
    → segment ≡ segment_at bytes page_size sector header first → length bytes < 2 ^ 32 → header + 28 ≤ length bytes → first ≤ header
    → first + segment.entries < 2 ^ 32
unfolding segment_at
behind_room bytes page_size sector header first segment is small held few =
    let behind : segment.entries ≡ records_behind bytes page_size sector header = ap (λ s. s.entries) is in
    omega (arith, behind, behind_few bytes page_size sector header)
