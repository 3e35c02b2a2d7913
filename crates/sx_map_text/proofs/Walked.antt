-- The lines of stretches, one after the other.
use Rattle.std.proofs.Common.{◌≡◌, ℕ, ◌+◌, ◌*◌, ◌<◌, ◌≤◌, ◌^◌, true, List, [], ◌∷◌, ◌++◌, length, Option, ap, sym, subst, ◌∙◌, arith}
use Rattle.std.specs.List.{flat_map}
use Rattle.std.proofs.lemmas.List.{append_assoc}
use Rattle.std.proofs.lemmas.List.Concat.{flat_map-cons}
use Rattle.sx_base.specs.Labels.{is_owning, is_slack, is_fault}
use Rattle.sx_base.specs.Maps.{lock_page_of}
use Rattle.sx_base.specs.declared.label.Label.{Label}
use Rattle.sx_base.specs.declared.layout.Layout.{Layout}
use Rattle.sx_closure.specs.Graph.{Graph, dead_links}
use Rattle.sx_lines.specs.Lines.{ended, IsNextLine}
use Rattle.sx_prov.specs.Labels.{labels_of}
use Rattle.sx_prov.specs.Stretches.{stretches_of}
use Rattle.sx_prov.specs.Sums.{bytes_of}
use Rattle.sx_prov.specs.declared.stretch.Stretch.{Stretch}
use Rattle.sx_map_text.specs.Map.{map_lines, stretch_lines, totals_line, totals_of}
use Rattle.sx_map_text.specs.Rest.{lines_along, map_from, page_rest, stretches_bytes, totals_with, with_begun, with_bytes, AreBytesOf, HasRoom, IsBegun}
use Rattle.sx_map_text.specs.declared.map_lines.Begun.{Begun}
use Rattle.sx_map_text.specs.declared.summing.StretchBytes.{StretchBytes}
use Rattle.sx_map_text.specs.declared.map_lines.MapLine.{MapLine}
use Rattle.sx_map_text.specs.declared.map_lines.MapLine.TheVariants as map_line
use Rattle.sx_map_text.specs.declared.totals.MapTotals.{MapTotals}
use Rattle.sx_map_text.proofs.Sums.{bytes_more, all_bytes, most_bytes}

abbrev pub totals_at : ℕ → ℕ → ℕ → ℕ → ℕ → MapTotals
totals_at bytes owned slack fault dead = record { bytes = bytes; owned = owned; slack = slack; fault = fault; dead = dead }

same_totals : (bytes owned slack fault dead owned_too slack_too fault_too : ℕ) → owned ≡ owned_too → slack ≡ slack_too → fault ≡ fault_too
    → totals_at bytes owned slack fault dead ≡ totals_at bytes owned_too slack_too fault_too dead
same_totals bytes owned slack fault dead owned_too slack_too fault_too one two three =
    ap (λ n. totals_at bytes n slack fault dead) one ∙ ap (λ n. totals_at bytes owned_too n fault dead) two ∙ ap (λ n. totals_at bytes owned_too slack_too n dead) three

-- the totals with a stretch and with those behind it
totals_more : (labels : ℕ → List Label) (page_size : ℕ) (totals : MapTotals) (stretch : Stretch) (stretches : List Stretch) (begun : Begun) (line : List ℕ)
    → IsBegun labels page_size stretch begun line
    → totals_with labels page_size totals (stretch ∷ stretches) ≡ totals_with labels page_size (with_begun totals begun) stretches
totals_more labels page_size totals stretch stretches begun line is =
    let owned = bytes_more is_owning labels page_size stretch stretches in
    let slack = bytes_more is_slack labels page_size stretch stretches in
    let fault = bytes_more is_fault labels page_size stretch stretches in
    let owned_is = is.owned in
    let slack_is = is.slack in
    let fault_is = is.fault in
    same_totals totals.bytes (totals.owned + stretches_bytes is_owning labels page_size (stretch ∷ stretches)) (totals.slack + stretches_bytes is_slack labels page_size (stretch ∷ stretches))
    (totals.fault + stretches_bytes is_fault labels page_size (stretch ∷ stretches)) totals.dead
    (totals.owned + begun.owned + stretches_bytes is_owning labels page_size stretches) (totals.slack + begun.slack + stretches_bytes is_slack labels page_size stretches)
    (totals.fault + begun.fault + stretches_bytes is_fault labels page_size stretches)
    (omega (arith, owned, owned_is)) (omega (arith, slack, slack_is)) (omega (arith, fault, fault_is))

-- a stretch was begun
pub stretch_next : (labels : ℕ → List Label) (page_size : ℕ) (totals : MapTotals) (stretch : Stretch) (old stretches : List Stretch) (begun : Begun) (line : List ℕ)
    → old ≡ stretch ∷ stretches → IsBegun labels page_size stretch begun line
    → IsNextLine (lines_along labels page_size totals old) (page_rest begun.lines ++ lines_along labels page_size (with_begun totals begun) stretches) line true
unfolding lines_along
stretch_next labels page_size totals stretch old stretches begun line first is =
    let last = totals_line (totals_with labels page_size totals (stretch ∷ stretches)) ∷ [] in
    let more = flat_map (stretch_lines labels) stretches in (
      is.first,
      ap (lines_along labels page_size totals) first
          ∙ ap (λ lines. lines ++ last) (flat_map-cons (stretch_lines labels) stretch stretches)
          ∙ append_assoc (stretch_lines labels stretch) more last
          ∙ ap (λ lines. lines ++ (more ++ last)) is.lines
          ∙ ap (λ total. is.first ∷ (page_rest begun.lines ++ (more ++ totals_line total ∷ []))) (totals_more labels page_size totals stretch stretches begun line is),
      is.put,
    )

-- the totals were put
pub totals_next : (labels : ℕ → List Label) (page_size : ℕ) (totals : MapTotals) (old : List Stretch) (line : List ℕ) → old ≡ [] → line ≡ ended (totals_line totals)
    → IsNextLine (lines_along labels page_size totals old) [] line true
unfolding lines_along stretches_bytes
totals_next labels page_size totals old line none put = (
  totals_line totals,
  ap (lines_along labels page_size totals) none
      ∙ ap (λ total. totals_line total ∷ []) (same_totals totals.bytes (totals.owned + stretches_bytes is_owning labels page_size []) (totals.slack + stretches_bytes is_slack labels page_size [])
      (totals.fault + stretches_bytes is_fault labels page_size []) totals.dead totals.owned totals.slack totals.fault (omega arith) (omega arith) (omega arith)),
  put,
)

-- the page that was begun has no more lines
begun_done : (begun more now : List (List ℕ)) (line : List ℕ) → begun ≡ [] → IsNextLine more now line true → IsNextLine (begun ++ more) now line true
begun_done begun more now line none is = (is.0, ap (λ lines. lines ++ more) none ∙ is.1, is.2)

pub pages_step : (next : MapLine) (begun rest whole : List (List ℕ)) (labels : ℕ → List Label) (page_size : ℕ) (totals now : MapTotals) (old stretches : List Stretch) (line : List ℕ)
    → next ≡ map_line.Pages → map_from next begun labels page_size totals old ≡ whole → begun ≡ []
    → IsNextLine (lines_along labels page_size totals old) (rest ++ lines_along labels page_size now stretches) line true
    → IsNextLine whole (map_from next rest labels page_size now stretches) line true
pages_step next begun rest whole labels page_size totals now old stretches line is all none step =
    let start = rw is at all in
    rw is
    (subst (λ lines. IsNextLine lines (rest ++ lines_along labels page_size now stretches) line true) start
    (begun_done begun (lines_along labels page_size totals old) (rest ++ lines_along labels page_size now stretches) line none step))

pub end_step : (next : MapLine) (begun whole : List (List ℕ)) (labels : ℕ → List Label) (page_size : ℕ) (totals : MapTotals) (old : List Stretch) (line : List ℕ)
    → next ≡ map_line.Pages → map_from next begun labels page_size totals old ≡ whole → begun ≡ []
    → IsNextLine (lines_along labels page_size totals old) [] line true → IsNextLine whole [] line true
end_step next begun whole labels page_size totals old line is all none step =
    let start = rw is at all in
    subst (λ lines. IsNextLine lines [] line true) start (begun_done begun (lines_along labels page_size totals old) [] line none step)

-- ---- sums stay within 64 bits

pub room_behind : (labels : ℕ → List Label) (page_size : ℕ) (totals : MapTotals) (stretch : Stretch) (old stretches : List Stretch) → old ≡ stretch ∷ stretches
    → HasRoom labels page_size totals old → HasRoom labels page_size totals stretches
room_behind labels page_size totals stretch old stretches first room =
    let room = subst (HasRoom labels page_size totals) first room in
    let owned = bytes_more is_owning labels page_size stretch stretches in
    let slack = bytes_more is_slack labels page_size stretch stretches in
    let fault = bytes_more is_fault labels page_size stretch stretches in
    let o = room.owned in
    let s = room.slack in
    let f = room.fault in
    record { owned = omega (arith, owned, o); slack = omega (arith, slack, s); fault = omega (arith, fault, f) }

-- with a stretch that was begun
pub room_begun : (labels : ℕ → List Label) (page_size : ℕ) (totals : MapTotals) (stretch : Stretch) (old stretches : List Stretch) (begun : Begun) (line : List ℕ)
    → old ≡ stretch ∷ stretches → IsBegun labels page_size stretch begun line → HasRoom labels page_size totals old → HasRoom labels page_size (with_begun totals begun) stretches
room_begun labels page_size totals stretch old stretches begun line first is room =
    let room = subst (HasRoom labels page_size totals) first room in
    let owned = bytes_more is_owning labels page_size stretch stretches in
    let slack = bytes_more is_slack labels page_size stretch stretches in
    let fault = bytes_more is_fault labels page_size stretch stretches in
    let owned_is = is.owned in
    let slack_is = is.slack in
    let fault_is = is.fault in
    let o = room.owned in
    let s = room.slack in
    let f = room.fault in
    record { owned = omega (arith, owned, o, owned_is); slack = omega (arith, slack, s, slack_is); fault = omega (arith, fault, f, fault_is) }

-- its bytes can be added
pub begun_fits : (labels : ℕ → List Label) (page_size : ℕ) (totals : MapTotals) (stretch : Stretch) (old stretches : List Stretch) (begun : Begun) (line : List ℕ)
    → old ≡ stretch ∷ stretches → IsBegun labels page_size stretch begun line → HasRoom labels page_size totals old
    → (totals.owned + begun.owned < 2 ^ 64) × (totals.slack + begun.slack < 2 ^ 64) × (totals.fault + begun.fault < 2 ^ 64)
begun_fits labels page_size totals stretch old stretches begun line first is room =
    let after = room_begun labels page_size totals stretch old stretches begun line first is room in
    let o = after.owned in
    let s = after.slack in
    let f = after.fault in
    (omega (arith, o), omega (arith, s), omega (arith, f))

-- ---- all lines

few_bytes : (size page_size : ℕ) → size < 2 ^ 32 → page_size ≤ 65536 → size * page_size < 2 ^ 64
few_bytes size page_size few small = grind arith

few_of : (bytes size page_size : ℕ) → size < 2 ^ 32 → page_size ≤ 65536 → bytes ≤ size * page_size → 0 + bytes < 2 ^ 64
few_of bytes size page_size few small most = let all = few_bytes size page_size few small in omega (arith, all, most)

pub room_first : (graph : Graph) (layout : Layout) (view : ℕ → Option (List ℕ)) (size bytes dead : ℕ) → size < 2 ^ 32 → layout.page_size ≤ 65536
    → HasRoom (labels_of graph layout view) layout.page_size (totals_at bytes 0 0 0 dead) (stretches_of (lock_page_of layout.page_size) view size)
room_first graph layout view size bytes dead few small =
    let owned = all_bytes is_owning graph layout view size in
    let slack = all_bytes is_slack graph layout view size in
    let fault = all_bytes is_fault graph layout view size in
    let o = few_of (bytes_of is_owning graph layout view size) size layout.page_size few small (most_bytes is_owning graph layout view size) in
    let s = few_of (bytes_of is_slack graph layout view size) size layout.page_size few small (most_bytes is_slack graph layout view size) in
    let f = few_of (bytes_of is_fault graph layout view size) size layout.page_size few small (most_bytes is_fault graph layout view size) in
    record { owned = omega (arith, owned, o); slack = omega (arith, slack, s); fault = omega (arith, fault, f) }

pub lines_all : (graph : Graph) (layout : Layout) (view : ℕ → Option (List ℕ)) (size dead : ℕ) → dead ≡ length (dead_links graph)
    → lines_along (labels_of graph layout view) layout.page_size (totals_at (size * layout.page_size) 0 0 0 dead) (stretches_of (lock_page_of layout.page_size) view size)
    ≡ map_lines graph layout view size
unfolding lines_along
lines_all graph layout view size dead is =
    let labels = labels_of graph layout view in
    let stretches = stretches_of (lock_page_of layout.page_size) view size in
    let owned = all_bytes is_owning graph layout view size in
    let slack = all_bytes is_slack graph layout view size in
    let fault = all_bytes is_fault graph layout view size in
    ap (λ total. flat_map (stretch_lines labels) stretches ++ totals_line total ∷ [])
    (same_totals (size * layout.page_size) (0 + stretches_bytes is_owning labels layout.page_size stretches) (0 + stretches_bytes is_slack labels layout.page_size stretches)
    (0 + stretches_bytes is_fault labels layout.page_size stretches) dead (bytes_of is_owning graph layout view size) (bytes_of is_slack graph layout view size) (bytes_of is_fault graph layout view size)
    (omega (arith, owned)) (omega (arith, slack)) (omega (arith, fault))
    ∙ ap (λ n. totals_at (size * layout.page_size) (bytes_of is_owning graph layout view size) (bytes_of is_slack graph layout view size) (bytes_of is_fault graph layout view size) n) is)

-- ---- the totals without lines

-- totals with the stretches to come are those of all, and there is room for them
pub record IsSumming (labels : ℕ → List Label) (page_size : ℕ) (whole totals : MapTotals) (stretches : List Stretch) : Type 0 where
  pub sum : totals_with labels page_size totals stretches ≡ whole
  pub room : HasRoom labels page_size totals stretches

-- a stretch was added
pub summing_more : (labels : ℕ → List Label) (page_size : ℕ) (whole totals : MapTotals) (stretch : Stretch) (old stretches : List Stretch) (bytes : StretchBytes)
    → old ≡ stretch ∷ stretches → AreBytesOf labels page_size stretch bytes → IsSumming labels page_size whole totals old
    → IsSumming labels page_size whole (with_bytes totals bytes) stretches
summing_more labels page_size whole totals stretch old stretches bytes first is summing =
    let summing = subst (IsSumming labels page_size whole totals) first summing in
    let owned = bytes_more is_owning labels page_size stretch stretches in
    let slack = bytes_more is_slack labels page_size stretch stretches in
    let fault = bytes_more is_fault labels page_size stretch stretches in
    let owned_is = is.owned in
    let slack_is = is.slack in
    let fault_is = is.fault in
    let o = summing.room.owned in
    let s = summing.room.slack in
    let f = summing.room.fault in
    record {
      sum = same_totals totals.bytes (totals.owned + bytes.owned + stretches_bytes is_owning labels page_size stretches) (totals.slack + bytes.slack + stretches_bytes is_slack labels page_size stretches)
          (totals.fault + bytes.fault + stretches_bytes is_fault labels page_size stretches) totals.dead
          (totals.owned + stretches_bytes is_owning labels page_size (stretch ∷ stretches)) (totals.slack + stretches_bytes is_slack labels page_size (stretch ∷ stretches))
          (totals.fault + stretches_bytes is_fault labels page_size (stretch ∷ stretches))
          (omega (arith, owned, owned_is)) (omega (arith, slack, slack_is)) (omega (arith, fault, fault_is))
          ∙ summing.sum;
      room = record { owned = omega (arith, owned, o, owned_is); slack = omega (arith, slack, s, slack_is); fault = omega (arith, fault, f, fault_is) };
    }

-- its bytes can be added
pub summing_fits : (labels : ℕ → List Label) (page_size : ℕ) (whole totals : MapTotals) (stretch : Stretch) (old stretches : List Stretch) (bytes : StretchBytes)
    → old ≡ stretch ∷ stretches → AreBytesOf labels page_size stretch bytes → IsSumming labels page_size whole totals old
    → (totals.owned + bytes.owned < 2 ^ 64) × (totals.slack + bytes.slack < 2 ^ 64) × (totals.fault + bytes.fault < 2 ^ 64)
summing_fits labels page_size whole totals stretch old stretches bytes first is summing =
    let after = summing_more labels page_size whole totals stretch old stretches bytes first is summing in
    let o = after.room.owned in
    let s = after.room.slack in
    let f = after.room.fault in
    (omega (arith, o), omega (arith, s), omega (arith, f))

-- none is left
pub summing_end : (labels : ℕ → List Label) (page_size : ℕ) (whole totals : MapTotals) (stretches : List Stretch) → stretches ≡ [] → IsSumming labels page_size whole totals stretches → totals ≡ whole
unfolding stretches_bytes
summing_end labels page_size whole totals stretches none summing =
    let summing = subst (IsSumming labels page_size whole totals) none summing in
    same_totals totals.bytes totals.owned totals.slack totals.fault totals.dead (totals.owned + stretches_bytes is_owning labels page_size []) (totals.slack + stretches_bytes is_slack labels page_size [])
    (totals.fault + stretches_bytes is_fault labels page_size []) (omega arith) (omega arith) (omega arith)
    ∙ summing.sum

-- all are to come
pub summing_first : (graph : Graph) (layout : Layout) (view : ℕ → Option (List ℕ)) (size dead : ℕ) → size < 2 ^ 32 → layout.page_size ≤ 65536 → dead ≡ length (dead_links graph)
    → IsSumming (labels_of graph layout view) layout.page_size (totals_of graph layout view size) (totals_at (size * layout.page_size) 0 0 0 dead) (stretches_of (lock_page_of layout.page_size) view size)
summing_first graph layout view size dead few small is =
    let labels = labels_of graph layout view in
    let stretches = stretches_of (lock_page_of layout.page_size) view size in
    let owned = all_bytes is_owning graph layout view size in
    let slack = all_bytes is_slack graph layout view size in
    let fault = all_bytes is_fault graph layout view size in
    record {
      sum = same_totals (size * layout.page_size) (0 + stretches_bytes is_owning labels layout.page_size stretches) (0 + stretches_bytes is_slack labels layout.page_size stretches)
          (0 + stretches_bytes is_fault labels layout.page_size stretches) dead (bytes_of is_owning graph layout view size) (bytes_of is_slack graph layout view size) (bytes_of is_fault graph layout view size)
          (omega (arith, owned)) (omega (arith, slack)) (omega (arith, fault))
          ∙ ap (λ n. totals_at (size * layout.page_size) (bytes_of is_owning graph layout view size) (bytes_of is_slack graph layout view size) (bytes_of is_fault graph layout view size) n) is;
      room = room_first graph layout view size (size * layout.page_size) dead few small;
    }

pub summing_start : (graph : Graph) (layout : Layout) (view : ℕ → Option (List ℕ)) (size dead bytes : ℕ) (stretches : List Stretch) → size < 2 ^ 32 → layout.page_size ≤ 65536
    → dead ≡ length (dead_links graph) → bytes ≡ size * layout.page_size → stretches ≡ stretches_of (lock_page_of layout.page_size) view size
    → IsSumming (labels_of graph layout view) layout.page_size (totals_of graph layout view size) (totals_at bytes 0 0 0 dead) stretches
summing_start graph layout view size dead bytes stretches few small is all start =
    let whole = totals_of graph layout view size in
    let labels = labels_of graph layout view in
    subst (λ n. IsSumming labels layout.page_size whole (totals_at n 0 0 0 dead) stretches) (sym all)
    (subst (IsSumming labels layout.page_size whole (totals_at (size * layout.page_size) 0 0 0 dead)) (sym start) (summing_first graph layout view size dead few small is))
