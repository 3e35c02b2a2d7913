-- The things of a journal: its runs of records, one behind the other.
use Rattle.std.proofs.Common.{◌≡◌, ℕ, zero, suc, ◌+◌, ◌-◌, ◌*◌, ◌/◌, ◌%◌, ◌<◌, ◌≤◌, true, false, nat_le, List, [], ◌∷◌, ◌++◌, length, Option, None, Some, slice_get, slice_index_or, refl, sym, ap, ◌∙◌, arith, drop, length-drop, unwrap_or, length-append}
use Rattle.std.proofs.lemmas.List.{length-map}
use Rattle.std.proofs.lemmas.List.FromFn.{length-map-range_with_len}
use Rattle.std.specs.List.{range_with_len, flat_map}
use Rattle.std.proofs.lemmas.Bool.{leb-true, leb-false}
use Rattle.std.proofs.Math.Nat.{mul-le-mul_right}
use Rattle.std.proofs.lemmas.Nat.{div-add-mod'}
use Rattle.std.specs.List.Sorted.{IsPartitionPoint, IsNonDecreasingBy}
use Rattle.sx_journal.specs.Segments.{record_len}
use Rattle.sx_images.specs.declared.physical.Physical.{Physical}
use Rattle.sx_images.specs.declared.physical.Physical.TheVariants.{JournalHead, Pad, Loose}
use Rattle.sx_images.specs.declared.stretch.Stretch.{Stretch}
use Rattle.sx_images.specs.Images.{Table, pages_of}
use Rattle.sx_images.specs.Places.{Thing, thing, record_things, records_start, records_end, run_record, run_things, gap_things, runs_things, found, or_loose, place_among}
use Rattle.sx_images.specs.Read.{Follow, run_offsets, IsTable}
use Rattle.sx_images.specs.Search.{or_else, Heads, IsReached}
use Rattle.sx_images.proofs.Things.{Between, Rise, or_none, found-append, found_at, found_past, found_behind, rise_before, rise_append, between_append, between_widen, regular_past, regular_here, regular_between}
use Rattle.sx_images.proofs.Files.{record_rows}

-- ---- the search

lower : (least other : ℕ) (runs : List Stretch) → least ≤ other → Heads other runs → Heads least runs
lower least other [] order heads = tt
lower least other (run ∷ rest) order heads = (omega (arith, heads.0), heads.1)

-- runs that follow one another rise
pub follow_heads : (table : Table) (least first : ℕ) (runs : List Stretch) → Follow table least first runs → Heads least runs
follow_heads table least first [] follow = tt
follow_heads table least first (run ∷ rest) follow =
    (follow.0, lower run.head (records_end table run) rest (omega arith) (follow_heads table (records_end table run) (first + run.entries) rest follow.2))

pub heads_from : (least : ℕ) (runs : List Stretch) (k : ℕ) (d : Stretch) → Heads least runs → k < length runs → least ≤ (slice_index_or runs k d).head
heads_from least [] k d heads below = absurd (omega arith)
heads_from least (run ∷ rest) zero d heads below = heads.0
heads_from least (run ∷ rest) (suc k) d heads below =
    let later = heads_from run.head rest k d heads.1 (omega arith) in
    omega (arith, heads.0, later)

pub heads_ordered : (least : ℕ) (runs : List Stretch) → Heads least runs → IsNonDecreasingBy (λ run. run.head) runs
heads_ordered least [] heads i j d upto below = absurd (omega arith)
heads_ordered least (run ∷ rest) heads zero zero d upto below = omega arith
heads_ordered least (run ∷ rest) heads zero (suc j) d upto below = heads_from run.head rest j d heads.1 (omega arith)
heads_ordered least (run ∷ rest) heads (suc i) zero d upto below = absurd (omega arith)
heads_ordered least (run ∷ rest) heads (suc i) (suc j) d upto below = heads_ordered run.head rest heads.1 i j d (omega arith) (omega arith)

-- the search found how many of the runs are reached
pub is_reached : (offset : ℕ) (runs : List Stretch) (number : ℕ) → number ≤ length runs
    → IsPartitionPoint (λ run. nat_le run.head offset ≡ true) (λ run. nat_le run.head offset ≡ false) runs number → IsReached offset runs number
is_reached offset [] number within parted = omega arith
is_reached offset (run ∷ rest) zero within parted =
    let behind = parted.1 0 run (omega arith) (omega arith) in leb-false run.head offset behind
is_reached offset (run ∷ rest) (suc number) within parted = (
  leb-true run.head offset (parted.0 0 run (omega arith) (omega arith)),
  is_reached offset rest number (omega arith)
      (λ k d low high. parted.0 (suc k) d (omega arith) (omega arith), λ k d low high. parted.1 (suc k) d (omega arith) (omega arith)),
)

-- ---- one run

pub run_rows : (table : Table) (run : Stretch) (q : ℕ)
    → Between (records_start table run + q * record_len table.page_size) (records_start table run + q * record_len table.page_size + record_len table.page_size) (run_record table run q)
run_rows table run q =
    record_rows table.page_size (pages_of table + table.frames) (records_start table run + q * record_len table.page_size) (run.first + q)

pub gap_rise : (table : Table) (run : Stretch) (next : Option Stretch) → Rise (records_end table run) (gap_things table run next)
gap_rise table run None = tt
gap_rise table run (Some next) = (omega arith, tt)

-- a run without its header, and its records alone
abbrev pub run_records : Table → Stretch → List Thing
run_records table run = flat_map (run_record table run) (range_with_len 0 run.entries)

abbrev run_rest : Table → Stretch → List Thing
run_rest table run = thing (run.head + table.head_len) (table.sector - table.head_len) (λ _. Pad) ∷ run_records table run

pub run_head : (table : Table) (i : ℕ) (run : Stretch) (next : Option Stretch) (at : ℕ) → at < table.head_len
    → place_among (run_things table i run ++ gap_things table run next) (run.head + at) ≡ JournalHead i at
unfolding place_among
run_head table i run next at within =
    ap or_loose (found_at run.head table.head_len (JournalHead i) (run_rest table run ++ gap_things table run next) at (run.head + at) refl within)

pub run_pad : (table : Table) (i : ℕ) (run : Stretch) (next : Option Stretch) (at : ℕ) → table.head_len ≤ at → at < table.sector
    → place_among (run_things table i run ++ gap_things table run next) (run.head + at) ≡ Pad
unfolding place_among
run_pad table i run next at from within =
    ap or_loose (found_past run.head table.head_len (JournalHead i) (run_rest table run ++ gap_things table run next) (run.head + at) (omega arith)
    ∙ found_at (run.head + table.head_len) (table.sector - table.head_len) (λ _. Pad) (run_records table run ++ gap_things table run next) (at - table.head_len) (run.head + at) (omega arith) (omega arith))

pub behind_sector : (table : Table) (i : ℕ) (run : Stretch) (rest : List Thing) (at : ℕ) → table.head_len ≤ table.sector → table.sector ≤ at
    → found (run_things table i run ++ rest) (run.head + at) ≡ or_else (found (run_records table run) (run.head + at)) (found rest (run.head + at))
behind_sector table i run rest at order past =
    found_past run.head table.head_len (JournalHead i) (run_rest table run ++ rest) (run.head + at) (omega arith)
    ∙ found_past (run.head + table.head_len) (table.sector - table.head_len) (λ _. Pad) (run_records table run ++ rest) (run.head + at) (omega arith)
    ∙ found-append (run_records table run) rest (run.head + at)

pub in_row : (table : Table) (run : Stretch) (q b at : ℕ) → at ≡ table.sector + (q * record_len table.page_size + b) → b < record_len table.page_size → q < run.entries
    → found (flat_map (run_record table run) (range_with_len 0 run.entries)) (run.head + at) ≡ found (run_record table run q) (run.head + at)
in_row table run q b at is within below =
    regular_here (run_record table run) (records_start table run) (record_len table.page_size) run.entries q (run.head + at) (run_rows table run)
    (omega (arith, is)) (omega (arith, is)) below

row_before_end : (size q b entries : ℕ) → b < size → q < entries → q * size + b < entries * size
row_before_end size q b entries within below =
    let more : suc q * size ≤ entries * size = mul-le-mul_right size below in
    omega (arith, more)

pub run_here : (table : Table) (i : ℕ) (run : Stretch) (next : Option Stretch) (q b at : ℕ) → table.head_len ≤ table.sector
    → at ≡ table.sector + (q * record_len table.page_size + b) → b < record_len table.page_size → q < run.entries
    → place_among (run_record table run q) (run.head + at) ≡ place_among (run_things table i run ++ gap_things table run next) (run.head + at)
unfolding place_among
run_here table i run next q b at order is within below =
    let before = row_before_end (record_len table.page_size) q b run.entries within below in
    let none = rise_before (records_end table run) (gap_things table run next) (run.head + at) (gap_rise table run next) (omega (arith, is, before)) in
    sym (ap or_loose (behind_sector table i run (gap_things table run next) at order (omega (arith, is))
    ∙ ap (or_else (found (flat_map (run_record table run) (range_with_len 0 run.entries)) (run.head + at))) none
    ∙ or_none _
    ∙ in_row table run q b at is within below))

behind_records : (table : Table) (i : ℕ) (run : Stretch) (rest : List Thing) (q b at : ℕ) → table.head_len ≤ table.sector
    → at ≡ table.sector + (q * record_len table.page_size + b) → run.entries ≤ q
    → found (run_things table i run ++ rest) (run.head + at) ≡ found rest (run.head + at)
behind_records table i run rest q b at order is past =
    let none = regular_past (run_record table run) (records_start table run) (record_len table.page_size) run.entries q (run.head + at) (run_rows table run) (omega (arith, is)) past in
    behind_sector table i run rest at order (omega (arith, is)) ∙ ap (λ answer. or_else answer (found rest (run.head + at))) none

pub run_last : (table : Table) (i : ℕ) (run : Stretch) (q b at : ℕ) → table.head_len ≤ table.sector
    → at ≡ table.sector + (q * record_len table.page_size + b) → run.entries ≤ q
    → place_among (run_things table i run ++ gap_things table run None) (run.head + at) ≡ Loose
unfolding place_among
run_last table i run q b at order is past = ap or_loose (behind_records table i run [] q b at order is past)

pub run_gap : (table : Table) (i : ℕ) (run next : Stretch) (q b at : ℕ) → table.head_len ≤ table.sector
    → at ≡ table.sector + (q * record_len table.page_size + b) → run.entries ≤ q → run.head + at < next.head
    → place_among (run_things table i run ++ gap_things table run (Some next)) (run.head + at) ≡ Pad
unfolding place_among
run_gap table i run next q b at order is past before =
    let more : run.entries * record_len table.page_size ≤ q * record_len table.page_size = mul-le-mul_right (record_len table.page_size) past in
    ap or_loose (behind_records table i run (gap_things table run (Some next)) q b at order is past
    ∙ found_at (records_end table run) (next.head - records_end table run) (λ _. Pad) [] (run.head + at - records_end table run) (run.head + at) (omega (arith, is, more)) (omega (arith, is, more)))

-- the record that the code looks into
pub run_record_here : (table : Table) (i : ℕ) (run : Stretch) (next : Option Stretch) (q b at : ℕ) (result : Physical) → table.head_len ≤ table.sector
    → at ≡ table.sector + (q * record_len table.page_size + b) → b < record_len table.page_size → q < run.entries
    → (images : ℕ) → images ≡ pages_of table + table.frames
    → ((start place : ℕ) → place ≡ start + b → result ≡ place_among (record_things table.page_size images start (run.first + q)) place)
    → result ≡ place_among (run_things table i run ++ gap_things table run next) (run.head + at)
run_record_here table i run next q b at result order is within below images same shown =
    shown (records_start table run + q * record_len table.page_size) (run.head + at) (omega (arith, is))
    ∙ ap (λ n. place_among (record_things table.page_size n (records_start table run + q * record_len table.page_size) (run.first + q)) (run.head + at)) same
    ∙ run_here table i run next q b at order is within below

-- an offset behind the sector, by records
pub by_records : (at sector size : ℕ) → sector ≤ at → at ≡ sector + ((at - sector) / size * size + (at - sector) % size)
by_records at sector size past = let whole = div-add-mod' (at - sector) size in omega (arith, whole)

-- ---- all runs

pub run_between : (table : Table) (i : ℕ) (run : Stretch) → table.head_len ≤ table.sector → Between run.head (records_end table run) (run_things table i run)
run_between table i run order =
    let records = regular_between (run_record table run) (records_start table run) (record_len table.page_size) run.entries (run_rows table run) in
    (omega arith, (omega arith, between_widen (records_start table run) (records_end table run) (run.head + table.head_len + (table.sector - table.head_len)) (records_end table run) (run_records table run) records (omega arith) (omega arith)))

pub whole_between : (table : Table) (i : ℕ) (run next : Stretch) → table.head_len ≤ table.sector → records_end table run ≤ next.head
    → Between run.head next.head (run_things table i run ++ gap_things table run (Some next))
whole_between table i run next order apart =
    between_append run.head (records_end table run) next.head (run_things table i run) (gap_things table run (Some next)) (run_between table i run order)
    (omega arith, omega arith)

pub runs_rise : (table : Table) (i least first : ℕ) (runs : List Stretch) → table.head_len ≤ table.sector → Follow table least first runs
    → Rise least (runs_things table i runs)
runs_rise table i least first [] order follow = tt
runs_rise table i least first (run ∷ []) order follow =
    rise_append least (records_end table run) (run_things table i run ++ []) []
    (between_append least (records_end table run) (records_end table run) (run_things table i run) [] (between_widen run.head (records_end table run) least (records_end table run) (run_things table i run) (run_between table i run order) follow.0 (omega arith)) (omega arith)) tt
runs_rise table i least first (run ∷ next ∷ rest) order follow =
    let later = runs_rise table (i + 1) next.head (first + run.entries) (next ∷ rest) order (omega arith, follow.2.1, follow.2.2) in
    rise_append least next.head (run_things table i run ++ gap_things table run (Some next)) (runs_things table (i + 1) (next ∷ rest))
    (between_widen run.head next.head least next.head (run_things table i run ++ gap_things table run (Some next)) (whole_between table i run next order follow.2.0) follow.0 (omega arith)) later

pub none_reached : (table : Table) (i least first offset : ℕ) (runs : List Stretch) → table.head_len ≤ table.sector → Follow table least first runs
    → IsReached offset runs 0 → place_among (runs_things table i runs) offset ≡ Loose
unfolding place_among
none_reached table i least first offset [] order follow reached = refl
none_reached table i least first offset (run ∷ rest) order follow reached =
    ap or_loose (rise_before run.head (runs_things table i (run ∷ rest)) offset (runs_rise table i run.head first (run ∷ rest) order (omega arith, follow.1, follow.2)) reached)

some_same : (a b : Stretch) → Some a ≡ Some b → a ≡ b
some_same a b e = ap (λ o. unwrap_or o a) e

here_case : (table : Table) (i offset : ℕ) (head run : Stretch) (next : Option Stretch) (later : List Thing) → head ≡ run → found later offset ≡ None
    → found (run_things table i head ++ gap_things table head next ++ later) offset ≡ found (run_things table (i + 0) run ++ gap_things table run next) offset
here_case table i offset head run next later same none =
    let number : i ≡ i + 0 = omega arith in
    found-append (run_things table i head ++ gap_things table head next) later offset
    ∙ ap (or_else (found (run_things table i head ++ gap_things table head next) offset)) none
    ∙ or_none _
    ∙ ap (λ n. found (run_things table n head ++ gap_things table head next) offset) number
    ∙ ap (λ r. found (run_things table (i + 0) r ++ gap_things table r next) offset) same

-- the last run that is reached has the byte, or the gap behind it
pub last_reached : (table : Table) (i least first offset number : ℕ) (runs : List Stretch) (run : Stretch) → table.head_len ≤ table.sector → Follow table least first runs
    → IsReached offset runs (suc number) → slice_get runs number ≡ Some run
    → found (runs_things table i runs) offset ≡ found (run_things table (i + number) run ++ gap_things table run (slice_get runs (suc number))) offset
last_reached table i least first offset number [] run order follow reached is = absurd (omega arith)
last_reached table i least first offset zero (head ∷ []) run order follow reached is =
    here_case table i offset head run None [] (some_same head run is) refl
last_reached table i least first offset zero (head ∷ next ∷ rest) run order follow reached is =
    let later = runs_rise table (i + 1) next.head (first + head.entries) (next ∷ rest) order (omega arith, follow.2.1, follow.2.2) in
    here_case table i offset head run (Some next) (runs_things table (i + 1) (next ∷ rest)) (some_same head run is)
    (rise_before next.head (runs_things table (i + 1) (next ∷ rest)) offset later reached.1)
last_reached table i least first offset (suc number) (head ∷ []) run order follow reached is = absurd (omega (arith, reached.1))
last_reached table i least first offset (suc number) (head ∷ next ∷ rest) run order follow reached is =
    let none = found_behind head.head next.head (run_things table i head ++ gap_things table head (Some next)) offset (whole_between table i head next order follow.2.0) reached.1.0 in
    let later = last_reached table (i + 1) (records_end table head) (first + head.entries) offset number (next ∷ rest) run order follow.2 reached.1 is in
    let count : i + 1 + number ≡ i + suc number = omega arith in
    found-append (run_things table i head ++ gap_things table head (Some next)) (runs_things table (i + 1) (next ∷ rest)) offset
    ∙ ap (λ answer. or_else answer (found (runs_things table (i + 1) (next ∷ rest)) offset)) none
    ∙ later
    ∙ ap (λ n. found (run_things table n run ++ gap_things table run (slice_get (next ∷ rest) (suc number))) offset) count

none_some : (run : Stretch) → None ≡ Some run → ⊥
none_some run e = cc

length-flat_map-cons : (table : Table) (run : Stretch) (rest : List Stretch)
    → length (flat_map (run_offsets table) (run ∷ rest)) ≡ run.entries + length (flat_map (run_offsets table) rest)
length-flat_map-cons table run rest =
    length-append (run_offsets table run) (flat_map (run_offsets table) rest)
    ∙ ap (λ n. n + length (flat_map (run_offsets table) rest)) (length-map-range_with_len _ 0 run.entries)

-- what is known of a run that was reached, and of the one behind it
pub reached_head : (offset number : ℕ) (runs : List Stretch) (run : Stretch) → IsReached offset runs (suc number) → slice_get runs number ≡ Some run → run.head ≤ offset
reached_head offset number [] run reached is = absurd (omega arith)
reached_head offset zero (head ∷ rest) run reached is = let same = some_same head run is in rw (← same) reached.0
reached_head offset (suc number) (head ∷ rest) run reached is = reached_head offset number rest run reached.1 is

pub reached_next : (least offset number : ℕ) (runs : List Stretch) (next : Stretch) → Heads least runs → IsReached offset runs number → slice_get runs number ≡ Some next → offset < next.head
reached_next least offset number [] next heads reached is = absurd (none_some next is)
reached_next least offset zero (head ∷ rest) next heads reached is = let same = some_same head next is in rw (← same) reached
reached_next least offset (suc number) (head ∷ rest) next heads reached is = reached_next head.head offset number rest next heads.1 reached.1 is

-- the records of a run are among those of all runs
pub run_first : (table : Table) (least first number : ℕ) (runs : List Stretch) (run : Stretch) → Follow table least first runs → slice_get runs number ≡ Some run
    → run.first + run.entries ≤ first + length (flat_map (run_offsets table) runs)
run_first table least first number [] run follow is = absurd (none_some run is)
run_first table least first zero (head ∷ rest) run follow is =
    let same = some_same head run is in
    let long = length-flat_map-cons table head rest in
    rw (← same) (omega (arith, follow.1, long))
run_first table least first (suc number) (head ∷ rest) run follow is =
    let later = run_first table (records_end table head) (first + head.entries) number rest run follow.2 is in
    let long = length-flat_map-cons table head rest in
    omega (arith, later, long)

pub record_room : (table : Table) (number : ℕ) (run : Stretch) → IsTable table → slice_get table.stretches number ≡ Some run
    → table.frames + (run.first + run.entries) ≤ length table.stored
record_room table number run laid is =
    let below = run_first table 0 0 number table.stretches run laid.follow is in
    let offsets : length (drop table.frames table.stored) ≡ length (flat_map (run_offsets table) table.stretches) =
    sym (length-map (drop table.frames table.stored) (λ image. image.offset)) ∙ ap length laid.offsets in
    omega (arith, below, offsets, length-drop table.frames table.stored, laid.fewer)

-- the last run that is reached, by its place in the list
pub reached_run : (offset reached : ℕ) (runs : List Stretch) (run : Stretch) → 0 < reached → IsReached offset runs reached → slice_get runs (reached - 1) ≡ Some run → run.head ≤ offset
reached_run offset zero runs run some reached is = absurd (omega arith)
reached_run offset (suc number) runs run some reached is =
    let back : suc number - 1 ≡ number = omega arith in
    reached_head offset number runs run reached (ap (slice_get runs) (sym back) ∙ is)

pub journal_here : (table : Table) (runs : List Stretch) (run : Stretch) (reached offset : ℕ) (result : Physical) → IsTable table → runs ≡ table.stretches → 0 < reached
    → IsReached offset runs reached → slice_get runs (reached - 1) ≡ Some run
    → result ≡ place_among (run_things table (reached - 1) run ++ gap_things table run (slice_get runs reached)) (run.head + (offset - run.head))
    → result ≡ place_among (runs_things table 0 table.stretches) offset
unfolding place_among
journal_here table runs run zero offset result laid same some reached is shown = absurd (omega arith)
journal_here table runs run (suc number) offset result laid same some reached is shown =
    let back : suc number - 1 ≡ number = omega arith in
    let there : slice_get runs number ≡ Some run = ap (slice_get runs) (sym back) ∙ is in
    let head = reached_head offset number runs run reached there in
    let byte : run.head + (offset - run.head) ≡ offset = omega (arith, head) in
    let nth : suc number - 1 ≡ 0 + number = omega arith in
    let follow : Follow table 0 0 runs = rw same laid.follow in
    shown
    ∙ ap (λ at. or_loose (found (run_things table (suc number - 1) run ++ gap_things table run (slice_get runs (suc number))) at)) byte
    ∙ ap (λ n. or_loose (found (run_things table n run ++ gap_things table run (slice_get runs (suc number))) offset)) nth
    ∙ sym (ap or_loose (last_reached table 0 0 0 offset number runs run laid.sector follow reached there))
    ∙ ap (λ all. or_loose (found (runs_things table 0 all) offset)) same
