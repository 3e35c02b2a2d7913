-- The images among the things of the files.
use Rattle.std.proofs.Common.{◌≡◌, ◌↔◌, ℕ, zero, suc, ◌+◌, ◌-◌, ◌*◌, ◌<◌, ◌≤◌, Bool, true, false, cond, ◌==◌, eqb-true, eq-eqb, nat_le, nat_lt, List, [], ◌∷◌, ◌++◌, length, map, drop, Option, None, Some, slice_get, get_or, inl, inr, refl, sym, ap, ◌∙◌, arith, subst, unwrap_or, length-append}
use Rattle.std.specs.List.{range_with_len, flat_map}
use Rattle.std.proofs.Math.Nat.{mul-le-mul_right}
use Rattle.std.proofs.lemmas.Nat.{div-add-mod'}
use Rattle.std.proofs.lemmas.Bool.{cases_lt, lt-ltb, le-ltb}
use Rattle.std.proofs.lemmas.List.{length-map, get_or_append_left, get_or-append-add, get_or-drop, get_or-map, length-drop}
use Rattle.std.proofs.lemmas.List.FromFn.{length-map-range_with_len, get_or-map-range_with_len}
use Rattle.std.proofs.lemmas.Option.{cond_some, slice_get_within, slice_get-get_or, get_or_from_slice_get}
use Rattle.sx_base.specs.declared.evidence.Part.{Part}
use Rattle.sx_base.specs.declared.evidence.Part.TheVariants.{Database, Wal, Journal}
use Rattle.sx_base.specs.declared.evidence.Place.{Place}
use Rattle.sx_wal.specs.Frames.{frame_at, frame_len}
use Rattle.sx_journal.specs.Segments.{record_len}
use Rattle.sx_images.specs.declared.physical.Physical.{Physical}
use Rattle.sx_images.specs.declared.physical.Physical.TheVariants.{Image, WalHeader, FrameHead, JournalHead, EntryHead, EntrySum, Pad, Loose}
use Rattle.sx_images.specs.declared.image.Image.{Image as PageImage}
use Rattle.sx_images.specs.declared.stretch.Stretch.{Stretch}
use Rattle.sx_images.specs.Images.{Table, length_of, pages_of, page_image, images_of, Holds}
use Rattle.sx_images.specs.Places.{Thing, thing, holds, page_things, database_things, header_things, frame_things, log_things, records_start, records_end, run_record, run_things, gap_things, runs_things, things_of, found, or_loose, place_among, holders, physical_of}
use Rattle.sx_images.specs.Read.{Follow, run_offsets, IsTable}
use Rattle.sx_images.specs.Search.{or_else, begun}
use Rattle.sx_images.proofs.Things.{Rise, found-append, found_behind, rises, rise_lower, regular_between, once, within_is, flat_more}
use Rattle.sx_images.proofs.Files.{page_rows, frame_rows, database_here, log_here, found_page, found_image}
use Rattle.sx_images.proofs.Journals.{whole_between, runs_rise, in_row, behind_sector}
use Rattle.sx_images.proofs.Lists.{slice_front, slice_back}

-- ---- the list of images

pub count_is : (table : Table) → length (images_of table) ≡ pages_of table + length table.stored
unfolding images_of
count_is table =
    length-append (map (page_image table.page_size) (range_with_len 0 (pages_of table))) table.stored
    ∙ ap (λ n. n + length table.stored) (length-map-range_with_len (page_image table.page_size) 0 (pages_of table))

pub page_there : (table : Table) (i : ℕ) → i < pages_of table → slice_get (images_of table) i ≡ Some (page_image table.page_size i)
unfolding images_of
page_there table i within =
    let pages = map (page_image table.page_size) (range_with_len 0 (pages_of table)) in
    let long = length-map-range_with_len (page_image table.page_size) 0 (pages_of table) in
    let d = page_image table.page_size i in
    slice_front pages table.stored i (omega (arith, within, long))
    ∙ slice_get-get_or pages i d (omega (arith, within, long))
    ∙ ap Some (get_or-map-range_with_len (page_image table.page_size) 0 (pages_of table) i i d within (omega arith))

pub stored_there : (table : Table) (k : ℕ) → slice_get (images_of table) (pages_of table + k) ≡ slice_get table.stored k
unfolding images_of
stored_there table k =
    let pages = map (page_image table.page_size) (range_with_len 0 (pages_of table)) in
    let long = length-map-range_with_len (page_image table.page_size) 0 (pages_of table) in
    ap (λ n. slice_get (pages ++ table.stored) (n + k)) (sym long) ∙ slice_back pages table.stored k

-- ---- no byte is held twice

header_rise : (len : ℕ) (rest : List Thing) (b : Bool) → nat_le 32 len ≡ b → Rise 32 rest → Rise 0 (cond b (thing 0 32 WalHeader ∷ []) [] ++ rest)
header_rise len rest true is rise = (omega arith, rise)
header_rise len rest false is rise = rise_lower 32 0 rest rise (omega arith)

log_rise : (page_size len pages frames : ℕ) → Rise 0 (log_things page_size len pages frames)
log_rise page_size len pages frames =
    let rows = regular_between (frame_things page_size pages) 32 (frame_len page_size) frames (frame_rows page_size pages) in
    let behind = rises 32 _ (flat_map (frame_things page_size pages) (range_with_len 0 frames)) rows in
    header_rise len (flat_map (frame_things page_size pages) (range_with_len 0 frames)) (nat_le 32 len) refl behind

part_rise : (table : Table) (part : Part) → IsTable table → Rise 0 (things_of table part)
part_rise table Database laid =
    rises 0 _ (database_things table.page_size (pages_of table)) (regular_between (page_things table.page_size) 0 table.page_size (pages_of table) (page_rows table.page_size))
part_rise table Wal laid = log_rise table.page_size (length_of table.lengths Wal) (pages_of table) table.frames
part_rise table Journal laid = runs_rise table 0 0 0 table.stretches laid.sector laid.follow

pub held_once : (table : Table) (part : Part) (offset : ℕ) → IsTable table → holders (things_of table part) offset ≤ 1
held_once table part offset laid = once 0 (things_of table part) offset (part_rise table part laid)

-- ---- where an image is, its place says so

own_record : (table : Table) (i first m b offset : ℕ) (run : Stretch) (next : Option Stretch) (later : List Thing) → table.head_len ≤ table.sector → run.first ≡ first
    → m < run.entries → b < table.page_size → offset ≡ records_start table run + m * record_len table.page_size + 4 + b
    → found (run_things table i run ++ gap_things table run next ++ later) offset ≡ Some (Image (pages_of table + table.frames + (first + m)) b)
own_record table i first m b offset run next later order number here inside is =
    let at = table.sector + (m * record_len table.page_size + (4 + b)) in
    let place : run.head + at ≡ offset = omega (arith, is) in
    let image = found_image table.page_size (pages_of table + table.frames) (records_start table run + m * record_len table.page_size) (run.first + m) b (run.head + at) (omega arith) inside in
    let records = in_row table run m (4 + b) at refl (omega arith) here ∙ image in
    let whole = behind_sector table i run (gap_things table run next) at order (omega arith)
    ∙ ap (λ answer. or_else answer (found (gap_things table run next) (run.head + at))) records in
    ap (found (run_things table i run ++ gap_things table run next ++ later)) (sym place)
    ∙ found-append (run_things table i run ++ gap_things table run next) later (run.head + at)
    ∙ ap (λ answer. or_else answer (found later (run.head + at))) whole
    ∙ ap (λ n. Some (Image (pages_of table + table.frames + (n + m)) b)) number

pub own_offset : (table : Table) (run : Stretch) (others : List ℕ) (m : ℕ) → m < run.entries
    → get_or (run_offsets table run ++ others) m 0 ≡ records_start table run + m * record_len table.page_size + 4
own_offset table run others m here =
    let long : length (run_offsets table run) ≡ run.entries = length-map-range_with_len _ 0 run.entries in
    get_or_append_left (run_offsets table run) others 0 m (omega (arith, here, long)) ∙ get_or-map-range_with_len _ 0 run.entries m m 0 here (omega arith)

pub later_offset : (table : Table) (run : Stretch) (others : List ℕ) (m : ℕ) → run.entries ≤ m → get_or (run_offsets table run ++ others) m 0 ≡ get_or others (m - run.entries) 0
later_offset table run others m past =
    let long : length (run_offsets table run) ≡ run.entries = length-map-range_with_len _ 0 run.entries in
    let moved : m ≡ length (run_offsets table run) + (m - run.entries) = omega (arith, long, past) in
    ap (λ n. get_or (run_offsets table run ++ others) n 0) moved ∙ get_or-append-add (run_offsets table run) others (m - run.entries) 0

pub all_offsets : (table : Table) (run : Stretch) (others : List ℕ) → length (run_offsets table run ++ others) ≡ run.entries + length others
all_offsets table run others =
    length-append (run_offsets table run) others ∙ ap (λ n. n + length others) (length-map-range_with_len _ 0 run.entries)

here_record : (table : Table) (i least first m b : ℕ) (run : Stretch) (next : Option Stretch) (later : List Thing) (others : List ℕ) → table.head_len ≤ table.sector → run.first ≡ first
    → least ≤ run.head → m < run.entries → b < table.page_size
    → (least ≤ get_or (run_offsets table run ++ others) m 0)
    × (found (run_things table i run ++ gap_things table run next ++ later) (get_or (run_offsets table run ++ others) m 0 + b) ≡ Some (Image (pages_of table + table.frames + (first + m)) b))
here_record table i least first m b run next later others order number from here inside =
    let at = own_offset table run others m here in
    (omega (arith, at, from), own_record table i first m b (get_or (run_offsets table run ++ others) m 0 + b) run next later order number here inside (omega (arith, at)))

-- the records from a run on
found_record : (table : Table) (i least first m b : ℕ) (runs : List Stretch) → table.head_len ≤ table.sector → Follow table least first runs
    → m < length (flat_map (run_offsets table) runs) → b < table.page_size
    → (least ≤ get_or (flat_map (run_offsets table) runs) m 0)
    × (found (runs_things table i runs) (get_or (flat_map (run_offsets table) runs) m 0 + b) ≡ Some (Image (pages_of table + table.frames + (first + m)) b))
found_record table i least first m b [] order follow within inside = absurd (omega arith)
found_record table i least first m b (run ∷ []) order follow within inside =
    here_record table i least first m b run None [] [] order follow.1 follow.0 (omega (arith, within, all_offsets table run [])) inside
found_record table i least first m b (run ∷ next ∷ rest) order follow within inside =
    let others = flat_map (run_offsets table) (next ∷ rest) in
    let later = runs_things table (i + 1) (next ∷ rest) in
    elim (cases_lt m run.entries) [
      | inl here ↦ here_record table i least first m b run (Some next) later others order follow.1 follow.0 here inside
      | inr past ↦
          let at = later_offset table run others m past in
          let again = found_record table (i + 1) next.head (first + run.entries) (m - run.entries) b (next ∷ rest) order (omega arith, follow.2.1, follow.2.2)
          (omega (arith, within, all_offsets table run others, past)) inside in
          let number : first + run.entries + (m - run.entries) ≡ first + m = omega (arith, past) in
          let none = found_behind run.head next.head (run_things table i run ++ gap_things table run (Some next)) (get_or others (m - run.entries) 0 + b)
          (whole_between table i run next order follow.2.0) (omega (arith, again.0)) in (
            omega (arith, at, again.0, follow.0, follow.2.0),
            ap (λ n. found (runs_things table i (run ∷ next ∷ rest)) (n + b)) at
                ∙ found-append (run_things table i run ++ gap_things table run (Some next)) later (get_or others (m - run.entries) 0 + b)
                ∙ ap (λ answer. or_else answer (found later (get_or others (m - run.entries) 0 + b))) none
                ∙ again.1
                ∙ ap (λ n. Some (Image (pages_of table + table.frames + n) b)) number,
          )
    ]

pub some_image : (a b : PageImage) → Some a ≡ Some b → a ≡ b
some_image a b e = ap (λ o. unwrap_or o a) e

-- the byte of an image
abbrev Says : Table → ℕ → ℕ → ℕ → PageImage → Type 0
Says table i b offset image = (place_among (things_of table image.part) offset ≡ Image i b) × (offset < length_of table.lengths image.part)

database_says : (table : Table) (i b offset : ℕ) → i < pages_of table → b < table.page_size → offset ≡ i * table.page_size + b → Says table i b offset (page_image table.page_size i)
database_says table i b offset below inside is =
    let whole = div-add-mod' table.lengths.database table.page_size in
    let more : suc i * table.page_size ≤ pages_of table * table.page_size = mul-le-mul_right table.page_size below in
    (database_here table.page_size (pages_of table) i b offset is inside below, omega (arith, is, whole, more))

log_says : (table : Table) (k b offset : ℕ) (image : PageImage) → k < table.frames → b < table.page_size → offset ≡ image.offset + b
    → (image.part ≡ Wal) × (image.offset ≡ frame_at table.page_size k + 24) × (image.offset + table.page_size ≤ length_of table.lengths Wal)
    → Says table (pages_of table + k) b offset image
unfolding place_among
log_says table k b offset image below inside is laid =
    let part = sym laid.0 in
    let at : offset ≡ frame_at table.page_size k + 24 + b = omega (arith, is, laid.1) in
    let here = log_here table.page_size (length_of table.lengths Wal) (pages_of table) table.frames k (24 + b) offset (omega (arith, laid.1, laid.2)) (omega (arith, at)) (omega (arith, inside)) below in
    let says : Says table (pages_of table + k) b offset (record image { part = Wal }) =
    (sym here ∙ ap or_loose (found_page table.page_size (pages_of table) k b offset at inside), omega (arith, is, laid.2, inside)) in
    subst (λ p. (place_among (things_of table p) offset ≡ Image (pages_of table + k) b) × (offset < length_of table.lengths p)) part says

pub record_offset : (table : Table) (m : ℕ) (image : PageImage) → IsTable table → slice_get table.stored (table.frames + m) ≡ Some image
    → (get_or (flat_map (run_offsets table) table.stretches) m 0 ≡ image.offset) × (m < length (flat_map (run_offsets table) table.stretches))
record_offset table m image laid is =
    let offset : PageImage → ℕ = λ image. image.offset in
    let within = slice_get_within table.stored (table.frames + m) image is in
    let left : length (drop table.frames table.stored) ≡ length table.stored - table.frames = length-drop table.frames table.stored in
    let item : get_or (drop table.frames table.stored) m image ≡ image = get_or-drop table.frames table.stored m image ∙ get_or_from_slice_get table.stored (table.frames + m) image image is in
    let many : length (drop table.frames table.stored) ≡ length (flat_map (run_offsets table) table.stretches) =
    sym (length-map (drop table.frames table.stored) offset) ∙ ap length laid.offsets in (
      ap (λ list. get_or list m 0) (sym laid.offsets) ∙ get_or-map offset (drop table.frames table.stored) m image 0 (omega (arith, within, left)) ∙ ap offset item,
      omega (arith, within, left, many),
    )

journal_says : (table : Table) (m b offset : ℕ) (image : PageImage) → IsTable table → b < table.page_size → offset ≡ image.offset + b
    → slice_get table.stored (table.frames + m) ≡ Some image → Says table (pages_of table + (table.frames + m)) b offset image
unfolding place_among
journal_says table m b offset image laid inside is there =
    let known = laid.records m image there in
    let at = record_offset table m image laid there in
    let found_there = found_record table 0 0 0 m b table.stretches laid.sector laid.follow at.1 inside in
    let place : get_or (flat_map (run_offsets table) table.stretches) m 0 + b ≡ offset = omega (arith, is, at.0) in
    let number : pages_of table + table.frames + (0 + m) ≡ pages_of table + (table.frames + m) = omega arith in
    let says : Says table (pages_of table + (table.frames + m)) b offset (record image { part = Journal }) =
    (ap (λ n. or_loose (found (runs_things table 0 table.stretches) n)) (sym place) ∙ ap or_loose found_there.1 ∙ ap (λ n. Image n b) number, omega (arith, is, known.1, inside)) in
    subst (λ p. (place_among (things_of table p) offset ≡ Image (pages_of table + (table.frames + m)) b) × (offset < length_of table.lengths p)) (sym known.0) says

stored_says : (table : Table) (i b offset : ℕ) (image : PageImage) → IsTable table → (k : ℕ) → pages_of table + k ≡ i → slice_get (images_of table) i ≡ Some image
    → b < table.page_size → offset ≡ image.offset + b → Says table i b offset image
stored_says table i b offset image laid k number there inside is =
    let stored : slice_get table.stored k ≡ Some image = sym (stored_there table k) ∙ ap (slice_get (images_of table)) number ∙ there in
    subst (λ n. Says table n b offset image) number (elim (cases_lt k table.frames) [
      | inl below ↦ log_says table k b offset image below inside is (laid.frames k image below stored)
      | inr past ↦
          let m = k - table.frames in
          let back : table.frames + m ≡ k = omega (arith, past) in
          subst (λ n. Says table (pages_of table + n) b offset image) back
          (journal_says table m b offset image laid inside is (ap (slice_get table.stored) back ∙ stored))
    ])

image_says : (table : Table) (i b offset : ℕ) (image : PageImage) → IsTable table → slice_get (images_of table) i ≡ Some image → b < table.page_size → offset ≡ image.offset + b
    → Says table i b offset image
image_says table i b offset image laid there inside is =
    elim (cases_lt i (pages_of table)) [
      | inl below ↦
          let same = some_image (page_image table.page_size i) image (sym (page_there table i below) ∙ there) in
          let at : offset ≡ i * table.page_size + b = is ∙ ap (λ (m : PageImage). m.offset + b) (sym same) in
          subst (Says table i b offset) same (database_says table i b offset below inside at)
      | inr past ↦ stored_says table i b offset image laid (i - pages_of table) (omega (arith, past)) there inside is
    ]

pub place_there : (table : Table) (place : Place) → place.offset < length_of table.lengths place.part
    → physical_of table place ≡ Some (place_among (things_of table place.part) place.offset)
unfolding physical_of
place_there table place within = rw (lt-ltb place.offset (length_of table.lengths place.part) within) refl

pub place_nowhere : (table : Table) (place : Place) → length_of table.lengths place.part ≤ place.offset → physical_of table place ≡ None
unfolding physical_of
place_nowhere table place past = rw (le-ltb place.offset (length_of table.lengths place.part) past) refl

-- the place of an image's byte
pub holds_places : (table : Table) (i b : ℕ) (place : Place) → IsTable table → Holds table i b place → physical_of table place ≡ Some (Image i b)
unfolding physical_of
holds_places table i b place laid held =
    let says = image_says table i b place.offset held.image laid held.there held.within held.byte in
    let here = subst (λ p. (place_among (things_of table p) place.offset ≡ Image i b) × (place.offset < length_of table.lengths p)) held.part says in
    rw (lt-ltb place.offset (length_of table.lengths place.part) here.1) (ap Some here.0)

-- ---- what a place says is so

abbrev number_in : Physical → ℕ
number_in (Image i b) = i
number_in _ = 0

abbrev byte_in : Physical → ℕ
byte_in (Image i b) = b
byte_in _ = 0

-- where the things say a byte of an image, it is one
abbrev Named : Table → Part → List Thing → Type 0
Named table part [] = Unit {0}
Named table part (t ∷ things) =
    ((i b n : ℕ) → b < t.len → t.byte b ≡ Image i n → Holds table i n (record { part = part; offset = t.start + b })) × Named table part things

named_case : (table : Table) (part : Part) (t : Thing) (things : List Thing) (offset i n : ℕ) (held : Bool) → holds offset t ≡ held → Named table part (t ∷ things)
    → (found things offset ≡ Some (Image i n) → Holds table i n (record { part = part; offset = offset }))
    → cond held (Some (t.byte (offset - t.start))) (found things offset) ≡ Some (Image i n) → Holds table i n (record { part = part; offset = offset })
named_case table part t things offset i n true is named later says =
    let within = within_is t.start t.len offset is in
    let byte : t.byte (offset - t.start) ≡ Image i n = ap (λ o. unwrap_or o Pad) says in
    let back : t.start + (offset - t.start) ≡ offset = omega (arith, within.0) in
    subst (λ o. Holds table i n (record { part = part; offset = o })) back (named.0 i (offset - t.start) n (omega (arith, within.0, within.1)) byte)
named_case table part t things offset i n false is named later says = later says

named_found : (table : Table) (part : Part) (things : List Thing) (offset i n : ℕ) → Named table part things → found things offset ≡ Some (Image i n)
    → Holds table i n (record { part = part; offset = offset })
named_found table part [] offset i n named says = absurd cc
named_found table part (t ∷ things) offset i n named says =
    named_case table part t things offset i n (holds offset t) refl named (named_found table part things offset i n named.1) says

named_append : (table : Table) (part : Part) (xs ys : List Thing) → Named table part xs → Named table part ys → Named table part (xs ++ ys)
named_append table part [] ys front back = back
named_append table part (t ∷ xs) ys front back = (front.0, named_append table part xs ys front.1 back)

named_rows : (table : Table) (part : Part) (f : ℕ → List Thing) (n : ℕ) → ((i : ℕ) → i < n → Named table part (f i)) → Named table part (flat_map f (range_with_len 0 n))
named_rows table part f zero rows = tt
named_rows table part f (suc n) rows =
    rw (flat_more f n) (named_append table part (flat_map f (range_with_len 0 n)) (f n) (named_rows table part f n (λ i below. rows i (omega arith))) (rows n (omega arith)))

named_image : (table : Table) (part : Part) (start i : ℕ) (image : PageImage) → slice_get (images_of table) i ≡ Some image → image.part ≡ part → image.offset ≡ start
    → (j b n : ℕ) → b < table.page_size → Image i b ≡ Image j n → Holds table j n (record { part = part; offset = start + b })
named_image table part start i image there is_part at j b n inside says =
    let number : i ≡ j = ap number_in says in
    let byte : b ≡ n = ap byte_in says in
    record {
      image = image;
      there = ap (slice_get (images_of table)) (sym number) ∙ there;
      part = is_part;
      byte = omega (arith, at, byte);
      within = omega (arith, inside, byte);
    }

page_named : (table : Table) (i : ℕ) → i < pages_of table → Named table Database (page_things table.page_size i)
page_named table i below =
    (λ j b n inside says. named_image table Database (i * table.page_size) i (page_image table.page_size i) (page_there table i below) refl refl j b n inside says, tt)

-- an image where the list has none
abbrev no_image : PageImage
no_image = page_image 0 0

frame_named : (table : Table) (i : ℕ) → IsTable table → i < table.frames → Named table Wal (frame_things table.page_size (pages_of table) i)
frame_named table i laid below =
    let image = get_or table.stored i no_image in
    let there : slice_get table.stored i ≡ Some image = slice_get-get_or table.stored i no_image (omega (arith, below, laid.fewer)) in
    let known = laid.frames i image below there in (
      λ j b n inside says. absurd cc,
      (λ j b n inside says. named_image table Wal (frame_at table.page_size i + 24) (pages_of table + i) image (stored_there table i ∙ there) known.0 known.1 j b n inside says, tt),
    )

header_named : (table : Table) (b : Bool) → Named table Wal (cond b (thing 0 32 WalHeader ∷ []) [])
header_named table true = (λ j b n inside says. absurd cc, tt)
header_named table false = tt

record_named : (table : Table) (run : Stretch) (q : ℕ) → IsTable table → run.first + q < length (flat_map (run_offsets table) table.stretches)
    → get_or (flat_map (run_offsets table) table.stretches) (run.first + q) 0 ≡ records_start table run + q * record_len table.page_size + 4
    → Named table Journal (run_record table run q)
record_named table run q laid within at =
    let number = run.first + q in
    let many : length (drop table.frames table.stored) ≡ length (flat_map (run_offsets table) table.stretches) =
    sym (length-map (drop table.frames table.stored) (λ (m : PageImage). m.offset)) ∙ ap length laid.offsets in
    let left : length (drop table.frames table.stored) ≡ length table.stored - table.frames = length-drop table.frames table.stored in
    let image = get_or table.stored (table.frames + number) no_image in
    let there : slice_get table.stored (table.frames + number) ≡ Some image = slice_get-get_or table.stored (table.frames + number) no_image (omega (arith, within, many, left)) in
    let known = laid.records number image there in
    let offset = record_offset table number image laid there in
    let nth : pages_of table + table.frames + number ≡ pages_of table + (table.frames + number) = omega arith in
    let listed : slice_get (images_of table) (pages_of table + table.frames + number) ≡ Some image = ap (slice_get (images_of table)) nth ∙ stored_there table (table.frames + number) ∙ there in (
      λ j b n inside says. absurd cc,
      (
        λ j b n inside says. named_image table Journal (records_start table run + q * record_len table.page_size + 4) (pages_of table + table.frames + number) image listed known.0 (sym offset.0 ∙ at) j b n inside says,
        (λ j b n inside says. absurd cc, tt),
      ),
    )

gap_named : (table : Table) (run : Stretch) (next : Option Stretch) → Named table Journal (gap_things table run next)
gap_named table run None = tt
gap_named table run (Some next) = (λ j b n inside says. absurd cc, tt)

runs_named : (table : Table) (i least first : ℕ) (runs : List Stretch) → IsTable table → Follow table least first runs
    → first + length (flat_map (run_offsets table) runs) ≡ length (flat_map (run_offsets table) table.stretches)
    → ((k : ℕ) → k < length (flat_map (run_offsets table) runs) → get_or (flat_map (run_offsets table) table.stretches) (first + k) 0 ≡ get_or (flat_map (run_offsets table) runs) k 0)
    → Named table Journal (runs_things table i runs)
runs_named table i least first [] laid follow many at = tt
runs_named table i least first (run ∷ rest) laid follow many at =
    let others = flat_map (run_offsets table) rest in
    let long = all_offsets table run others in
    let own : (q : ℕ) → q < run.entries → Named table Journal (run_record table run q) = λ q below.
    let number : run.first + q ≡ first + q = omega (arith, follow.1) in
    record_named table run q laid (omega (arith, many, long, below, follow.1))
    (ap (λ n. get_or (flat_map (run_offsets table) table.stretches) n 0) number ∙ at q (omega (arith, below, long)) ∙ own_offset table run others q below) in
    let later = runs_named table (i + 1) (records_end table run) (first + run.entries) rest laid follow.2 (omega (arith, many, long)) (λ k below.
    let number : first + run.entries + k ≡ first + (run.entries + k) = omega arith in
    let back : run.entries + k - run.entries ≡ k = omega arith in
    ap (λ n. get_or (flat_map (run_offsets table) table.stretches) n 0) number ∙ at (run.entries + k) (omega (arith, below, long))
    ∙ later_offset table run others (run.entries + k) (omega arith) ∙ ap (λ n. get_or others n 0) back) in
    named_append table Journal (run_things table i run ++ gap_things table run (slice_get rest 0)) (runs_things table (i + 1) rest)
    (named_append table Journal (run_things table i run) (gap_things table run (slice_get rest 0))
    (λ j b n inside says. absurd cc, (λ j b n inside says. absurd cc, named_rows table Journal (run_record table run) run.entries own))
    (gap_named table run (slice_get rest 0))) later

part_named : (table : Table) (part : Part) → IsTable table → Named table part (things_of table part)
part_named table Database laid = named_rows table Database (page_things table.page_size) (pages_of table) (page_named table)
part_named table Wal laid =
    named_append table Wal (header_things (length_of table.lengths Wal)) _ (header_named table (nat_le 32 (length_of table.lengths Wal)))
    (named_rows table Wal (frame_things table.page_size (pages_of table)) table.frames (λ i below. frame_named table i laid below))
part_named table Journal laid =
    runs_named table 0 0 0 table.stretches laid laid.follow (omega arith)
    (λ k below. let same : 0 + k ≡ k = omega arith in ap (λ n. get_or (flat_map (run_offsets table) table.stretches) n 0) same)

loose_case : (answer : Option Physical) (i b : ℕ) → or_loose answer ≡ Image i b → answer ≡ Some (Image i b)
loose_case None i b is = absurd cc
loose_case (Some physical) i b is = ap Some is

pub places_hold : (table : Table) (i b : ℕ) (place : Place) → IsTable table → physical_of table place ≡ Some (Image i b) → Holds table i b place
unfolding physical_of place_among
places_hold table i b place laid says =
    let parts = cond_some (nat_lt place.offset (length_of table.lengths place.part)) (place_among (things_of table place.part) place.offset) (Image i b) says in
    named_found table place.part (things_of table place.part) place.offset i b (part_named table place.part laid)
    (loose_case (found (things_of table place.part) place.offset) i b parts.1)

begun_case : (j b i : ℕ) (first : Bool) → (b == 0) ≡ first → (cond first (Some j) None ≡ Some i) ↔ (Some (Image j b) ≡ Some (Image i 0))
begun_case j b i true is =
    let start : b ≡ 0 = eqb-true b 0 is in (
      λ says. ap (λ n. Some (Image j n)) start ∙ ap (λ o. Some (Image (unwrap_or o j) 0)) says,
      λ says. ap (λ o. Some (number_in (unwrap_or o Pad))) says,
    )
begun_case j b i false is = (
  λ says. absurd cc,
  λ says.
      let start : b ≡ 0 = ap (λ o. byte_in (unwrap_or o Pad)) says in
      let never : false ≡ true = sym is ∙ eq-eqb b 0 start in
      absurd cc,
)

-- the image that begins at a place
pub begun_both_ways : (place : Option Physical) (i : ℕ) → (begun place ≡ Some i) ↔ (place ≡ Some (Image i 0))
begun_both_ways None i = (λ is. absurd cc, λ is. absurd cc)
begun_both_ways (Some (Image j b)) i = begun_case j b i (b == 0) refl
begun_both_ways (Some (WalHeader b)) i = (λ is. absurd cc, λ is. absurd cc)
begun_both_ways (Some (FrameHead j b)) i = (λ is. absurd cc, λ is. absurd cc)
begun_both_ways (Some (JournalHead j b)) i = (λ is. absurd cc, λ is. absurd cc)
begun_both_ways (Some (EntryHead j b)) i = (λ is. absurd cc, λ is. absurd cc)
begun_both_ways (Some (EntrySum j b)) i = (λ is. absurd cc, λ is. absurd cc)
begun_both_ways (Some Pad) i = (λ is. absurd cc, λ is. absurd cc)
begun_both_ways (Some Loose) i = (λ is. absurd cc, λ is. absurd cc)
