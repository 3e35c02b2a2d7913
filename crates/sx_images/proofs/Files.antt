-- The things of the database file and of the log, and of one record of the journal.
use Rattle.std.proofs.Common.{◌≡◌, ℕ, ◌+◌, ◌*◌, ◌<◌, ◌≤◌, List, [], ◌∷◌, ◌++◌, Some, sym, ap, ◌∙◌, arith}
use Rattle.std.specs.List.{range_with_len, flat_map}
use Rattle.std.proofs.lemmas.Bool.{le-leb, lt-leb}
use Rattle.sx_wal.specs.Frames.{frame_at, frame_len}
use Rattle.sx_journal.specs.Segments.{record_len}
use Rattle.sx_images.specs.declared.physical.Physical.TheVariants.{Image, WalHeader, FrameHead, EntryHead, EntrySum, Loose}
use Rattle.sx_images.specs.Places.{Thing, thing, page_things, database_things, header_things, frame_things, log_things, record_things, found, or_loose, place_among}
use Rattle.sx_images.proofs.Things.{Between, found_at, found_past, found_before, regular_past, regular_here, regular_between}

-- ---- the database file

pub page_rows : (page_size i : ℕ) → Between (0 + i * page_size) (0 + i * page_size + page_size) (page_things page_size i)
page_rows page_size i = (omega arith, omega arith)

pub database_here : (page_size pages q b offset : ℕ) → offset ≡ q * page_size + b → b < page_size → q < pages
    → place_among (database_things page_size pages) offset ≡ Image q b
unfolding place_among
database_here page_size pages q b offset is within below =
    ap or_loose (regular_here (page_things page_size) 0 page_size pages q offset (page_rows page_size) (omega (arith, is)) (omega (arith, is)) below
    ∙ found_at (q * page_size) page_size (Image q) [] b offset is within)

pub database_past : (page_size pages q b offset : ℕ) → offset ≡ q * page_size + b → pages ≤ q
    → place_among (database_things page_size pages) offset ≡ Loose
unfolding place_among
database_past page_size pages q b offset is past =
    ap or_loose (regular_past (page_things page_size) 0 page_size pages q offset (page_rows page_size) (omega (arith, is)) past)

-- ---- the log

pub frame_rows : (page_size pages i : ℕ) → Between (32 + i * frame_len page_size) (32 + i * frame_len page_size + frame_len page_size) (frame_things page_size pages i)
frame_rows page_size pages i = (omega arith, (omega arith, omega arith))

header_long : (len : ℕ) (rest : List Thing) (offset : ℕ) → 32 ≤ len → 32 ≤ offset → found (header_things len ++ rest) offset ≡ found rest offset
header_long len rest offset long past = rw (le-leb 32 len long) (found_past 0 32 WalHeader rest offset past)

pub log_short : (page_size len pages frames offset : ℕ) → len < 32 → offset < len → place_among (log_things page_size len pages frames) offset ≡ Loose
unfolding place_among
log_short page_size len pages frames offset short within =
    rw (lt-leb 32 len short)
    (ap or_loose (found_before 32 _ _ offset (regular_between (frame_things page_size pages) 32 (frame_len page_size) frames (frame_rows page_size pages)) (omega arith)))

pub log_header : (page_size len pages frames offset : ℕ) → 32 ≤ len → offset < 32 → place_among (log_things page_size len pages frames) offset ≡ WalHeader offset
unfolding place_among
log_header page_size len pages frames offset long within =
    rw (le-leb 32 len long) (ap or_loose (found_at 0 32 WalHeader (flat_map (frame_things page_size pages) (range_with_len 0 frames)) offset offset (omega arith) within))

pub log_past : (page_size len pages frames q b offset : ℕ) → 32 ≤ len → offset ≡ frame_at page_size q + b → frames ≤ q
    → place_among (log_things page_size len pages frames) offset ≡ Loose
unfolding place_among
log_past page_size len pages frames q b offset long is past =
    ap or_loose (header_long len _ offset long (omega (arith, is))
    ∙ regular_past (frame_things page_size pages) 32 (frame_len page_size) frames q offset (frame_rows page_size pages) (omega (arith, is)) past)

pub log_here : (page_size len pages frames q b offset : ℕ) → 32 ≤ len → offset ≡ frame_at page_size q + b → b < frame_len page_size → q < frames
    → place_among (frame_things page_size pages q) offset ≡ place_among (log_things page_size len pages frames) offset
unfolding place_among
log_here page_size len pages frames q b offset long is within below =
    sym (ap or_loose (header_long len _ offset long (omega (arith, is))
    ∙ regular_here (frame_things page_size pages) 32 (frame_len page_size) frames q offset (frame_rows page_size pages) (omega (arith, is)) (omega (arith, is)) below))

-- the page of frame i
abbrev frame_page : ℕ → ℕ → ℕ → List Thing
frame_page page_size pages i = thing (frame_at page_size i + 24) page_size (Image (pages + i)) ∷ []

pub in_head : (page_size pages i b offset : ℕ) → offset ≡ frame_at page_size i + b → b < 24 → FrameHead i b ≡ place_among (frame_things page_size pages i) offset
unfolding place_among
in_head page_size pages i b offset is within =
    sym (ap or_loose (found_at (frame_at page_size i) 24 (FrameHead i) (frame_page page_size pages i) b offset is within))

pub found_page : (page_size pages i b offset : ℕ) → offset ≡ frame_at page_size i + 24 + b → b < page_size → found (frame_things page_size pages i) offset ≡ Some (Image (pages + i) b)
found_page page_size pages i b offset is within =
    found_past (frame_at page_size i) 24 (FrameHead i) (frame_page page_size pages i) offset (omega (arith, is))
    ∙ found_at (frame_at page_size i + 24) page_size (Image (pages + i)) [] b offset is within

pub in_page : (page_size pages i b offset : ℕ) → offset ≡ frame_at page_size i + 24 + b → b < page_size → Image (pages + i) b ≡ place_among (frame_things page_size pages i) offset
unfolding place_among
in_page page_size pages i b offset is within = sym (ap or_loose (found_page page_size pages i b offset is within))

-- ---- a record of the journal

pub record_rows : (page_size images start k : ℕ) → Between start (start + record_len page_size) (record_things page_size images start k)
record_rows page_size images start k = (omega arith, (omega arith, (omega arith, omega arith)))

-- the checksum of record k, and what stands behind its page number
abbrev record_sum : ℕ → ℕ → ℕ → List Thing
record_sum page_size start k = thing (start + 4 + page_size) 4 (EntrySum k) ∷ []

abbrev record_rest : ℕ → ℕ → ℕ → ℕ → List Thing
record_rest page_size images start k = thing (start + 4) page_size (Image (images + k)) ∷ record_sum page_size start k

pub in_number : (page_size images start k b offset : ℕ) → offset ≡ start + b → b < 4 → EntryHead k b ≡ place_among (record_things page_size images start k) offset
unfolding place_among
in_number page_size images start k b offset is within =
    sym (ap or_loose (found_at start 4 (EntryHead k) (record_rest page_size images start k) b offset is within))

pub found_image : (page_size images start k b offset : ℕ) → offset ≡ start + 4 + b → b < page_size
    → found (record_things page_size images start k) offset ≡ Some (Image (images + k) b)
found_image page_size images start k b offset is within =
    found_past start 4 (EntryHead k) (record_rest page_size images start k) offset (omega (arith, is))
    ∙ found_at (start + 4) page_size (Image (images + k)) (record_sum page_size start k) b offset is within

pub in_image : (page_size images start k b offset : ℕ) → offset ≡ start + 4 + b → b < page_size → Image (images + k) b ≡ place_among (record_things page_size images start k) offset
unfolding place_among
in_image page_size images start k b offset is within = sym (ap or_loose (found_image page_size images start k b offset is within))

pub in_sum : (page_size images start k b offset : ℕ) → offset ≡ start + 4 + page_size + b → b < 4 → EntrySum k b ≡ place_among (record_things page_size images start k) offset
unfolding place_among
in_sum page_size images start k b offset is within =
    sym (ap or_loose (found_past start 4 (EntryHead k) (record_rest page_size images start k) offset (omega (arith, is))
    ∙ found_past (start + 4) page_size (Image (images + k)) (record_sum page_size start k) offset (omega (arith, is))
    ∙ found_at (start + 4 + page_size) 4 (EntrySum k) [] b offset is within))
