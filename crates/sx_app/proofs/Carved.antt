-- What was prepared for `carve` is what its definition says.
use Rattle.std.proofs.Common.{◌≡◌, ◌≤◌, ℕ, Bool, true, false, List, length, Option, Some, None, refl, sym, ap, ◌∙◌, subst, arith}
use Rattle.sx_base.specs.declared.evidence.Part.TheVariants.{Database, Wal, Journal}
use Rattle.sx_base.specs.declared.layout.Layout.{Layout}
use Rattle.sx_base.specs.declared.moment.Moment.{Moment}
use Rattle.sx_bytes.specs.declared.encoding.Encoding.{Encoding}
use Rattle.sx_moment.specs.Gathered.{Gathered, bytes_in}
use Rattle.sx_moment.specs.Heads.{layout_of, encoding_at, IsLayout}
use Rattle.std.specs.Option.{option_map}
use Rattle.sx_images.specs.Images.{Table, images_of, length_of, or_none, table_of}
use Rattle.sx_grammar.specs.declared.shape.ShapeKey.{ShapeKey}
use Rattle.sx_grammar.specs.Sightings.{Sighting}
use Rattle.sx_carve.specs.Candidates.{told_by, candidates_of}
use Rattle.sx_carve.specs.Evidence.{evidence_bytes, AreOf, Fit}
use Rattle.sx_carve.proofs.TellingLemmas.{same_told}
use Rattle.std.proofs.Math.Path.{fun_ext}
use Rattle.sx_carve_text.specs.Carve.{carve_lines}
use Rattle.sx_carve_text.specs.Spilled.{spilled_lines}
use Rattle.sx_owned.specs.Owned.{owned_at}
use Rattle.sx_spill.specs.Completion.{completed_of}
use Rattle.sx_spill.specs.Unused.{Unused, unused_pages, Fit as SpillFit}
use Rattle.sx_app.specs.Labels.{images_in, lengths_in}
use Rattle.sx_app.specs.Carving.{told_under, shapes_at, completed_under, candidates_under, carve_at, IsCarving}
use Rattle.sx_app.specs.declared.carving.Carving.{Carving}
use Rattle.sx_app.proofs.Layouts.{image_size_is, page_size_is}

file_length : (file : Option (List ℕ)) → or_none (option_map length file) ≡ length (bytes_in file)
file_length None = refl
file_length (Some bytes) = refl

lengths_are : (case : Gathered) → (images_in case).lengths ≡ lengths_in case
unfolding images_in table_of
lengths_are case = refl

-- the images are those of the case's files
pub are_of : (case : Gathered) (images : Table) → images ≡ images_in case → AreOf (evidence_bytes case.database case.wal_bytes case.journal_bytes) images
are_of case images is =
    let lengths = ap (λ (t : Table). t.lengths) is ∙ lengths_are case in
    record {
      database = ap (λ l. length_of l Database) lengths;
      wal = ap (λ l. length_of l Wal) lengths ∙ file_length case.wal_bytes;
      journal = ap (λ l. length_of l Journal) lengths ∙ file_length case.journal_bytes;
    }

-- what was prepared fits together
pub fits : (case : Gathered) (moments : List Moment) (last : Moment) (made : Carving) (layout : Layout) (shapes : List ShapeKey) → IsCarving case moments last made
    → IsLayout layout → layout ≡ layout_of case last → shapes ≡ made.shapes.items → Fit layout.usable shapes made.images made.owned
fits case moments last made layout shapes is ranges same given =
    let size : layout.page_size ≡ made.images.page_size
    = ap (λ (l : Layout). l.page_size) same ∙ page_size_is case last ∙ sym (image_size_is case) ∙ ap (λ (t : Table). t.page_size) (sym is.images) in
    record {
      count = is.count;
      size = is.size;
      large = subst (λ n. n ≤ 65536) size ranges.size.greatest;
      least = ranges.least;
      within = subst (λ n. layout.usable ≤ n) size ranges.within;
      rise = rw given is.rise;
    }

-- and the lines over it are those of the definition
pub lines_are : (case : Gathered) (moments : List Moment) (last : Moment) (made : Carving) (encoding : Encoding) (usable : ℕ) (shapes : List ShapeKey)
    (bytes : List ℕ) (log rollback : Option (List ℕ)) → IsCarving case moments last made → encoding ≡ encoding_at case last → usable ≡ (layout_of case last).usable
    → shapes ≡ made.shapes.items → bytes ≡ case.database → log ≡ case.wal_bytes → rollback ≡ case.journal_bytes
    → carve_lines encoding (images_of made.images) (candidates_of usable shapes (told_by made.owned) made.images.page_size (evidence_bytes bytes log rollback) (images_of made.images))
    ≡ carve_at case moments last false
unfolding carve_at
lines_are case moments last made encoding usable shapes bytes log rollback is encoded used given stored logged rolled =
    let images = ap images_of is.images in
    let size = ap (λ (t : Table). t.page_size) is.images ∙ image_size_is case in
    rw (encoded, used, given ∙ is.shapes, stored, logged, rolled, images, size)
    (ap (carve_lines (encoding_at case last) (images_of (images_in case)))
    (same_told (layout_of case last).usable (shapes_at case last) (told_by made.owned) (told_under case moments) case.header.page_size
    (evidence_bytes case.database case.wal_bytes case.journal_bytes) (images_of (images_in case)) is.told))

-- and so are as many
pub count_is : (case : Gathered) (moments : List Moment) (last : Moment) (made : Carving) (usable : ℕ) (shapes : List ShapeKey)
    (bytes : List ℕ) (log rollback : Option (List ℕ)) → IsCarving case moments last made → usable ≡ (layout_of case last).usable
    → shapes ≡ made.shapes.items → bytes ≡ case.database → log ≡ case.wal_bytes → rollback ≡ case.journal_bytes
    → length (candidates_of usable shapes (told_by made.owned) made.images.page_size (evidence_bytes bytes log rollback) (images_of made.images))
    ≡ length (candidates_under case moments last)
count_is case moments last made usable shapes bytes log rollback is used given stored logged rolled =
    let images = ap images_of is.images in
    let size = ap (λ (t : Table). t.page_size) is.images ∙ image_size_is case in
    rw (used, given ∙ is.shapes, stored, logged, rolled, images, size)
    (ap length
    (same_told (layout_of case last).usable (shapes_at case last) (told_by made.owned) (told_under case moments) case.header.page_size
    (evidence_bytes case.database case.wal_bytes case.journal_bytes) (images_of (images_in case)) is.told))

-- what completes candidates fits what was prepared
pub spill_fits : (case other : Gathered) (moments : List Moment) (last : Moment) (made : Carving) (layout : Layout) → IsCarving case moments last made → IsLayout layout
    → layout ≡ layout_of case last → other ≡ case → SpillFit other made.images made.owned layout.usable
spill_fits case other moments last made layout is ranges same snapped =
    let size : layout.page_size ≡ case.header.page_size = ap (λ (l : Layout). l.page_size) same ∙ page_size_is case last in
    let image : made.images.page_size ≡ case.header.page_size = ap (λ (t : Table). t.page_size) is.images ∙ image_size_is case in
    record {
      count = is.count;
      size = subst (λ n. layout.usable ≤ n) (size ∙ sym image ∙ sym is.size) ranges.within;
      least = ranges.least;
      within = subst (λ n. layout.usable ≤ n) (size ∙ ap (λ (c : Gathered). c.header.page_size) (sym snapped)) ranges.within;
    }

-- and the lines over it are those of the definition
pub spilled_are : (case other : Gathered) (moments : List Moment) (last : Moment) (made : Carving) (encoding : Encoding) (usable : ℕ) (shapes : List ShapeKey)
    (bytes : List ℕ) (log rollback : Option (List ℕ)) (pages : Unused) → IsCarving case moments last made → encoding ≡ encoding_at case last → usable ≡ (layout_of case last).usable
    → shapes ≡ made.shapes.items → bytes ≡ case.database → log ≡ case.wal_bytes → rollback ≡ case.journal_bytes
    → pages ≡ unused_pages other last made.images (owned_at made.owned) usable → other ≡ case
    → spilled_lines encoding (images_of made.images) (completed_of pages) (candidates_of usable shapes (told_by made.owned) made.images.page_size (evidence_bytes bytes log rollback) (images_of made.images))
    ≡ carve_at case moments last true
unfolding carve_at
spilled_are case other moments last made encoding usable shapes bytes log rollback pages is encoded used given stored logged rolled there snapped =
    let images = ap images_of is.images in
    let size = ap (λ (t : Table). t.page_size) is.images ∙ image_size_is case in
    let owned : owned_at made.owned ≡ (told_under case moments).owned = fun_ext (λ image. fun_ext (λ at. is.told.owned image at)) in
    let complete : completed_of pages ≡ completed_under case moments last
    = ap completed_of (there
    ∙ ap (λ (c : Gathered). unused_pages c last made.images (owned_at made.owned) usable) snapped
    ∙ ap (λ (t : Table). unused_pages case last t (owned_at made.owned) usable) is.images
    ∙ ap (λ (o : ℕ → ℕ → Bool). unused_pages case last (images_in case) o usable) owned
    ∙ ap (unused_pages case last (images_in case) (told_under case moments).owned) used) in
    ap (λ (c : Sighting → Option (List ℕ)). spilled_lines encoding (images_of made.images) c (candidates_of usable shapes (told_by made.owned) made.images.page_size (evidence_bytes bytes log rollback) (images_of made.images))) complete
    ∙ rw (encoded, used, given ∙ is.shapes, stored, logged, rolled, images, size)
    (ap (spilled_lines (encoding_at case last) (images_of (images_in case)) (completed_under case moments last))
    (same_told (layout_of case last).usable (shapes_at case last) (told_by made.owned) (told_under case moments) case.header.page_size
    (evidence_bytes case.database case.wal_bytes case.journal_bytes) (images_of (images_in case)) is.told))
