-- Images searched one by one.
use Rattle.std.proofs.Common.{◌≡◌, ℕ, zero, suc, ◌+◌, ◌≤◌, List, [], ◌∷◌, ◌++◌, length, drop, Some, slice_get, refl, ap, ◌∙◌, arith, length-drop}
use Rattle.sx_base.specs.declared.evidence.Part.{Part}
use Rattle.sx_images.specs.declared.image.Image.{Image}
use Rattle.sx_base.specs.declared.evidence.Part.TheVariants.{Database, Wal, Journal}
use Rattle.sx_images.specs.Images.{Table, images_of, length_of}
use Rattle.sx_owned.specs.Owned.{Owned}
use Rattle.sx_grammar.specs.declared.shape.ShapeKey.{ShapeKey}
use Rattle.sx_carve.specs.Candidates.{told_by, carved_from, image_bytes, candidates_from}
use Rattle.sx_carve.specs.Evidence.{AreOf}
use Rattle.sx_carve.specs.Scan.{images_rest}

none_from : (usable : ℕ) (shapes : List ShapeKey) (table : Owned) (page_size : ℕ) (files : Part → List ℕ) (number : ℕ) (images : List Image) → length images ≡ 0
    → candidates_from usable shapes (told_by table) page_size files number images ≡ []
unfolding candidates_from
none_from usable shapes table page_size files number [] none = refl
none_from usable shapes table page_size files number (image ∷ images) none = absurd (omega arith)

-- no image is left
pub no_image : (usable : ℕ) (shapes : List ShapeKey) (table : Owned) (files : Part → List ℕ) (images : Table) (number : ℕ) → length (images_of images) ≤ number
    → images_rest usable shapes table files images number ≡ []
no_image usable shapes table files images number past =
    none_from usable shapes table images.page_size files number (drop number (images_of images)) (omega (arith, length-drop number (images_of images)))

drop_there : (images : List Image) (number : ℕ) (image : Image) → slice_get images number ≡ Some image → drop number images ≡ image ∷ drop (number + 1) images
drop_there [] number image is = absurd (cc)
drop_there (first ∷ images) zero image is = ap (λ one. one ∷ images) (cc)
drop_there (first ∷ images) (suc number) image is =
    let count : suc (number + 1) ≡ suc number + 1 = omega arith in
    drop_there images number image is ∙ ap (λ (k : ℕ). image ∷ drop k (first ∷ images)) count

one_from : (usable : ℕ) (shapes : List ShapeKey) (table : Owned) (page_size : ℕ) (files : Part → List ℕ) (number : ℕ) (image : Image) (images : List Image)
    → candidates_from usable shapes (told_by table) page_size files number (image ∷ images)
    ≡ carved_from usable shapes (told_by table) number 0 (image_bytes page_size files image) ++ candidates_from usable shapes (told_by table) page_size files (number + 1) images
unfolding candidates_from
one_from usable shapes table page_size files number image images = refl

-- an image and those behind it
pub one_image : (usable : ℕ) (shapes : List ShapeKey) (table : Owned) (files : Part → List ℕ) (images : Table) (number : ℕ) (image : Image) → slice_get (images_of images) number ≡ Some image
    → images_rest usable shapes table files images number
    ≡ carved_from usable shapes (told_by table) number 0 (image_bytes images.page_size files image) ++ images_rest usable shapes table files images (number + 1)
one_image usable shapes table files images number image there =
    ap (candidates_from usable shapes (told_by table) images.page_size files number) (drop_there (images_of images) number image there)
    ∙ one_from usable shapes table images.page_size files number image (drop (number + 1) (images_of images))

-- ---- the files

long_file : (files : Part → List ℕ) (table : Table) (part : Part) → AreOf files table → length_of table.lengths part ≡ length (files part)
long_file files table Database are = are.database
long_file files table Wal are = are.wal
long_file files table Journal are = are.journal

-- an image lies in its file's bytes
pub in_file : (files : Part → List ℕ) (table : Table) (image : Image) (size : ℕ) (file : List ℕ) → AreOf files table → image.offset + table.page_size ≤ length_of table.lengths image.part
    → size ≡ table.page_size → file ≡ files image.part → image.offset + size ≤ length file
in_file files table image size file are lies same is = omega (arith, lies, same, ap length is, long_file files table image.part are)
