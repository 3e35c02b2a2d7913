-- The candidates follow from what is told of each byte and of each offset, however that is kept.
use Rattle.std.proofs.Common.{◌≡◌, ℕ, ◌+◌, Bool, true, false, List, [], ◌∷◌, ◌++◌, refl, ap, ◌∙◌}
use Rattle.sx_base.specs.declared.evidence.Part.{Part}
use Rattle.sx_images.specs.declared.image.Image.{Image}
use Rattle.sx_grammar.specs.declared.shape.ShapeKey.{ShapeKey}
use Rattle.sx_grammar.specs.Choice.{setting_of, accepted_at}
use Rattle.sx_carve.specs.Candidates.{Told, TellSame, carved, unowned_front, candidate_at, carved_from, image_bytes, candidates_from, candidates_of}

front_case : (one other : ℕ → Bool) (byte at : ℕ) (bytes : List ℕ) (owned : Bool) → one at ≡ owned → other at ≡ owned
    → unowned_front one (at + 1) bytes ≡ unowned_front other (at + 1) bytes → unowned_front one at (byte ∷ bytes) ≡ unowned_front other at (byte ∷ bytes)
unfolding unowned_front
front_case one other byte at bytes true here there rest = rw (here, there) refl
front_case one other byte at bytes false here there rest = rw (here, there) (ap (λ l. byte ∷ l) rest)

same_front : (one other : ℕ → Bool) (at : ℕ) (bytes : List ℕ) → ((k : ℕ) → one k ≡ other k) → unowned_front one at bytes ≡ unowned_front other at bytes
unfolding unowned_front
same_front one other at [] same = refl
same_front one other at (byte ∷ bytes) same = front_case one other byte at bytes (other at) (same at) refl (same_front one other (at + 1) bytes same)

same_candidate : (usable : ℕ) (shapes : List ShapeKey) (one other : Told) (image at : ℕ) (bytes : List ℕ) → TellSame one other
    → candidate_at usable shapes one image at bytes ≡ candidate_at usable shapes other image at bytes
unfolding candidate_at
same_candidate usable shapes one other image at bytes same =
    ap (λ block. accepted_at usable shapes (setting_of at block usable) (unowned_front (one.owned image) at bytes)) (same.block image at)
    ∙ ap (accepted_at usable shapes (setting_of at (other.block image at) usable)) (same_front (one.owned image) (other.owned image) at bytes (same.owned image))

same_image : (usable : ℕ) (shapes : List ShapeKey) (one other : Told) (image at : ℕ) (bytes : List ℕ) → TellSame one other
    → carved_from usable shapes one image at bytes ≡ carved_from usable shapes other image at bytes
unfolding carved_from
same_image usable shapes one other image at [] same = refl
same_image usable shapes one other image at (byte ∷ bytes) same =
    ap (λ found. carved image at found ++ carved_from usable shapes one image (at + 1) bytes) (same_candidate usable shapes one other image at (byte ∷ bytes) same)
    ∙ ap (λ rest. carved image at (candidate_at usable shapes other image at (byte ∷ bytes)) ++ rest) (same_image usable shapes one other image (at + 1) bytes same)

same_images : (usable : ℕ) (shapes : List ShapeKey) (one other : Told) (page_size : ℕ) (files : Part → List ℕ) (number : ℕ) (images : List Image) → TellSame one other
    → candidates_from usable shapes one page_size files number images ≡ candidates_from usable shapes other page_size files number images
unfolding candidates_from
same_images usable shapes one other page_size files number [] same = refl
same_images usable shapes one other page_size files number (image ∷ images) same =
    ap (λ found. found ++ candidates_from usable shapes one page_size files (number + 1) images) (same_image usable shapes one other number 0 (image_bytes page_size files image) same)
    ∙ ap (λ rest. carved_from usable shapes other number 0 (image_bytes page_size files image) ++ rest) (same_images usable shapes one other page_size files (number + 1) images same)

pub same_told : (usable : ℕ) (shapes : List ShapeKey) (one other : Told) (page_size : ℕ) (files : Part → List ℕ) (images : List Image) → TellSame one other
    → candidates_of usable shapes one page_size files images ≡ candidates_of usable shapes other page_size files images
same_told usable shapes one other page_size files images same = same_images usable shapes one other page_size files 0 images same
