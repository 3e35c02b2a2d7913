-- What `explain` prints: the byte, the thing that it is part of, and, in a page image, what it is at a moment.
use Rattle.std.specs.Prelude.{ℕ, List, [], ◌∷◌, ◌++◌, slice_get, Option, None, Some, codes}
use Rattle.std.specs.Fmt.{decimal}
use Rattle.sx_base.specs.declared.evidence.Place.{Place}
use Rattle.sx_base.specs.declared.label.Label.{Label}
use Rattle.sx_base.specs.declared.moment.Moment.{Moment}
use Rattle.sx_images.specs.Images.{Table, images_of}
use Rattle.sx_images.specs.declared.image.Image.{Image as PageImage}
use Rattle.sx_images.specs.declared.physical.Physical.{Physical}
use Rattle.sx_images.specs.declared.physical.Physical.TheVariants.{Image, WalHeader, FrameHead, JournalHead, EntryHead, EntrySum, Pad, Loose}
use Rattle.sx_lines.specs.Labels.{label_word}
use Rattle.sx_lines.specs.Names.{part_name, class_name, moment_word}

-- the line of a byte: its file, and its offset in bytes from the start of that
unfoldable pub byte_line : Place → List ℕ
byte_line place = part_name place.part ++ codes " byte " ++ decimal place.offset

-- the line of a thing without a number, and the offset of the byte in it
unfoldable pub thing_line : List ℕ → ℕ → List ℕ
thing_line name byte = name ++ codes " byte " ++ decimal byte

-- the line of a thing with a number, and the offset of the byte in it
unfoldable pub numbered_line : List ℕ → ℕ → ℕ → List ℕ
numbered_line name number byte = name ++ codes " " ++ decimal number ++ codes " byte " ++ decimal byte

-- the line of a page image: the number of its page, its class, and the offset of the byte in it
unfoldable pub image_line : PageImage → ℕ → List ℕ
image_line image byte = codes "page " ++ decimal image.page ++ codes " " ++ class_name image.class ++ codes " byte " ++ decimal byte

-- the line of an image; a number that no image has is no part of anything
abbrev pub image_part : Option PageImage → ℕ → List ℕ
image_part None byte = codes "loose"
image_part (Some image) byte = image_line image byte

-- the line of what the byte is part of; the images are those of all three files, by number
abbrev pub place_line : List PageImage → Physical → List ℕ
place_line images (Image i b) = image_part (slice_get images i) b
place_line images (WalHeader b) = thing_line (codes "walheader") b
place_line images (FrameHead i b) = numbered_line (codes "framehead frame") i b
place_line images (JournalHead i b) = numbered_line (codes "journalhead segment") i b
place_line images (EntryHead i b) = numbered_line (codes "recordhead record") i b
place_line images (EntrySum i b) = numbered_line (codes "recordsum record") i b
place_line images Pad = codes "pad"
place_line images Loose = codes "loose"

-- the line of a byte of an image at a moment: its label where the image is its page's view, or that it is none
unfoldable pub moment_line : Moment → Option Label → List ℕ
moment_line moment None = codes "at " ++ moment_word moment ++ codes " not in view"
moment_line moment (Some label) = codes "at " ++ moment_word moment ++ codes " " ++ label_word label

-- the last line, which bytes of page images alone have
abbrev pub moment_lines : Physical → Moment → Option Label → List (List ℕ)
moment_lines (Image i b) moment label = moment_line moment label ∷ []
moment_lines _ moment label = []

-- all lines over a byte that its file has, with its label at a moment where it is in view
abbrev pub explain_lines : Table → Place → Physical → Moment → Option Label → List (List ℕ)
explain_lines images place physical moment label =
    byte_line place ∷ place_line (images_of images) physical ∷ moment_lines physical moment label
