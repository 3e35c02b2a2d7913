-- What the bytes of the evidence are at a moment: what `map` and `explain` ask for.
use Rattle.std.specs.Prelude.{ℕ, ℤ, Bool, true, false, ◌&&◌, ◌==◌, if◌then◌else◌, List, length, slice_get, Option, None, Some, Result, Ok, Err, ⊤}
use Rattle.std.specs.Option.{option_map}
use Rattle.sx_base.specs.declared.evidence.Part.{Part}
use Rattle.sx_base.specs.declared.evidence.Part.TheVariants.{Database, Wal, Journal}
use Rattle.sx_base.specs.declared.evidence.Place.{Place}
use Rattle.sx_base.specs.declared.label.Label.{Label}
use Rattle.sx_base.specs.declared.label.Label.TheVariants.{BadHead}
use Rattle.sx_base.specs.declared.moment.Moment.{Moment}
use Rattle.sx_header.specs.declared.header.Header.{Header}
use Rattle.sx_moment.specs.Gathered.{Gathered, size_at}
use Rattle.sx_moment.specs.Heads.{head_of, layout_of, encoding_at}
use Rattle.sx_moment.specs.Views.{view_of, source_of}
use Rattle.sx_schema.specs.Entries.{roots_of, schema_of}
use Rattle.sx_closure.specs.Graph.{Graph}
use Rattle.sx_refs.specs.Pages.{graph_of}
use Rattle.sx_prov.specs.Labels.{label_of}
use Rattle.sx_images.specs.Images.{Table as ImageTable, images_of, length_of, table_of}
use Rattle.sx_images.specs.Places.{physical_of}
use Rattle.sx_images.specs.declared.image.Image.{Image as PageImage}
use Rattle.sx_images.specs.declared.lengths.Lengths.{Lengths}
use Rattle.sx_images.specs.declared.physical.Physical.{Physical}
use Rattle.sx_images.specs.declared.physical.Physical.TheVariants.{Image}
use Rattle.sx_map_text.specs.Map.{headless_lines, map_lines}
use Rattle.sx_explain_text.specs.Explain.{explain_lines}
use Rattle.sx_words.specs.declared.request.When.{When}
use Rattle.sx_app.specs.Moments.{CanMiss}
use Rattle.sx_app.specs.declared.refused.Refused.{Refused}
use Rattle.sx_app.specs.declared.refused.Refused.TheVariants.{NoMoment, NoByte, Memory}

-- the roots of the schema of a moment
unfoldable pub roots_at : Gathered → Moment → List ℤ
roots_at case moment = roots_of (schema_of (size_at case moment) (view_of case moment) (layout_of case moment).usable (encoding_at case moment))

-- what refers to what at a moment
abbrev pub graph_at : Gathered → Moment → Graph
graph_at case moment = graph_of (size_at case moment) (view_of case moment) (layout_of case moment) (roots_at case moment)

-- ---- `map`

-- the lines at a moment with this header, or without one
abbrev pub map_by : Gathered → Moment → Option Header → List (List ℕ)
map_by case moment None = headless_lines (size_at case moment) case.header.page_size
map_by case moment (Some head) = map_lines (graph_at case moment) (layout_of case moment) (view_of case moment) (size_at case moment)

unfoldable pub map_at : Gathered → Moment → List (List ℕ)
map_at case moment = map_by case moment (head_of case moment)

-- ---- `explain`

-- the lengths of the three files
abbrev pub lengths_in : Gathered → Lengths
lengths_in case = record {
  database = length case.database;
  wal = option_map length case.wal_bytes;
  journal = option_map length case.journal_bytes;
}

-- the page images of the three files
unfoldable pub images_in : Gathered → ImageTable
images_in case = table_of case.header.page_size (lengths_in case) case.wal case.journal

-- the same file
abbrev pub same_part : Part → Part → Bool
same_part Database Database = true
same_part Wal Wal = true
same_part Journal Journal = true
same_part one other = false

-- an image stands at a place
abbrev pub stands_at : PageImage → Option Place → Bool
stands_at image None = false
stands_at image (Some place) = same_part image.part place.part && image.offset == place.offset

-- the label of a byte of a page that has a view, with this header of the moment: without one nothing is known of it
abbrev pub label_by : Gathered → Moment → ℕ → ℕ → Option Header → Label
label_by case moment page byte None = BadHead
label_by case moment page byte (Some head) = label_of (graph_at case moment) (layout_of case moment) (view_of case moment) page byte

-- the label of a byte of an image, where the image is the view of its page at the moment: where the view stands there
unfoldable pub image_label : Gathered → Moment → PageImage → ℕ → Option Label
image_label case moment image byte =
    if stands_at image (source_of case moment image.page) then Some (label_by case moment image.page byte (head_of case moment)) else None

-- that of a byte of the image of a number, where there is one
abbrev pub numbered_label : Gathered → Moment → Option PageImage → ℕ → Option Label
numbered_label case moment None byte = None
numbered_label case moment (Some image) byte = image_label case moment image byte

-- that of a byte by what it is part of
abbrev pub physical_label : Gathered → Moment → Physical → Option Label
physical_label case moment (Image i b) = numbered_label case moment (slice_get (images_of (images_in case)) i) b
physical_label case moment _ = None

-- the lines over a byte with this physical place, or that its file is shorter
abbrev pub explain_by : Gathered → Moment → Place → Option Physical → Result (List (List ℕ)) Refused
explain_by case moment place None = Err (NoByte (length_of (lengths_in case) place.part))
explain_by case moment place (Some physical) = Ok (explain_lines (images_in case) place physical moment (physical_label case moment physical))

unfoldable pub explain_at : Gathered → Moment → Place → Result (List (List ℕ)) Refused
explain_at case moment place = explain_by case moment place (physical_of (images_in case) place)

-- what looking for a byte may meet, want of memory among it
abbrev pub MayLackByte : Refused → Type 0
MayLackByte Memory = ⊤
MayLackByte (NoByte length) = ⊤
MayLackByte refused = ⊥

-- what looking for a byte at a moment may meet
abbrev pub MayMissByte : When → Refused → Type 0
MayMissByte at (NoMoment commits) = CanMiss at
MayMissByte at refused = MayLackByte refused
