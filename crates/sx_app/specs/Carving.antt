-- What stands of deleted rows, where nothing uses the bytes at some moments: what `carve` asks for.
use Rattle.std.specs.Prelude.{◌≡◌, ℕ, Bool, if◌then◌else◌, List, [], ◌∷◌, length, Option, None, Some}
use Rattle.sx_base.specs.declared.moment.Moment.{Moment}
use Rattle.sx_header.specs.declared.header.Header.{Header}
use Rattle.sx_moment.specs.Gathered.{Gathered, moments_of, size_at}
use Rattle.sx_moment.specs.Heads.{head_of, layout_of, encoding_at}
use Rattle.sx_moment.specs.Views.{view_of}
use Rattle.sx_schema.specs.Entries.{schema_of}
use Rattle.sx_images.specs.Images.{images_of}
use Rattle.sx_sweep.specs.Owning.{owned_under, block_under}
use Rattle.sx_grammar.specs.declared.shape.ShapeKey.{ShapeKey}
use Rattle.sx_grammar.specs.Choice.{Rises}
use Rattle.sx_grammar.specs.Sightings.{Sighting}
use Rattle.sx_shapes.specs.Shapes.{shapes_of}
use Rattle.sx_owned.specs.Owned.{images_of as owned_images}
use Rattle.sx_carve.specs.Candidates.{Told, told_by, TellSame, Carved, candidates_of}
use Rattle.sx_carve.specs.Evidence.{evidence_bytes}
use Rattle.sx_carve_text.specs.Carve.{carve_lines}
use Rattle.sx_carve_text.specs.Spilled.{spilled_lines}
use Rattle.sx_spill.specs.Completion.{completed_of}
use Rattle.sx_spill.specs.Unused.{unused_pages}
use Rattle.sx_words.specs.declared.request.When.{When}
use Rattle.sx_words.specs.declared.request.When.TheVariants.{Last}
use Rattle.sx_words.specs.declared.request.Which.{Which}
use Rattle.sx_words.specs.declared.request.Which.TheVariants.{All, One}
use Rattle.sx_app.specs.Labels.{images_in}
use Rattle.sx_app.specs.declared.carving.Carving.{Carving}

-- the last of the moments that are asked for
abbrev pub latest : Which → When
latest All = Last
latest (One at) = at

-- the moments that are asked for, of which this is the last
abbrev pub selected : Gathered → Which → Moment → List Moment
selected case All moment = moments_of case
selected case (One at) moment = moment ∷ []

-- what of the page images is owned under some moments, and where freeblocks begin
abbrev pub told_under : Gathered → List Moment → Told
told_under case moments = record {
  owned = owned_under case (images_of (images_in case)) moments;
  block = block_under case (images_of (images_in case)) moments;
}

-- the shapes of the tables of a moment with this header; without one none is known
abbrev pub shapes_by : Gathered → Moment → Option Header → List ShapeKey
shapes_by case moment None = []
shapes_by case moment (Some head) = shapes_of (schema_of (size_at case moment) (view_of case moment) (layout_of case moment).usable (encoding_at case moment))

unfoldable pub shapes_at : Gathered → Moment → List ShapeKey
shapes_at case moment = shapes_by case moment (head_of case moment)

-- the candidates under some moments, by the layout and the schema of the last of them
abbrev pub candidates_under : Gathered → List Moment → Moment → List Carved
candidates_under case moments last =
    candidates_of (layout_of case last).usable (shapes_at case last) (told_under case moments) case.header.page_size
    (evidence_bytes case.database case.wal_bytes case.journal_bytes) (images_of (images_in case))

-- what completes a candidate: the pages that the last of some moments sees, where no usable byte of them is owned under any
abbrev pub completed_under : Gathered → List Moment → Moment → Sighting → Option (List ℕ)
completed_under case moments last =
    completed_of (unused_pages case last (images_in case) (told_under case moments).owned (layout_of case last).usable)

-- the lines, with completed candidates or without
unfoldable pub carve_at : Gathered → List Moment → Moment → Bool → List (List ℕ)
carve_at case moments last spill =
    if spill
    then spilled_lines (encoding_at case last) (images_of (images_in case)) (completed_under case moments last) (candidates_under case moments last)
    else carve_lines (encoding_at case last) (images_of (images_in case)) (candidates_under case moments last)

-- what was prepared is of this case, these moments and the last of them
pub record IsCarving (case : Gathered) (moments : List Moment) (last : Moment) (made : Carving) : Type 0 where
  pub images : made.images ≡ images_in case
  pub told : TellSame (told_by made.owned) (told_under case moments)
  pub count : owned_images made.owned ≡ length (images_of made.images)
  pub size : made.owned.page_size ≡ made.images.page_size
  pub shapes : made.shapes.items ≡ shapes_at case last
  pub rise : Rises 1 made.shapes.items
