-- Which bytes of page images are owned, and where freeblocks begin, under some moments. A byte of an image is owned where
-- some of the moments has a header, has the image as the view of a page, and there the byte is one that the database uses.
-- A freeblock begins where some of them has the image as the view of a b-tree page that one reference leads to, and a block
-- of that page's freeblock chain begins there ("B-tree Pages").
use Rattle.std.specs.Prelude.{ℕ, ◌&&◌, ◌==◌, nat_lt, Bool, false, List, slice_get, Option, Some, None, Result, Ok, Err}
use Rattle.std.specs.List.{list_any, range_with_len}
use Rattle.sx_base.specs.Labels.{is_owning}
use Rattle.sx_base.specs.declared.evidence.Place.{Place}
use Rattle.sx_base.specs.declared.evidence.Span.{Span}
use Rattle.sx_base.specs.declared.layout.Layout.{Layout}
use Rattle.sx_base.specs.declared.moment.Moment.{Moment}
use Rattle.sx_base.specs.declared.role.Role.{Role}
use Rattle.sx_base.specs.declared.role.Role.TheVariants.{Node, Overflow, Trunk, FreeLeaf, PointerMap}
use Rattle.sx_header.specs.declared.header.Header.{Header}
use Rattle.sx_moment.specs.Gathered.{Gathered, size_at, is_moment}
use Rattle.sx_moment.specs.Heads.{head_of, layout_of, encoding_at}
use Rattle.sx_moment.specs.Views.{view_of, source_of}
use Rattle.sx_node.specs.declared.node.NodeFault.{NodeFault}
use Rattle.sx_node.specs.Nodes.{NodePage, node_of}
use Rattle.sx_node.specs.Freeblocks.{freeblocks_of}
use Rattle.sx_schema.specs.Entries.{schema_of, roots_of}
use Rattle.sx_closure.specs.declared.pair.Target.{Target}
use Rattle.sx_closure.specs.Graph.{Graph, references_to, only}
use Rattle.sx_refs.specs.Pages.{graph_of}
use Rattle.sx_prov.specs.Labels.{label_of}
use Rattle.sx_images.specs.declared.image.Image.{Image}
use Rattle.sx_images.specs.Images.{part_number}

-- ---- images as views

-- an image begins at a place
abbrev pub begins_at : Place → Option Image → Bool
begins_at place None = false
begins_at place (Some image) = (part_number image.part == part_number place.part) && (image.offset == place.offset)

-- an image is the view that begins at this place, where there is one
abbrev pub is_viewed : List Image → Option Place → ℕ → Bool
is_viewed images None image = false
is_viewed images (Some place) image = begins_at place (slice_get images image)

-- ---- freeblocks

-- some block begins at an offset
unfoldable pub blocks_begin : List Span → ℕ → Bool
blocks_begin blocks at = list_any (λ block. at == block.start) blocks

-- a block of a b-tree page begins at an offset
abbrev pub block_begins : Result NodePage NodeFault → ℕ → Bool
block_begins (Ok node) at = blocks_begin (freeblocks_of node) at
block_begins (Err fault) at = false

-- a block of a page with one reference of this role
abbrev pub role_begins : Role → List ℕ → ℕ → ℕ → ℕ → Bool
role_begins Node bytes page usable at = block_begins (node_of bytes page usable) at
role_begins Overflow bytes page usable at = false
role_begins Trunk bytes page usable at = false
role_begins FreeLeaf bytes page usable at = false
role_begins PointerMap bytes page usable at = false

-- a block of a page with this one reference and this view, where it has both
abbrev pub one_begins : Option Target → Option (List ℕ) → ℕ → ℕ → ℕ → Bool
one_begins None view page usable at = false
one_begins (Some target) None page usable at = false
one_begins (Some target) (Some bytes) page usable at = role_begins target.pair.role bytes page usable at

-- ---- a page of a moment

-- a byte of an image is owned by a page: the image is the page's view, and the page uses the byte
unfoldable pub page_owns : Graph → Layout → (ℕ → Option (List ℕ)) → (ℕ → Option Place) → List Image → ℕ → ℕ → ℕ → Bool
page_owns graph layout view source images image at page =
    is_viewed images (source page) image && (nat_lt at layout.page_size && is_owning (label_of graph layout view page at))

-- a freeblock of a page begins at an offset of an image: the image is the page's view
unfoldable pub page_begins : Graph → Layout → (ℕ → Option (List ℕ)) → (ℕ → Option Place) → List Image → ℕ → ℕ → ℕ → Bool
page_begins graph layout view source images image at page =
    is_viewed images (source page) image && one_begins (only (references_to graph page)) (view page) page layout.usable at

-- ---- a moment

-- what refers to what at a moment
abbrev pub graph_at : Gathered → Moment → Graph
graph_at case moment =
    graph_of (size_at case moment) (view_of case moment) (layout_of case moment)
    (roots_of (schema_of (size_at case moment) (view_of case moment) (layout_of case moment).usable (encoding_at case moment)))

-- a page of a moment with this header owns the byte; without one nothing does
abbrev pub headed_owns : Gathered → List Image → Moment → Option Header → ℕ → ℕ → Bool
headed_owns case images moment None image at = false
headed_owns case images moment (Some head) image at =
    list_any (page_owns (graph_at case moment) (layout_of case moment) (view_of case moment) (source_of case moment) images image at)
    (range_with_len 1 (size_at case moment))

abbrev pub headed_begins : Gathered → List Image → Moment → Option Header → ℕ → ℕ → Bool
headed_begins case images moment None image at = false
headed_begins case images moment (Some head) image at =
    list_any (page_begins (graph_at case moment) (layout_of case moment) (view_of case moment) (source_of case moment) images image at)
    (range_with_len 1 (size_at case moment))

-- a byte of an image is owned at a moment of the case
unfoldable pub moment_owns : Gathered → List Image → ℕ → ℕ → Moment → Bool
moment_owns case images image at moment = is_moment case moment && headed_owns case images moment (head_of case moment) image at

-- a freeblock begins at an offset of an image at a moment of the case
unfoldable pub moment_begins : Gathered → List Image → ℕ → ℕ → Moment → Bool
moment_begins case images image at moment = is_moment case moment && headed_begins case images moment (head_of case moment) image at

-- ---- moments

-- owned under some moments, in this case and among these images
unfoldable pub owned_under : Gathered → List Image → List Moment → ℕ → ℕ → Bool
owned_under case images moments image at = list_any (moment_owns case images image at) moments

-- a freeblock begins under some moments
unfoldable pub block_under : Gathered → List Image → List Moment → ℕ → ℕ → Bool
block_under case images moments image at = list_any (moment_begins case images image at) moments
