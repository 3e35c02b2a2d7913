-- What `page` prints: where the bytes of a page stand at a moment, and what they are read as.
use Rattle.std.specs.Prelude.{ℕ, Bool, if◌then◌else◌, List, [], ◌∷◌, ◌++◌, Option, None, Some, codes}
use Rattle.std.specs.Fmt.{decimal}
use Rattle.sx_base.specs.declared.evidence.Place.{Place}
use Rattle.sx_base.specs.declared.moment.Moment.{Moment}
use Rattle.sx_moment.specs.Gathered.{Gathered}
use Rattle.sx_moment.specs.Marks.{is_uncertain}
use Rattle.sx_moment.specs.Views.{source_of, view_of}
use Rattle.sx_moment.specs.Heads.{layout_of}
use Rattle.sx_node.specs.Nodes.{node_of}
use Rattle.sx_page_text.specs.NodeText.{node_lines}
use Rattle.sx_lines.specs.Names.{part_name}

-- the mark of a page that a checkpoint may have written over
abbrev pub mark_text : Bool → List ℕ
mark_text uncertain = if uncertain then codes " uncertain" else []

-- the first line: the page isn't there, or the part that its view comes from, and the offset in bytes where it begins
unfoldable pub source_line : ℕ → Option Place → Bool → List ℕ
source_line number None uncertain = codes "page " ++ decimal number ++ codes " absent"
source_line number (Some place) uncertain =
    codes "page "
    ++ decimal number
    ++ codes " from "
    ++ part_name place.part
    ++ codes " offset "
    ++ decimal place.offset
    ++ mark_text uncertain

-- the lines behind the first: the view read as a page of a b-tree, or none where there is no view
abbrev pub page_body : ℕ → ℕ → Option (List ℕ) → List (List ℕ)
page_body number usable None = []
page_body number usable (Some page) = node_lines (node_of page number usable)

-- all lines over a page at a moment
abbrev pub page_lines : Gathered → Moment → ℕ → List (List ℕ)
page_lines case moment number =
    source_line number (source_of case moment number) (is_uncertain case moment number)
    ∷ page_body number (layout_of case moment).usable (view_of case moment number)
