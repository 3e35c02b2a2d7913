-- The four kinds of b-tree pages ("B-tree Pages").
use Rattle.std.specs.Prelude.{Bool, true, false}
use Rattle.sx_cell.specs.declared.cell.Kind.{Kind}
use Rattle.sx_cell.specs.declared.cell.Kind.TheVariants.{TableLeaf, TableInner, IndexLeaf, IndexInner}

-- a page of a table, and not of an index
abbrev pub is_table : Kind → Bool
is_table TableLeaf = true
is_table TableInner = true
is_table IndexLeaf = false
is_table IndexInner = false

-- an interior page, and not a leaf
abbrev pub is_inner : Kind → Bool
is_inner TableLeaf = false
is_inner TableInner = true
is_inner IndexLeaf = false
is_inner IndexInner = true

-- the cells of interior pages have a left child
abbrev pub has_child : Kind → Bool
has_child kind = is_inner kind
