-- What the items of a tree hold ("B-tree Pages", "Record Format").
use Rattle.std.specs.Prelude.{ℕ, List, Option, None}
use Rattle.sx_tree.specs.declared.item.RowItem.{RowItem}
use Rattle.sx_tree.specs.declared.item.RowItem.TheVariants.{Row, Fault}
use Rattle.sx_row.specs.Rows.{RowContent, row_of}

-- the row of an item, if it is one whose cell can be read
abbrev pub item_row : ℕ → (ℕ → Option (List ℕ)) → ℕ → RowItem → Option RowContent
item_row size view usable (Row page cell) = row_of size view usable page cell
item_row size view usable (Fault kind page cell) = None
