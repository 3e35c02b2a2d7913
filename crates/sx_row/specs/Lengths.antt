-- The lengths of chains that were found so far.
use Rattle.std.specs.Prelude.{◌≡◌, ℕ, List, length, Option}
use Rattle.std.specs.Ordering.{nat_cmp}
use Rattle.std.specs.BTreeMap.{get}
use Rattle.sx_base.specs.Held.{held_pages}
use Rattle.sx_row.specs.declared.lengths.ChainLengths.{ChainLengths}
use Rattle.sx_row.specs.Marks.{IsKnown}

-- they are those of these pages, counted up to as many pages as are held
pub record AreLengths (size : ℕ) (view : ℕ → Option (List ℕ)) (lengths : ChainLengths) : Type 0 where
  pub most : lengths.most ≡ length (held_pages size view)
  pub known : IsKnown view lengths.most (get nat_cmp lengths.known)
