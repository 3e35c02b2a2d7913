-- The freeblocks of a b-tree page: a chain through the page, each block with the offset of the next and its own size
-- ("B-tree Pages"). Damaged pages may have any bytes there, so three rules say how far the chain is followed.
use Rattle.std.specs.Prelude.{◌≡◌, ℕ, zero, suc, ◌+◌, ◌==◌, ◌||◌, nat_lt, if◌then◌else◌, List, [], ◌∷◌, Option, Some, None}
use Rattle.sx_base.specs.Bytes.{two_bytes_at}
use Rattle.sx_base.specs.declared.evidence.Span.{Span}
use Rattle.sx_node.specs.Nodes.{NodePage, first_freeblock}

-- the offset of the next block, as a block says it
abbrev pub next_at : List ℕ → ℕ → ℕ
next_at page at = two_bytes_at page at

-- the size of a block in bytes, as it says it
abbrev pub size_at : List ℕ → ℕ → ℕ
size_at page at = two_bytes_at page (at + 2)

-- the size of the block at an offset, if one counts there: the offset isn't 0, its first four bytes end within the
-- usable ones, its size is at least 4, and it ends within them too
unfoldable pub counts : List ℕ → ℕ → ℕ → Option ℕ
counts page usable at =
    if at == 0 || nat_lt usable (at + 4) then None
    else (if nat_lt (size_at page at) 4 || nat_lt usable (at + size_at page at) then None
    else Some (size_at page at))

-- the offset after the block at `at` that ends at `end`: the one that it names, or 0 where that lies before its end
unfoldable pub after : List ℕ → ℕ → ℕ → ℕ
after page at end = if nat_lt (next_at page at) end then 0 else next_at page at

-- the list is that of the blocks from an offset on: each counts and stands where the one before says, and behind the
-- last none counts
abbrev pub IsWalk : List ℕ → ℕ → ℕ → List Span → Type 0
IsWalk page usable at [] = counts page usable at ≡ None
IsWalk page usable at (block ∷ blocks) =
    (block.start ≡ at) × (counts page usable at ≡ Some block.len) × IsWalk page usable (after page at (at + block.len)) blocks

-- what follows from a size, if there is one
abbrev pub listed : Option ℕ → (ℕ → List Span) → List Span
listed None blocks = []
listed (Some size) blocks = blocks size

-- the blocks from an offset on, at most so many
abbrev pub walk : ℕ → List ℕ → ℕ → ℕ → List Span
walk zero page usable at = []
walk (suc most) page usable at =
    listed (counts page usable at) (λ size. record { start = at; len = size } ∷ walk most page usable (after page at (at + size)))

-- the blocks from an offset on: they don't overlap, so a page has fewer than usable bytes
unfoldable pub blocks_from : List ℕ → ℕ → ℕ → List Span
blocks_from page usable at = walk usable page usable at

-- the freeblocks of a b-tree page
abbrev pub freeblocks_of : NodePage → List Span
freeblocks_of node = blocks_from node.page node.usable (first_freeblock node)
