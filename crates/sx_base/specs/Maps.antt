-- Which pages stand apart from the trees: the lock-byte page ("The Lock-Byte Page") and the pointer-map pages
-- ("Pointer Map or Ptrmap Pages").
use Rattle.std.specs.Prelude.{ℕ, ◌+◌, ◌-◌, ◌/◌, ◌%◌, ◌^◌, ◌==◌, ◌&&◌, ◌||◌, Bool, not, nat_le}

-- the page that holds the byte at 2^30
abbrev pub lock_page_of : ℕ → ℕ
lock_page_of page_size = 2 ^ 30 / page_size + 1

-- page 2, or a whole number of steps after it: a map's own page and the pages of its entries, 5 usable bytes each
abbrev pub is_map_place : ℕ → ℕ → Bool
is_map_place usable number = nat_le 2 number && ((number - 2) % (usable / 5 + 1) == 0)

-- a map stands at each of these places but the lock-byte page; the map that would stand there is the page after it
unfoldable pub is_map_page : ℕ → ℕ → ℕ → Bool
is_map_page lock usable number =
    (is_map_place usable number && not (number == lock)) || (number == lock + 1 && is_map_place usable lock)
