-- The sizes that a page can have, in bytes ("Page Size").
use Rattle.std.specs.Prelude.{ℕ, Bool, ◌&&◌, nat_le, ◌≤◌, IsTrue}
use Rattle.std.specs.Int.{is_power_of_two}

-- a power of two from 512 to 65536
pub record IsPageSize (size : ℕ) : Type 0 where
  pub power : IsTrue (is_power_of_two size)
  pub least : 512 ≤ size
  pub greatest : size ≤ 65536

-- the same as a test
unfoldable pub is_page_size : ℕ → Bool
is_page_size size = is_power_of_two size && nat_le 512 size && nat_le size 65536
