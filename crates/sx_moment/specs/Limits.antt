-- How large the files of a case may be.
use Rattle.std.specs.Prelude.{ℕ, ◌^◌, ◌<◌, List, Option, length}
use Rattle.sx_moment.specs.Gathered.{bytes_in}

-- each file has fewer than 2^32 bytes
pub record IsSmall (database : List ℕ) (wal journal : Option (List ℕ)) : Type 0 where
  pub database_small : length database < 2 ^ 32
  pub wal_small : length (bytes_in wal) < 2 ^ 32
  pub journal_small : length (bytes_in journal) < 2 ^ 32
