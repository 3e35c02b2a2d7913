-- The header of a segment of a rollback journal ("Database File Format", section "The Rollback Journal").
-- Places are offsets in bytes from the start of the file. A word has 4 bytes, the high byte first.
use Rattle.std.specs.Prelude.{ℕ, ◌+◌, Bool, ◌&&◌, ◌==◌, nat_eq, nat_le, List, [], ◌∷◌, length, take, drop}
use Rattle.std.specs.Int.{is_power_of_two}
use Rattle.std.specs.List.{starts_with, list_all}
use Rattle.sx_base.specs.Bytes.{word_at}

-- the 8 bytes that a header begins with
abbrev pub magic : List ℕ
magic = 0xd9 ∷ 0xd5 ∷ 0x05 ∷ 0xf9 ∷ 0x20 ∷ 0xa1 ∷ 0x63 ∷ 0xd7 ∷ []

-- the number of records behind the header, as stored
abbrev pub count_at : List ℕ → ℕ → ℕ
count_at bytes header = word_at bytes (header + 8)

-- the number that the checksums behind the header begin with
abbrev pub nonce_at : List ℕ → ℕ → ℕ
nonce_at bytes header = word_at bytes (header + 12)

-- the size of the database in pages before the changes
abbrev pub initial_size_at : List ℕ → ℕ → ℕ
initial_size_at bytes header = word_at bytes (header + 16)

-- the sector size in bytes, to which the header is padded
abbrev pub sector_at : List ℕ → ℕ → ℕ
sector_at bytes header = word_at bytes (header + 20)

-- the page size in bytes
abbrev pub page_size_at : List ℕ → ℕ → ℕ
page_size_at bytes header = word_at bytes (header + 24)

-- a header stands at the place: its 28 bytes are there and the first 8 of them are right
unfoldable pub has_header : List ℕ → ℕ → Bool
has_header bytes place = nat_le (place + 28) (length bytes) && starts_with nat_eq (drop place bytes) magic

-- a power of two from 32 to 65536
unfoldable pub is_sector_size : ℕ → Bool
is_sector_size size = is_power_of_two size && nat_le 32 size && nat_le size 65536

-- the journal begins with a header of this page size and of a sector size that can be
unfoldable pub is_live : List ℕ → ℕ → Bool
is_live bytes page_size = has_header bytes 0 && (page_size_at bytes 0 == page_size) && is_sector_size (sector_at bytes 0)

-- the 28 bytes of the first header are zero
unfoldable pub is_zeroed : List ℕ → Bool
is_zeroed bytes = list_all (λ byte. byte == 0) (take 28 bytes)
