-- Numbers in bytes. The file formats store them big-endian, the high byte first; the checksum of a write-ahead log
-- may also run over little-endian words. The byte list counts from 0.
use Rattle.std.specs.Prelude.{ℕ, ◌+◌, ◌*◌, ◌^◌, List, slice_index}

-- the byte at a place
abbrev pub byte_at : List ℕ → ℕ → ℕ
byte_at bytes at = slice_index bytes at

-- the number in 2 bytes
abbrev pub two_bytes_at : List ℕ → ℕ → ℕ
two_bytes_at bytes at = 256 * byte_at bytes at + byte_at bytes (at + 1)

-- the number in 3 bytes
abbrev pub three_bytes_at : List ℕ → ℕ → ℕ
three_bytes_at bytes at = 256 ^ 2 * byte_at bytes at + 256 * byte_at bytes (at + 1) + byte_at bytes (at + 2)

-- a word, the number in 4 bytes
abbrev pub word_at : List ℕ → ℕ → ℕ
word_at bytes at =
    256 ^ 3 * byte_at bytes at + 256 ^ 2 * byte_at bytes (at + 1) + 256 * byte_at bytes (at + 2) + byte_at bytes (at + 3)

-- the number in 6 bytes
abbrev pub six_bytes_at : List ℕ → ℕ → ℕ
six_bytes_at bytes at =
    256 ^ 5 * byte_at bytes at
    + 256 ^ 4 * byte_at bytes (at + 1)
    + 256 ^ 3 * byte_at bytes (at + 2)
    + 256 ^ 2 * byte_at bytes (at + 3)
    + 256 * byte_at bytes (at + 4)
    + byte_at bytes (at + 5)

-- the number in 8 bytes
abbrev pub eight_bytes_at : List ℕ → ℕ → ℕ
eight_bytes_at bytes at =
    256 ^ 7 * byte_at bytes at
    + 256 ^ 6 * byte_at bytes (at + 1)
    + 256 ^ 5 * byte_at bytes (at + 2)
    + 256 ^ 4 * byte_at bytes (at + 3)
    + 256 ^ 3 * byte_at bytes (at + 4)
    + 256 ^ 2 * byte_at bytes (at + 5)
    + 256 * byte_at bytes (at + 6)
    + byte_at bytes (at + 7)

-- a word with the low byte first
abbrev pub little_word_at : List ℕ → ℕ → ℕ
little_word_at bytes at =
    byte_at bytes at + 256 * byte_at bytes (at + 1) + 256 ^ 2 * byte_at bytes (at + 2) + 256 ^ 3 * byte_at bytes (at + 3)
