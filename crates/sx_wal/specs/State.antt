-- The header of a write-ahead log, and the state that it gives the log ("WAL File Format").
use Rattle.std.specs.Prelude.{ℕ, ◌+◌, Bool, true, false, not, ◌&&◌, ◌||◌, if◌then◌else◌, ◌==◌, nat_lt, List, length, take}
use Rattle.sx_base.specs.Bytes.{word_at}
use Rattle.sx_bytes.specs.PageSize.{is_page_size}
use Rattle.sx_wal.specs.Checksum.{Sums, sums_of}
use Rattle.sx_wal.specs.declared.state.WalState.{WalState}
use Rattle.sx_wal.specs.declared.state.WalState.TheVariants.{Short, BadMagic, BadVersion, BadPageSize, OtherPageSize, BadHeaderSum, Good}

-- the magic of a log whose checksum reads words with the low byte first
abbrev pub little_magic : ℕ
little_magic = 0x377f0682

-- the magic of a log whose checksum reads words with the high byte first
abbrev pub big_magic : ℕ
big_magic = 0x377f0683

-- the checksum reads words with the high byte first
abbrev pub is_big : List ℕ → Bool
is_big bytes = word_at bytes 0 == big_magic

-- the bytes begin with one of the two magics
abbrev pub has_magic : List ℕ → Bool
has_magic bytes = word_at bytes 0 == little_magic || word_at bytes 0 == big_magic

-- two words, one after the other
abbrev pub two_words_at : List ℕ → ℕ → ℕ × ℕ
two_words_at bytes at = (word_at bytes at, word_at bytes (at + 4))

-- two pairs of words are the same
abbrev pub are_same : ℕ × ℕ → ℕ × ℕ → Bool
are_same a b = a.0 == b.0 && a.1 == b.1

-- the sums over the header's first 24 bytes
unfoldable pub header_sums : List ℕ → Sums
header_sums bytes = sums_of (is_big bytes) (0, 0) (take 24 bytes)

-- the state of a log that is there: the first test that fails
unfoldable pub state_of : List ℕ → ℕ → WalState
state_of bytes page_size =
    if nat_lt (length bytes) 32 then Short
    else (if not (has_magic bytes) then BadMagic
    else (if not (word_at bytes 4 == 3007000) then BadVersion
    else (if not (is_page_size (word_at bytes 8)) then BadPageSize
    else (if not (word_at bytes 8 == page_size) then OtherPageSize
    else (if not (are_same (two_words_at bytes 24) (header_sums bytes)) then BadHeaderSum
    else Good)))))

-- all tests passed
abbrev pub is_good : WalState → Bool
is_good Good = true
is_good _ = false

-- the states in which frames are looked for
abbrev pub has_slots : WalState → Bool
has_slots Good = true
has_slots BadHeaderSum = true
has_slots _ = false
