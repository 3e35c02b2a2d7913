-- The frames of a write-ahead log, and which of them are valid ("WAL File Format", "Checksum Algorithm"). A slot is the
-- place of a whole frame. Slots and frames are numbered from 0.
use Rattle.std.specs.Prelude.{ℕ, ◌+◌, ◌-◌, ◌*◌, ◌/◌, Bool, not, ◌&&◌, if◌then◌else◌, ◌==◌, List, ◌++◌, length, take, drop, Option, Some, None}
use Rattle.std.specs.List.{list_all, flat_map, range_with_len}
use Rattle.sx_base.specs.Bytes.{word_at}
use Rattle.sx_wal.specs.Checksum.{Sums, sums_of}
use Rattle.sx_wal.specs.State.{is_big, two_words_at, are_same, state_of, is_good, has_slots}

-- the length of a frame: a header of 24 bytes, and a page
abbrev pub frame_len : ℕ → ℕ
frame_len page_size = 24 + page_size

-- where frame i begins, in bytes from the start of the log
abbrev pub frame_at : ℕ → ℕ → ℕ
frame_at page_size i = 32 + i * frame_len page_size

-- how many whole frames stand behind the header
abbrev pub whole_frames : ℕ → List ℕ → ℕ
whole_frames page_size bytes = (length bytes - 32) / frame_len page_size

-- how many slots there are
unfoldable pub slot_count : ℕ → List ℕ → ℕ
slot_count page_size bytes = if has_slots (state_of bytes page_size) then whole_frames page_size bytes else 0

-- what the checksum covers of frame i: its first 8 bytes, and its page
unfoldable pub covered : ℕ → List ℕ → ℕ → List ℕ
covered page_size bytes i =
    take 8 (drop (frame_at page_size i) bytes) ++ take page_size (drop (frame_at page_size i + 24) bytes)

-- the sums over the header's first 24 bytes and what the checksum covers of the first n frames
unfoldable pub running_sums : ℕ → List ℕ → ℕ → Sums
running_sums page_size bytes n =
    sums_of (is_big bytes) (0, 0) (take 24 bytes ++ flat_map (covered page_size bytes) (range_with_len 0 n))

-- frame i has the salts of the log's header
unfoldable pub has_salts : ℕ → List ℕ → ℕ → Bool
has_salts page_size bytes i = are_same (two_words_at bytes (frame_at page_size i + 8)) (two_words_at bytes 16)

-- frame i has a page number, the salts of the log's header, and stores these sums
unfoldable pub agrees : ℕ → List ℕ → ℕ → Sums → Bool
agrees page_size bytes i sums =
    not (word_at bytes (frame_at page_size i) == 0)
    && has_salts page_size bytes i
    && are_same (two_words_at bytes (frame_at page_size i + 16)) sums

-- frame i fits: it agrees with the sums over all that stands up to its end
abbrev pub fits : ℕ → List ℕ → ℕ → Bool
fits page_size bytes i = agrees page_size bytes i (running_sums page_size bytes (i + 1))

-- the log is good, and each of its first n frames fits
unfoldable pub first_fit : ℕ → List ℕ → ℕ → Bool
first_fit page_size bytes n =
    is_good (state_of bytes page_size) && list_all (fits page_size bytes) (range_with_len 0 n)

-- slot i is valid: it fits, and each slot before it
abbrev pub is_valid : ℕ → List ℕ → ℕ → Bool
is_valid page_size bytes i = first_fit page_size bytes (i + 1)
