-- Texts in UTF-8 as they are printed, by the Unicode Standard's table of well-formed byte sequences.
use Rattle.std.specs.Prelude.{ℕ, zero, suc, ◌-◌, Bool, ◌&&◌, ◌==◌, nat_le, if◌then◌else◌, List, [], ◌∷◌, ◌++◌, length, take, drop, slice_index, Option, Some, None}
use Rattle.std.specs.List.{list_all}
use Rattle.sx_record.specs.declared.utf8.Sequence.{Sequence}
use Rattle.sx_record.specs.Escape.{byte_text}

-- the byte lies in a range, both ends included
abbrev pub is_within : ℕ → ℕ → ℕ → Bool
is_within low high byte = nat_le low byte && nat_le byte high

-- the rows of the table by their first byte: the length of the sequence and the range of its second byte
unfoldable pub sequence_of : ℕ → Option Sequence
sequence_of first =
    if is_within 0xc2 0xdf first then Some (record { len = 2; low = 0x80; high = 0xbf })
    else (if first == 0xe0 then Some (record { len = 3; low = 0xa0; high = 0xbf })
    else (if is_within 0xe1 0xec first then Some (record { len = 3; low = 0x80; high = 0xbf })
    else (if first == 0xed then Some (record { len = 3; low = 0x80; high = 0x9f })
    else (if is_within 0xee 0xef first then Some (record { len = 3; low = 0x80; high = 0xbf })
    else (if first == 0xf0 then Some (record { len = 4; low = 0x90; high = 0xbf })
    else (if is_within 0xf1 0xf3 first then Some (record { len = 4; low = 0x80; high = 0xbf })
    else (if first == 0xf4 then Some (record { len = 4; low = 0x80; high = 0x8f })
    else None)))))))

-- the bytes are long enough, their second byte is in its range and each later one of the sequence from 80 to BF
abbrev pub is_continued : Sequence → List ℕ → Bool
is_continued sequence bytes =
    nat_le sequence.len (length bytes)
    && is_within sequence.low sequence.high (slice_index bytes 1)
    && list_all (is_within 0x80 0xbf) (take (sequence.len - 2) (drop 2 bytes))

abbrev pub continued_len : List ℕ → Option Sequence → ℕ
continued_len bytes None = 0
continued_len bytes (Some sequence) = if is_continued sequence bytes then sequence.len else 0

-- the length of the well-formed sequence of two bytes or more at the front, 0 where there is none
unfoldable pub sequence_len : List ℕ → ℕ
sequence_len bytes = continued_len bytes (sequence_of (slice_index bytes 0))

-- the same of a character from U+00A0 up: the bytes C2 80 to C2 9F are those from U+0080 to U+009F
unfoldable pub character_len : List ℕ → ℕ
character_len bytes = if slice_index bytes 0 == 0xc2 && is_within 0x80 0x9f (slice_index bytes 1) then 0 else sequence_len bytes

-- a text of at most so many bytes as it is printed: the character from U+00A0 up at its front stands as it is, or else
-- its first byte is printed by itself; and then comes what is behind
unfoldable pub utf8_within : ℕ → List ℕ → List ℕ
utf8_within zero bytes = []
utf8_within (suc most) [] = []
utf8_within (suc most) (byte ∷ bytes) =
    if character_len (byte ∷ bytes) == 0 then byte_text byte ++ utf8_within most bytes
    else take (character_len (byte ∷ bytes)) (byte ∷ bytes) ++ utf8_within most (drop (character_len (byte ∷ bytes)) (byte ∷ bytes))

-- a text as it is printed
unfoldable pub utf8_text : List ℕ → List ℕ
utf8_text bytes = utf8_within (length bytes) bytes
