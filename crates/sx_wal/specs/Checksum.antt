-- The checksum of a write-ahead log: it runs over pairs of words, and carries two sums from pair to pair ("Checksum
-- Algorithm").
use Rattle.std.specs.Prelude.{ℕ, zero, suc, ◌+◌, ◌/◌, ◌%◌, ◌^◌, Bool, if◌then◌else◌, List, length, drop}
use Rattle.sx_base.specs.Bytes.{word_at, little_word_at}

-- the two sums, each below 2^32
abbrev pub Sums : Type 0
Sums = ℕ × ℕ

-- the sums after one more pair of words, x and y
abbrev pub summed : Sums → ℕ → ℕ → Sums
summed sums x y =
    let first = (sums.0 + x + sums.1) % 2 ^ 32 in
    (first, (sums.1 + y + first) % 2 ^ 32)

-- a word with the high or the low byte first
abbrev pub ordered_word_at : Bool → List ℕ → ℕ → ℕ
ordered_word_at big bytes at = if big then word_at bytes at else little_word_at bytes at

-- the sums after the first pair of the bytes
abbrev pub pair_summed : Bool → Sums → List ℕ → Sums
pair_summed big sums bytes = summed sums (ordered_word_at big bytes 0) (ordered_word_at big bytes 4)

-- the sums after so many pairs of the bytes
abbrev pub sums_over : Bool → ℕ → Sums → List ℕ → Sums
sums_over big zero sums bytes = sums
sums_over big (suc pairs) sums bytes = sums_over big pairs (pair_summed big sums bytes) (drop 8 bytes)

-- the sums after all pairs of the bytes
unfoldable pub sums_of : Bool → Sums → List ℕ → Sums
sums_of big sums bytes = sums_over big (length bytes / 8) sums bytes
