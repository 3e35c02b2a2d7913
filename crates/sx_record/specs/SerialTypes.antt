-- Serial types: how long the body of a column is, and which value its bytes are ("Record Format").
use Rattle.std.specs.Prelude.{ℕ, ◌+◌, ◌-◌, ◌/◌, ◌%◌, ◌^◌, ◌==◌, Bool, ◌||◌, nat_lt, if◌then◌else◌, ℤ, pos, negsuc, suc, List}
use Rattle.sx_base.specs.Bytes.{byte_at, two_bytes_at, three_bytes_at, word_at, six_bytes_at, eight_bytes_at}
use Rattle.sx_record.specs.Content.{Content, null, integer, real, text, blob}

-- the length of the body in bytes
unfoldable pub body_len : ℕ → ℕ
body_len type =
    if nat_lt type 5 then type
    else (if type == 5 then 6
    else (if nat_lt type 8 then 8
    else (if nat_lt type 12 then 0
    else (type - 12) / 2)))

-- the two types that no record has
unfoldable pub is_unused : ℕ → Bool
is_unused type = type == 10 || type == 11

-- a number of one sign bit and others below it in two's complement, where `half` is the sign bit's worth
abbrev pub twos_complement : ℕ → ℕ → ℤ
twos_complement half number = if nat_lt number half then pos number else negsuc (half + half - suc number)

-- the integers of 1, 2, 3, 4, 6 and 8 bytes
unfoldable pub integer_of : ℕ → List ℕ → ℤ
integer_of type body =
    if type == 1 then twos_complement (2 ^ 7) (byte_at body 0)
    else (if type == 2 then twos_complement (2 ^ 15) (two_bytes_at body 0)
    else (if type == 3 then twos_complement (2 ^ 23) (three_bytes_at body 0)
    else (if type == 4 then twos_complement (2 ^ 31) (word_at body 0)
    else (if type == 5 then twos_complement (2 ^ 47) (six_bytes_at body 0)
    else twos_complement (2 ^ 63) (eight_bytes_at body 0)))))

-- what a column of this type with this body holds
unfoldable pub content_in : ℕ → List ℕ → Content
content_in type body =
    if type == 0 then null
    else (if nat_lt type 7 then integer (integer_of type body)
    else (if type == 7 then real body
    else (if type == 8 then integer (pos 0)
    else (if type == 9 then integer (pos 1)
    else (if type % 2 == 0 then blob body
    else text body)))))
