-- Variable-length integers: which bytes spell which number, and what stands at the front of a list of bytes ("B-tree
-- Pages"). Each of the first eight bytes gives its low 7 bits, the highest bits first, and says by its top bit that
-- the number goes on; the ninth gives all of its 8 bits.
use Rattle.std.specs.Prelude.{◌≡◌, ◌⊎◌, ℕ, ◌+◌, ◌*◌, ◌%◌, ◌^◌, ◌<◌, ◌≤◌, ◌==◌, nat_lt, if◌then◌else◌, List, [], ◌∷◌, ◌++◌, length, All, Option, Some, None}

-- the bytes are the rest of a number's spelling: so many came before, and gave this number
abbrev pub IsRest : ℕ → ℕ → List ℕ → ℕ → Type 0
IsRest read high [] value = ⊥
IsRest read high (b ∷ []) value =
    ((read ≡ 8) × (value ≡ high * 256 + b)) ⊎ ((read < 8) × (b < 128) × (value ≡ high * 128 + b))
IsRest read high (b ∷ c ∷ bs) value = (read < 8) × (128 ≤ b) × IsRest (read + 1) (high * 128 + b % 128) (c ∷ bs) value

-- the bytes spell the number
abbrev pub IsVarint : List ℕ → ℕ → Type 0
IsVarint bytes value = IsRest 0 0 bytes value

-- a spelling of the number, of that many bytes, stands at the front
pub record BeginsWith (bytes : List ℕ) (value read : ℕ) : Type 0 where
  pub text : List ℕ
  pub rest : List ℕ
  pub parts : bytes ≡ text ++ rest
  pub long : read ≡ length text
  pub spells : IsVarint text value

-- the bytes end before the number at their front does
pub record EndsInside (bytes : List ℕ) : Type 0 where
  pub short : length bytes < 9
  pub goes_on : All (λ b. 128 ≤ b) bytes

-- the number that the bytes go on with and how many bytes it has, where so many came before and gave this number
abbrev pub varint_from : ℕ → ℕ → List ℕ → Option (ℕ × ℕ)
varint_from read high [] = None
varint_from read high (b ∷ bs) =
    if read == 8 then Some (high * 256 + b, 9)
    else (if nat_lt b 128 then Some (high * 128 + b, read + 1)
    else varint_from (read + 1) (high * 128 + b % 128) bs)

-- the number at the front and how many bytes it has; none where the bytes end inside it
unfoldable pub varint_at : List ℕ → Option (ℕ × ℕ)
varint_at bytes = varint_from 0 0 bytes

-- how many bytes the shortest spelling of a number has
unfoldable pub shortest : ℕ → ℕ
shortest value =
    if nat_lt value (2 ^ 7) then 1
    else (if nat_lt value (2 ^ 14) then 2
    else (if nat_lt value (2 ^ 21) then 3
    else (if nat_lt value (2 ^ 28) then 4
    else (if nat_lt value (2 ^ 35) then 5
    else (if nat_lt value (2 ^ 42) then 6
    else (if nat_lt value (2 ^ 49) then 7
    else (if nat_lt value (2 ^ 56) then 8
    else 9)))))))

-- what was found, where its spelling is the shortest
abbrev pub only_shortest : Option (ℕ × ℕ) → Option (ℕ × ℕ)
only_shortest None = None
only_shortest (Some found) = if found.1 == shortest found.0 then Some found else None

-- the number at the front in its shortest spelling
unfoldable pub short_at : List ℕ → Option (ℕ × ℕ)
short_at bytes = only_shortest (varint_at bytes)
