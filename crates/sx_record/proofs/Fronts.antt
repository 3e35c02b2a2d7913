-- The text of bytes in UTF-8 from its front on: a character, a byte by itself, nothing at all.
use Rattle.std.proofs.Common.{◌≡◌, ℕ, zero, suc, ◌<◌, ◌≤◌, ◌==◌, if◌then◌else◌, false, List, [], ◌∷◌, ◌++◌, length, take, drop, refl, ap, arith, length-drop}
use Rattle.std.proofs.lemmas.Bool.Decides.{nat_tests}
use Rattle.sx_record.specs.Escape.{byte_text}
use Rattle.sx_record.specs.Utf8.{sequence_of, sequence_len, character_len, utf8_within, utf8_text}

-- how many bytes there may be makes no difference, where they are enough
enough_by : (len byte most more : ℕ) (bytes : List ℕ) → length bytes ≤ most → length bytes ≤ more
    → ((left : List ℕ) → length left ≤ length bytes → utf8_within most left ≡ utf8_within more left)
    → (if len == 0 then byte_text byte ++ utf8_within most bytes else take len (byte ∷ bytes) ++ utf8_within most (drop len (byte ∷ bytes)))
    ≡ (if len == 0 then byte_text byte ++ utf8_within more bytes else take len (byte ∷ bytes) ++ utf8_within more (drop len (byte ∷ bytes)))
enough_by zero byte most more bytes here there behind = ap (λ text. byte_text byte ++ text) (behind bytes (omega arith))
enough_by (suc len) byte most more bytes here there behind =
    let left = length-drop (suc len) (byte ∷ bytes) in
    let apart : (suc len == 0) ≡ false = grind (arith, nat_tests) in
    rw (apart, behind (drop (suc len) (byte ∷ bytes)) (omega (arith, left))) refl

enough : (most more : ℕ) (bytes : List ℕ) → length bytes ≤ most → length bytes ≤ more → utf8_within most bytes ≡ utf8_within more bytes
unfolding utf8_within
enough zero zero bytes here there = refl
enough zero (suc more) [] here there = refl
enough zero (suc more) (byte ∷ bytes) here there = absurd (omega arith)
enough (suc most) zero [] here there = refl
enough (suc most) zero (byte ∷ bytes) here there = absurd (omega arith)
enough (suc most) (suc more) [] here there = refl
enough (suc most) (suc more) (byte ∷ bytes) here there =
    enough_by (character_len (byte ∷ bytes)) byte most more bytes (omega arith) (omega arith)
    (λ left few. enough most more left (omega arith) (omega arith))

-- a character of so many bytes at the front
opened : (len byte : ℕ) (bytes : List ℕ) → 0 < len
    → (if len == 0 then byte_text byte ++ utf8_within (length bytes) bytes else take len (byte ∷ bytes) ++ utf8_within (length bytes) (drop len (byte ∷ bytes)))
    ≡ take len (byte ∷ bytes) ++ utf8_text (drop len (byte ∷ bytes))
unfolding utf8_text
opened zero byte bytes some = absurd (omega arith)
opened (suc len) byte bytes some =
    let left = length-drop (suc len) (byte ∷ bytes) in
    let apart : (suc len == 0) ≡ false = grind (arith, nat_tests) in
    rw apart (ap (λ text. take (suc len) (byte ∷ bytes) ++ text) (enough (length bytes) (length (drop (suc len) (byte ∷ bytes))) (drop (suc len) (byte ∷ bytes)) (omega (arith, left)) (omega arith)))

none_in_nothing : character_len [] ≡ 0
unfolding character_len sequence_len sequence_of
none_in_nothing = refl

-- a character at the front
pub character_there : (bytes : List ℕ) → 0 < character_len bytes → utf8_text bytes ≡ take (character_len bytes) bytes ++ utf8_text (drop (character_len bytes) bytes)
unfolding utf8_text utf8_within
character_there [] some = absurd (omega (arith, none_in_nothing))
character_there (byte ∷ bytes) some = opened (character_len (byte ∷ bytes)) byte bytes some

-- a byte at the front
pub byte_first : (byte : ℕ) (bytes : List ℕ) → character_len (byte ∷ bytes) ≡ 0 → utf8_text (byte ∷ bytes) ≡ byte_text byte ++ utf8_text bytes
unfolding utf8_text utf8_within
byte_first byte bytes none = rw none refl

-- nothing at all
pub none_printed : utf8_text [] ≡ []
unfolding utf8_text utf8_within
none_printed = refl
