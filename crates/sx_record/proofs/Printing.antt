-- The text of bytes in UTF-8, a character or a byte at a time.
use Rattle.std.proofs.Common.{◌≡◌, ℕ, zero, suc, ◌+◌, ◌-◌, ◌<◌, if◌then◌else◌, Bool, true, false, not, ◌&&◌, take_while, List, [], ◌∷◌, ◌++◌, length, take, drop, slice_index, refl, sym, ap, ◌∙◌, append_assoc, append-nil, arith}
use Rattle.std.proofs.lemmas.List.{take_rest}
use Rattle.std.proofs.lemmas.Bool.Decides.{nat_tests}
use Rattle.std.specs.List.{prefix_len}
use Rattle.std.proofs.lemmas.List.Folds.{length-prefix_len}
use Rattle.sx_record.proofs.Fronts.{character_there, byte_first, none_printed}
use Rattle.sx_record.proofs.Places.{none_behind}
use Rattle.sx_bytes.specs.declared.encoding.Encoding.{Encoding}
use Rattle.sx_bytes.specs.Decoding.{units_of, odd_byte}
use Rattle.sx_record.specs.Utf16.{units_text, last_text, utf16_text}
use Rattle.sx_record.specs.Escape.{is_plain, is_printable, is_marked, byte_text, escaped_byte}
use Rattle.sx_record.specs.Utf8.{character_len, utf8_text}

-- the same where there may be none
first_by : (bytes : List ℕ) (len : ℕ) → character_len bytes ≡ len → utf8_text bytes ≡ take len bytes ++ utf8_text (drop len bytes)
first_by bytes zero is = refl
first_by bytes (suc len) is = rw is at (character_there bytes (omega (arith, is)))

pub character_first : (bytes : List ℕ) → utf8_text bytes ≡ take (character_len bytes) bytes ++ utf8_text (drop (character_len bytes) bytes)
character_first bytes = first_by bytes (character_len bytes) refl

-- bytes that stand as they are were appended
pub standing_printed : (front text bytes : List ℕ) (len : ℕ) → utf8_text bytes ≡ take len bytes ++ utf8_text (drop len bytes) → text ≡ front ++ take len bytes
    → text ++ utf8_text (drop len bytes) ≡ front ++ utf8_text bytes
standing_printed front text bytes len stands appended = rw (stands, appended) (append_assoc front (take len bytes) (utf8_text (drop len bytes)))

-- a plain byte is the text of itself, and no character begins there
plain_byte : (byte : ℕ) → is_plain byte ≡ true → byte_text byte ≡ byte ∷ []
unfolding byte_text
plain_byte byte plain = plain_by byte (is_printable byte) (is_marked byte) plain
  where
    plain_by : (byte : ℕ) (printable marked : Bool) → (printable && not marked) ≡ true
        → (if printable then (if marked then 92 ∷ byte ∷ [] else byte ∷ []) else escaped_byte byte) ≡ byte ∷ []
    plain_by byte true false plain = refl
    plain_by byte true true plain = absurd (cc)
    plain_by byte false marked plain = absurd (cc)

pub plain_ascii : (byte : ℕ) → is_plain byte ≡ true → byte < 0x80
plain_ascii byte plain = let printable : is_printable byte ≡ true = left_true (is_printable byte) (not (is_marked byte)) plain in grind (arith, nat_tests)
  where
    left_true : (a b : Bool) → (a && b) ≡ true → a ≡ true
    left_true true b both = refl
    left_true false b both = cc

-- the plain bytes at the front
plain_step : (byte : ℕ) (bytes : List ℕ) (plain : Bool) (len : ℕ) → is_plain byte ≡ plain → utf8_text bytes ≡ take len bytes ++ utf8_text (drop len bytes)
    → utf8_text (byte ∷ bytes) ≡ take (if plain then 1 + len else 0) (byte ∷ bytes) ++ utf8_text (drop (if plain then 1 + len else 0) (byte ∷ bytes))
plain_step byte bytes true len plain behind =
    let more : 1 + len ≡ suc len = omega arith in
    let first : utf8_text (byte ∷ bytes) ≡ (byte ∷ []) ++ utf8_text bytes
    = byte_first byte bytes (none_behind byte bytes (let small = plain_ascii byte plain in omega arith)) ∙ ap (λ text. text ++ utf8_text bytes) (plain_byte byte plain) in
    rw more (first ∙ ap (λ text. byte ∷ text) behind)
plain_step byte bytes false len plain behind = refl

plain_run : (bytes : List ℕ) → utf8_text bytes ≡ take (prefix_len is_plain bytes) bytes ++ utf8_text (drop (prefix_len is_plain bytes) bytes)
plain_run [] = refl
plain_run (byte ∷ bytes) = plain_step byte bytes (is_plain byte) (prefix_len is_plain bytes) refl (plain_run bytes)

pub plain_first : (bytes : List ℕ) → utf8_text bytes ≡ take (length (take_while is_plain bytes)) bytes ++ utf8_text (drop (length (take_while is_plain bytes)) bytes)
plain_first bytes = rw (length-prefix_len is_plain bytes) (plain_run bytes)

-- a byte was appended
pub byte_printed : (front text bytes : List ℕ) → 0 < length bytes → character_len bytes ≡ 0 → text ≡ front ++ byte_text (slice_index bytes 0)
    → text ++ utf8_text (take (length bytes - 1) (drop 1 bytes)) ≡ front ++ utf8_text bytes
byte_printed front text [] some none appended = absurd (omega arith)
byte_printed front text (byte ∷ bytes) some none appended =
    let rest : take (length (byte ∷ bytes) - 1) (drop 1 (byte ∷ bytes)) ≡ bytes = take_rest (byte ∷ bytes) 1 in
    rw (rest, byte_first byte bytes none, appended) (append_assoc front (byte_text byte) (utf8_text bytes))

-- all was appended
pub all_printed : (text bytes : List ℕ) → length bytes ≡ 0 → text ++ utf8_text bytes ≡ text
all_printed text [] none = rw none_printed (append-nil text)
all_printed text (byte ∷ bytes) none = absurd (omega arith)

-- all units were appended, and only a single last byte can be left
pub units_printed : (encoding : Encoding) (front text bytes rest : List ℕ)
    → text ++ units_text (units_of encoding rest) ≡ front ++ units_text (units_of encoding bytes)
    → units_of encoding rest ≡ [] → odd_byte rest ≡ rest → odd_byte rest ≡ odd_byte bytes
    → text ++ last_text rest ≡ front ++ utf16_text encoding bytes
unfolding utf16_text units_text
units_printed encoding front text bytes rest printed none odd same =
    let units : text ≡ front ++ units_text (units_of encoding bytes) = sym (append-nil text) ∙ rw none at printed in
    rw (← same, odd, units) (append_assoc front (units_text (units_of encoding bytes)) (last_text rest))
