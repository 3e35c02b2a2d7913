-- A text in UTF-16 against the bytes of one in UTF-8, a character at a time.
use Rattle.std.proofs.Common.{◌≡◌, ◌↔◌, ℕ, ◌==◌, ◌&&◌, Bool, true, false, if◌then◌else◌, List, [], ◌∷◌, ◌++◌, length, take, drop, Option, Some, None, IsTrue, refl, sym, ap, ◌∙◌, arith}
use Rattle.std.proofs.lemmas.Bool.{eqb-true, eq-eqb}
use Rattle.std.proofs.lemmas.List.{take-append-drop}
use Rattle.std.proofs.Math.Seq.{take-append_seam, drop-append_seam}
use Rattle.std.specs.Prelude.{encode_utf8}
use Rattle.std.specs.Option.{option_map}
use Rattle.sx_bytes.specs.Decoding.{joined, begins_with, is_spelled}
use Rattle.std.specs.Char.Utf16.{utf16_chars, lone_unit_char, surrogate_pair_char, is_high_surrogate, is_low_surrogate}
use lib.Pointwise.{pointwise_decides}

-- a test of the front and the equation that it stands for
front_is : (front bytes : List ℕ) → begins_with front bytes ≡ true → front ++ drop (length front) bytes ≡ bytes
front_is front bytes is =
    let same : take (length front) bytes ≡ front = (pointwise_decides (λ a b. (eqb-true a b, eq-eqb a b)) (take (length front) bytes) front).0 is in
    ap (λ text. text ++ drop (length front) bytes) (sym same) ∙ take-append-drop (length front) bytes

front_again : (front bytes : List ℕ) → begins_with front (front ++ bytes) ≡ true
front_again front bytes =
    (pointwise_decides (λ a b. (eqb-true a b, eq-eqb a b)) (take (length front) (front ++ bytes)) front).1 (take-append_seam front bytes)

-- the same characters
there : (characters : List (Option ℕ)) (bytes : List ℕ) → is_spelled characters bytes ≡ true → joined characters ≡ Some bytes
there [] [] is = refl
there [] (byte ∷ bytes) is = absurd (let apart : length (byte ∷ bytes) ≡ 0 = eqb-true (length (byte ∷ bytes)) 0 is in omega arith)
there (None ∷ characters) bytes is = cc
there (Some character ∷ characters) bytes is =
    there_by character characters bytes (begins_with (encode_utf8 character) bytes) refl is (there characters (drop (length (encode_utf8 character)) bytes))
  where
    there_by : (character : ℕ) (characters : List (Option ℕ)) (bytes : List ℕ) (begins : Bool) → begins_with (encode_utf8 character) bytes ≡ begins
        → (if begins then is_spelled characters (drop (length (encode_utf8 character)) bytes) else false) ≡ true
        → (is_spelled characters (drop (length (encode_utf8 character)) bytes) ≡ true → joined characters ≡ Some (drop (length (encode_utf8 character)) bytes))
        → joined (Some character ∷ characters) ≡ Some bytes
    there_by character characters bytes true begins is behind =
        rw (behind is) (ap (λ (text : List ℕ). Some text) (front_is (encode_utf8 character) bytes begins))
    there_by character characters bytes false begins is behind = cc

joined_by : (character : ℕ) (rest : Option (List ℕ)) (bytes : List ℕ) → option_map (λ rest. encode_utf8 character ++ rest) rest ≡ Some bytes
    → (behind : List ℕ) × (rest ≡ Some behind) × (bytes ≡ encode_utf8 character ++ behind)
joined_by character None bytes is = cc
joined_by character (Some behind) bytes is = (behind, refl, cc)

again : (characters : List (Option ℕ)) (bytes : List ℕ) → joined characters ≡ Some bytes → is_spelled characters bytes ≡ true
again [] bytes is = let none : [] ≡ bytes = cc in rw (← none) refl
again (None ∷ characters) bytes is = cc
again (Some character ∷ characters) bytes is =
    let parts = joined_by character (joined characters) bytes is in
    let behind = again characters parts.0 parts.1 in
    rw (parts.2, front_again (encode_utf8 character) parts.0, drop-append_seam (encode_utf8 character) parts.0) behind

-- a test and the fact that it stands for
pub spelled_joined : (characters : List (Option ℕ)) (bytes : List ℕ) → IsTrue (is_spelled characters bytes) ↔ (joined characters ≡ Some bytes)
spelled_joined characters bytes = (there characters bytes, again characters bytes)

-- no unit is left
pub spelled_end : (units bytes : List ℕ) → units ≡ [] → is_spelled (utf16_chars units) bytes ≡ (length bytes == 0)
unfolding utf16_chars
spelled_end units bytes none = rw none refl

-- the first character of units, with its partner and without
pub pair_first : (unit second : ℕ) (units others : List ℕ) → (is_high_surrogate unit && is_low_surrogate second) ≡ true → units ≡ second ∷ others
    → utf16_chars (unit ∷ units) ≡ Some (surrogate_pair_char unit second) ∷ utf16_chars others
unfolding utf16_chars
pair_first unit second units others pair is = rw (is, pair) refl

pub lone_last : (unit : ℕ) (units : List ℕ) → units ≡ [] → utf16_chars (unit ∷ units) ≡ lone_unit_char unit ∷ utf16_chars units
unfolding utf16_chars
lone_last unit units none = rw none refl

pub lone_before : (unit second : ℕ) (units others : List ℕ) (character : Option ℕ) → character ≡ lone_unit_char unit → (is_high_surrogate unit && is_low_surrogate second) ≡ false
    → units ≡ second ∷ others → utf16_chars (unit ∷ units) ≡ character ∷ utf16_chars units
unfolding utf16_chars
lone_before unit second units others character same alone is = rw (is, alone, same) refl
