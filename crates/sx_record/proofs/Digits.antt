-- Hexadecimal digits: those of a piece are a text, and those of pieces stand one after the other.
use Rattle.std.proofs.Common.{◌≡◌, ℕ, ◌<◌, nat_lt, true, ◌/◌, ◌%◌, List, [], ◌∷◌, ◌++◌, take, drop, slice_index, refl, sym, ap, ◌∙◌, append_assoc, arith}
use Rattle.std.proofs.lemmas.List.{take-append-drop}
use Rattle.std.proofs.lemmas.Str.{IsUtf8-from_ascii}
use Rattle.std.proofs.lemmas.Str.Ascii.{IsAscii-nil, IsAscii-cons}
use Rattle.std.proofs.lemmas.Bool.{and_parts}
use Rattle.std.proofs.lemmas.Bool.Decides.{nat_tests}
use Rattle.std.specs.List.{list_all}
use Rattle.std.specs.Str.{IsUtf8, IsAscii}
use Rattle.hex.specs.Hex.{encode_with, encode_lower, lower_digits}
use Rattle.hex.proofs.HexLemmas.{IsAscii-encode_with}

ascii_by : (bytes : List ℕ) → list_all (λ byte. nat_lt byte 128) bytes ≡ true → IsAscii bytes
ascii_by [] all = IsAscii-nil
ascii_by (byte ∷ bytes) all =
    let parts = and_parts (nat_lt byte 128) (list_all (λ byte. nat_lt byte 128) bytes) all in
    let small : byte < 128 = (let here = parts.0 in grind (arith, nat_tests)) in
    IsAscii-cons byte bytes small (ascii_by bytes parts.1)

digits_ascii : IsAscii lower_digits
digits_ascii = ascii_by lower_digits refl

-- the digits of a piece are a text
pub digits_are_text : (piece digits : List ℕ) → digits ≡ encode_lower piece → IsUtf8 digits
digits_are_text piece digits is = rw is (IsUtf8-from_ascii (encode_lower piece) (IsAscii-encode_with lower_digits piece digits_ascii))

encode_append : (table front rest : List ℕ) → encode_with table (front ++ rest) ≡ encode_with table front ++ encode_with table rest
unfolding encode_with
encode_append table [] rest = refl
encode_append table (byte ∷ front) rest = ap (λ text. slice_index table (byte / 16) ∷ slice_index table (byte % 16) ∷ text) (encode_append table front rest)

-- a piece was appended
pub piece_put : (before text bytes : List ℕ) (len : ℕ) (front back : List ℕ) → front ≡ take len bytes → back ≡ drop len bytes → text ≡ before ++ encode_lower front
    → text ++ encode_lower back ≡ before ++ encode_lower bytes
piece_put before text bytes len front back is_front is_back appended =
    let whole : front ++ back ≡ bytes = rw (is_front, is_back) (take-append-drop len bytes) in
    rw appended
    (append_assoc before (encode_lower front) (encode_lower back)
    ∙ ap (λ digits. before ++ digits) (sym (encode_append lower_digits front back) ∙ ap encode_lower whole))
