-- Bytes at the front of a text that stand as they are: none, plain ones, a character, and one more after others.
use Rattle.std.proofs.Common.{◌≡◌, ℕ, zero, suc, ◌+◌, ◌<◌, Bool, true, false, if◌then◌else◌, take_while, List, [], ◌∷◌, ◌++◌, length, take, drop, refl, sym, ap, subst, ◌∙◌, append_assoc, arith}
use Rattle.std.proofs.Math.Seq.{take-add}
use Rattle.std.proofs.lemmas.List.{drop-drop, take_at}
use Rattle.std.proofs.lemmas.List.Folds.{length-prefix_len}
use Rattle.std.proofs.lemmas.Str.{IsUtf8-nil, IsUtf8-append, IsUtf8-encode, IsUtf8-from_ascii}
use Rattle.std.proofs.lemmas.Str.Ascii.{IsAscii-nil, IsAscii-cons}
use Rattle.std.specs.List.{prefix_len}
use Rattle.std.specs.Str.{IsUtf8}
use Rattle.std.specs.Prelude.{encode_utf8}
use Rattle.sx_record.specs.Escape.{is_plain}
use Rattle.sx_record.specs.Standing.{Stands}
use Rattle.sx_record.specs.Utf8.{character_len, utf8_text}
use Rattle.sx_record.proofs.Characters.{characters_both}
use Rattle.sx_record.proofs.Printing.{character_first, plain_first, plain_ascii}

pub none_stands : (bytes : List ℕ) → Stands bytes 0
none_stands bytes = record { printed = refl; valid = IsUtf8-nil }

-- more bytes behind those that stand
pub more_stands : (bytes rest : List ℕ) (len more : ℕ) → Stands bytes len → rest ≡ drop len bytes → Stands rest more → Stands bytes (len + more)
more_stands bytes rest len more here is behind = record {
  printed =
      here.printed
      ∙ ap (λ text. take len bytes ++ text) (ap utf8_text (sym is) ∙ behind.printed)
      ∙ sym (append_assoc (take len bytes) (take more rest) (utf8_text (drop more rest)))
      ∙ joined_by (take len bytes) rest (drop len bytes) more is
      ∙ rw (take-add len more bytes, ← drop-drop more len bytes) refl;
  valid = rw (take-add len more bytes) (IsUtf8-append (take len bytes) (take more (drop len bytes)) here.valid (subst (λ left. IsUtf8 (take more left)) is behind.valid));
}
  where
    joined_by : (front rest left : List ℕ) (more : ℕ) → rest ≡ left
        → (front ++ take more rest) ++ utf8_text (drop more rest) ≡ (front ++ take more left) ++ utf8_text (drop more left)
    joined_by front rest left more is = ap (λ (text : List ℕ). (front ++ take more text) ++ utf8_text (drop more text)) is

-- a byte below 128 is a text
one_byte : (byte : ℕ) → byte < 128 → IsUtf8 (byte ∷ [])
one_byte byte small = IsUtf8-from_ascii (byte ∷ []) (IsAscii-cons byte [] small IsAscii-nil)

plain_step : (byte : ℕ) (bytes : List ℕ) (plain : Bool) (len : ℕ) → is_plain byte ≡ plain → IsUtf8 (take len bytes) → IsUtf8 (take (if plain then 1 + len else 0) (byte ∷ bytes))
plain_step byte bytes true len plain behind =
    let more : 1 + len ≡ suc len = omega arith in
    rw more (IsUtf8-append (byte ∷ []) (take len bytes) (one_byte byte (plain_ascii byte plain)) behind)
plain_step byte bytes false len plain behind = IsUtf8-nil

plain_text : (bytes : List ℕ) → IsUtf8 (take (prefix_len is_plain bytes) bytes)
plain_text [] = IsUtf8-nil
plain_text (byte ∷ bytes) = plain_step byte bytes (is_plain byte) (prefix_len is_plain bytes) refl (plain_text bytes)

pub plain_stands : (bytes : List ℕ) (len : ℕ) → len ≡ length (take_while is_plain bytes) → Stands bytes len
plain_stands bytes len is = rw is (record { printed = plain_first bytes; valid = rw (length-prefix_len is_plain bytes) (plain_text bytes) })

character_text : (bytes : List ℕ) (len : ℕ) → character_len bytes ≡ len → IsUtf8 (take len bytes)
character_text bytes zero is = IsUtf8-nil
character_text bytes (suc len) is =
    let begins = (characters_both bytes (suc len)).0 (omega arith, is) in
    let taken : take (suc len) bytes ≡ encode_utf8 begins.character = ap (take (suc len)) begins.parts ∙ take_at (encode_utf8 begins.character) begins.rest (suc len) (sym begins.long) in
    subst IsUtf8 (sym taken) (IsUtf8-encode begins.character begins.scalar)

pub character_stands : (bytes : List ℕ) (len : ℕ) → len ≡ character_len bytes → Stands bytes len
character_stands bytes len is = rw is (record { printed = character_first bytes; valid = character_text bytes (character_len bytes) refl })
