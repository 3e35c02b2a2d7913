-- The characters of a text in UTF-16 joined, where none of them is missing and where one is.
use Rattle.std.proofs.Common.{◌≡◌, ℕ, List, [], ◌∷◌, ◌++◌, Option, Some, None, true, false, not, is_some, map, refl, ap}
use Rattle.std.specs.Option.{unwrap_or, option_map}
use Rattle.std.specs.List.{list_any}
use Rattle.std.specs.Prelude.{encode_utf8, encode_utf8_all}
use Rattle.std.specs.Char.Utf16.{utf16_chars, utf16_lossy_chars, has_unpaired_surrogate}
use Rattle.sx_bytes.specs.Decoding.{joined}

all_there : (characters : List (Option ℕ)) → list_any (λ o. not (is_some o)) characters ≡ false
    → joined characters ≡ Some (encode_utf8_all (map (λ o. unwrap_or o 0xFFFD) characters))
all_there [] whole = refl
all_there (None ∷ characters) whole = cc
all_there (Some character ∷ characters) whole = ap (option_map (λ rest. encode_utf8 character ++ rest)) (all_there characters whole)

one_missing : (characters : List (Option ℕ)) → list_any (λ o. not (is_some o)) characters ≡ true → joined characters ≡ None
one_missing [] broken = cc
one_missing (None ∷ characters) broken = refl
one_missing (Some character ∷ characters) broken = ap (option_map (λ rest. encode_utf8 character ++ rest)) (one_missing characters broken)

-- each surrogate has a partner
pub joined_whole : (units : List ℕ) → has_unpaired_surrogate units ≡ false → joined (utf16_chars units) ≡ Some (encode_utf8_all (utf16_lossy_chars units))
joined_whole units whole = all_there (utf16_chars units) whole

-- a surrogate has none
pub joined_broken : (units : List ℕ) → has_unpaired_surrogate units ≡ true → joined (utf16_chars units) ≡ None
joined_broken units broken = one_missing (utf16_chars units) broken
