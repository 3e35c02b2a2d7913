-- How the value of a column is written.
use Rattle.std.specs.Prelude.{ℕ, List, [], ◌∷◌, ◌++◌, codes}
use Rattle.std.specs.Fmt.{signed_decimal}
use Rattle.hex.specs.Hex.{encode_lower}
use Rattle.sx_bytes.specs.declared.encoding.Encoding.{Encoding}
use Rattle.sx_bytes.specs.declared.encoding.Encoding.TheVariants.{Utf8}
use Rattle.sx_record.specs.Content.{Content, null, integer, real, text, blob}
use Rattle.sx_record.specs.Utf8.{utf8_text}
use Rattle.sx_record.specs.Utf16.{utf16_text}

-- a text between its marks
abbrev pub inner_text : Encoding → List ℕ → List ℕ
inner_text Utf8 bytes = utf8_text bytes
inner_text encoding bytes = utf16_text encoding bytes

unfoldable pub quoted : Encoding → List ℕ → List ℕ
quoted encoding bytes = 39 ∷ (inner_text encoding bytes ++ 39 ∷ [])

-- a value: `NULL`, decimal digits, `real:` and hexadecimal digits, `x'..'`, or a text between apostrophes
unfoldable pub printed_value : Encoding → Content → List ℕ
printed_value encoding null = codes "NULL"
printed_value encoding (integer number) = signed_decimal number
printed_value encoding (real bytes) = codes "real:" ++ encode_lower bytes
printed_value encoding (blob bytes) = codes "x'" ++ (encode_lower bytes ++ codes "'")
printed_value encoding (text bytes) = quoted encoding bytes
