-- Records: a header of its size and the types of its columns, and behind it their bodies ("Record Format").
use Rattle.std.specs.Prelude.{◌≡◌, ℕ, zero, suc, ◌+◌, ◌-◌, ◌==◌, true, ◌&&◌, nat_le, if◌then◌else◌, List, [], ◌∷◌, length, take, drop, is_some, Option, Some, None, Result, Ok, Err}
use Rattle.std.specs.List.{list_any}
use Rattle.std.specs.Option.{option_map}
use Rattle.sx_bytes.specs.Varints.{varint_at}
use Rattle.sx_record.specs.Content.{Content}
use Rattle.sx_record.specs.SerialTypes.{body_len, is_unused, content_in}
use Rattle.sx_record.specs.declared.fault.RecordFault.{RecordFault}
use Rattle.sx_record.specs.declared.fault.RecordFault.TheVariants.{HeaderSize, UnusedType, BodyLength}
use Rattle.sx_record.specs.declared.survey.Survey.{Survey}

-- a type was found, and the types behind it follow it
abbrev pub found_first : Option (ℕ × ℕ) → (ℕ → Option (List ℕ)) → Option (List ℕ)
found_first None behind = None
found_first (Some found) behind = option_map (λ types. found.0 ∷ types) (behind found.1)

-- the types in at most so many bytes: the one at the front, and those behind its spelling
unfoldable pub types_within : ℕ → List ℕ → Option (List ℕ)
types_within zero bytes = Some []
types_within (suc most) [] = Some []
types_within (suc most) (byte ∷ bytes) = found_first (varint_at (byte ∷ bytes)) (λ len. types_within most (drop len (byte ∷ bytes)))

-- the types that stand one after the other; none where one of them doesn't end by the end of the bytes
unfoldable pub types_in : List ℕ → Option (List ℕ)
types_in bytes = types_within (length bytes) bytes

-- what the columns hold whose bodies stand one after the other
unfoldable pub contents : List ℕ → List ℕ → List Content
contents [] bodies = []
contents (type ∷ types) bodies = content_in type (take (body_len type) bodies) ∷ contents types (drop (body_len type) bodies)

-- the bytes that all bodies have
abbrev pub bodies_len : List ℕ → ℕ
bodies_len [] = 0
bodies_len (type ∷ types) = body_len type + bodies_len types

-- the types, or none where they don't read
abbrev pub types_or_none : Option (List ℕ) → List ℕ
types_or_none None = []
types_or_none (Some types) = types

-- what the columns hold whose types and bodies stand in these bytes
unfoldable pub columns_in : List ℕ → List ℕ → List Content
columns_in types bodies = contents (types_or_none (types_in types)) bodies

-- the types read, and their bodies are exactly these bytes
pub record IsFilled (types bodies : List ℕ) : Type 0 where
  pub whole : is_some (types_in types) ≡ true
  pub full : bodies_len (types_or_none (types_in types)) ≡ length bodies

-- what types say: how many there are, whether one is unused, and whether their bodies have so many bytes
abbrev pub survey_of : ℕ → List ℕ → Survey
survey_of room types = record { columns = length types; unused = list_any is_unused types; fits = room == bodies_len types }

-- the bytes of the types, and those behind the header
abbrev pub sized_parts : List ℕ → Option (ℕ × ℕ) → Option (List ℕ × List ℕ)
sized_parts payload None = None
sized_parts payload (Some size) =
    if nat_le size.1 size.0 && nat_le size.0 (length payload)
    then Some (take (size.0 - size.1) (drop size.1 payload), drop (size.0 - size.1) (drop size.1 payload))
    else None

-- the same of a payload: none where its size isn't whole, is below its own length or past the payload
unfoldable pub parts_of : List ℕ → Option (List ℕ × List ℕ)
parts_of payload = sized_parts payload (varint_at payload)

-- the columns of these types and bodies, or the first fault
abbrev pub typed_record : List ℕ → Option (List ℕ) → Result (List Content) RecordFault
typed_record bodies None = Err HeaderSize
typed_record bodies (Some types) =
    if list_any is_unused types then Err UnusedType
    else (if length bodies == bodies_len types then Ok (contents types bodies) else Err BodyLength)

abbrev pub parted_record : Option (List ℕ × List ℕ) → Result (List Content) RecordFault
parted_record None = Err HeaderSize
parted_record (Some parts) = typed_record parts.1 (types_in parts.0)

-- what the columns of a payload hold, or the first fault: of the header, of its types, of the bodies' length
unfoldable pub record_of : List ℕ → Result (List Content) RecordFault
record_of payload = parted_record (parts_of payload)
