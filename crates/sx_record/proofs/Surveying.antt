-- The survey of a header's types, one type at a time, and what it says of the record.
use Rattle.std.proofs.Common.{◌≡◌, ℕ, suc, ◌+◌, ◌-◌, ◌<◌, ◌==◌, Bool, true, false, ◌||◌, nat_le, if◌then◌else◌, List, [], ◌∷◌, length, drop, Option, Some, None, is_some, Ok, Err, refl, sym, ap, ◌∙◌, arith, add-zero}
use Rattle.std.proofs.lemmas.Bool.Decides.{nat_tests}
use Rattle.std.proofs.lemmas.Bool.{eqb-true}
use Rattle.std.specs.Option.{option_map}
use Rattle.std.specs.List.{list_any}
use Rattle.sx_bytes.specs.Varints.{varint_at}
use Rattle.sx_record.specs.SerialTypes.{body_len, is_unused}
use Rattle.sx_record.specs.Records.{types_in, bodies_len, types_or_none, contents, columns_in, IsFilled, survey_of, typed_record}
use Rattle.sx_record.specs.Surveys.{lowered, is_filled, survey_behind}
use Rattle.sx_record.specs.declared.fault.RecordFault.TheVariants.{HeaderSize, UnusedType, BodyLength}
use Rattle.sx_record.specs.declared.survey.Survey.{Survey}
use Rattle.sx_record.proofs.Columns.{no_type, no_bytes, one_type}

abbrev made : ℕ → Bool → Bool → Survey
made columns unused fits = record { columns = columns; unused = unused; fits = fits }

or_nothing : (b : Bool) → (b || false) ≡ b
or_nothing true = refl
or_nothing false = refl

or_assoc : (a b c : Bool) → (a || (b || c)) ≡ ((a || b) || c)
or_assoc true b c = refl
or_assoc false b c = refl

-- nothing was surveyed yet
pub surveyed_start : (room : ℕ) (types : Option (List ℕ)) → option_map (survey_behind 0 false (Some room)) types ≡ option_map (survey_of room) types
surveyed_start room None = refl
surveyed_start room (Some types) =
    let count : 0 + length types ≡ length types = omega arith in
    ap (λ (n : ℕ). Some (made n (list_any is_unused types) (room == bodies_len types))) count

-- all is surveyed
pub surveyed_all : (columns : ℕ) (unused : Bool) (left : Option ℕ) (rest : List ℕ) → length rest ≡ 0
    → option_map (survey_behind columns unused left) (types_in rest) ≡ Some (record { columns = columns; unused = unused; fits = is_filled left [] })
surveyed_all columns unused left rest none = rw (no_bytes rest none) (rw (add-zero, or_nothing) refl)

-- a type doesn't end
pub surveyed_none : (columns : ℕ) (unused : Bool) (left : Option ℕ) (rest : List ℕ) → varint_at rest ≡ None → 0 < length rest
    → option_map (survey_behind columns unused left) (types_in rest) ≡ None
surveyed_none columns unused left rest none some = ap (option_map (survey_behind columns unused left)) (no_type rest none some)

room_left : (room body : ℕ) (types : List ℕ) (reaches : Bool) → nat_le body room ≡ reaches
    → (room == body + bodies_len types) ≡ is_filled (if reaches then Some (room - body) else None) types
room_left room body types true reaches = grind (arith, nat_tests)
room_left room body types false reaches = grind (arith, nat_tests)

filled_more : (left : Option ℕ) (type : ℕ) (types : List ℕ) → is_filled left (type ∷ types) ≡ is_filled (lowered left type) types
filled_more None type types = refl
filled_more (Some room) type types = room_left room (body_len type) types (nat_le (body_len type) room) refl

counted_more : (columns : ℕ) (unused : Bool) (left : Option ℕ) (type : ℕ) (types : Option (List ℕ))
    → option_map (survey_behind columns unused left) (option_map (λ types. type ∷ types) types)
    ≡ option_map (survey_behind (columns + 1) (unused || is_unused type) (lowered left type)) types
counted_more columns unused left type None = refl
counted_more columns unused left type (Some types) =
    let count : columns + length (type ∷ types) ≡ columns + 1 + length types = omega arith in
    let any : (unused || list_any is_unused (type ∷ types)) ≡ ((unused || is_unused type) || list_any is_unused types) = or_assoc unused (is_unused type) (list_any is_unused types) in
    let fits = filled_more left type types in
    rw (count, any, fits) refl

-- one more type
pub surveyed_more : (columns : ℕ) (unused : Bool) (left : Option ℕ) (rest : List ℕ) (type len : ℕ) → varint_at rest ≡ Some (type, len) → 0 < len → 0 < length rest
    → option_map (survey_behind columns unused left) (types_in rest)
    ≡ option_map (survey_behind (columns + 1) (unused || is_unused type) (lowered left type)) (types_in (drop len rest))
surveyed_more columns unused left rest type len found some there =
    ap (option_map (survey_behind columns unused left)) (one_type rest type len found some there) ∙ counted_more columns unused left type (types_in (drop len rest))

-- what the survey says of the record
said_none : (room : ℕ) (bodies : List ℕ) (types : Option (List ℕ)) → option_map (survey_of room) types ≡ None → typed_record bodies types ≡ Err HeaderSize
said_none room bodies None said = refl
said_none room bodies (Some types) said = cc

pub unread : (types bodies : List ℕ) → option_map (survey_of (length bodies)) (types_in types) ≡ None → typed_record bodies (types_in types) ≡ Err HeaderSize
unread types bodies said = said_none (length bodies) bodies (types_in types) said

-- the parts of what a survey says, where there is one
record IsSaid (bodies : List ℕ) (types : Option (List ℕ)) (survey : Survey) : Type 0 where
  pub there : is_some types ≡ true
  pub columns : survey.columns ≡ length (types_or_none types)
  pub unused : survey.unused ≡ list_any is_unused (types_or_none types)
  pub fits : survey.fits ≡ (length bodies == bodies_len (types_or_none types))

first_survey : Survey → Option Survey → Survey
first_survey other None = other
first_survey other (Some survey) = survey

said : (bodies : List ℕ) (types : Option (List ℕ)) (survey : Survey) → option_map (survey_of (length bodies)) types ≡ Some survey → IsSaid bodies types survey
unfolding first_survey
said bodies None survey is = absurd (cc)
said bodies (Some types) survey is =
    let same : survey_of (length bodies) types ≡ survey = ap (first_survey survey) is in
    record {
      there = refl;
      columns = ap (λ (s : Survey). s.columns) (sym same);
      unused = ap (λ (s : Survey). s.unused) (sym same);
      fits = ap (λ (s : Survey). s.fits) (sym same);
    }

typed_unused : (bodies : List ℕ) (types : Option (List ℕ)) → is_some types ≡ true → list_any is_unused (types_or_none types) ≡ true → typed_record bodies types ≡ Err UnusedType
typed_unused bodies None there any = cc
typed_unused bodies (Some types) there any = rw any refl

typed_unfilled : (bodies : List ℕ) (types : Option (List ℕ)) → is_some types ≡ true → list_any is_unused (types_or_none types) ≡ false
    → (length bodies == bodies_len (types_or_none types)) ≡ false → typed_record bodies types ≡ Err BodyLength
typed_unfilled bodies None there none fits = cc
typed_unfilled bodies (Some types) there none fits = rw (none, fits) refl

typed_filled : (bodies : List ℕ) (types : Option (List ℕ)) → is_some types ≡ true → list_any is_unused (types_or_none types) ≡ false
    → (length bodies == bodies_len (types_or_none types)) ≡ true → typed_record bodies types ≡ Ok (contents (types_or_none types) bodies)
typed_filled bodies None there none fits = cc
typed_filled bodies (Some types) there none fits = rw (none, fits) refl

pub unused_found : (types bodies : List ℕ) (survey : Survey) → option_map (survey_of (length bodies)) (types_in types) ≡ Some survey → survey.unused ≡ true
    → typed_record bodies (types_in types) ≡ Err UnusedType
unused_found types bodies survey is any =
    let says = said bodies (types_in types) survey is in
    typed_unused bodies (types_in types) says.there (sym says.unused ∙ any)

pub unfilled_found : (types bodies : List ℕ) (survey : Survey) → option_map (survey_of (length bodies)) (types_in types) ≡ Some survey → survey.unused ≡ false
    → survey.fits ≡ false → typed_record bodies (types_in types) ≡ Err BodyLength
unfilled_found types bodies survey is none fits =
    let says = said bodies (types_in types) survey is in
    typed_unfilled bodies (types_in types) says.there (sym says.unused ∙ none) (sym says.fits ∙ fits)

pub filled_found : (types bodies : List ℕ) (survey : Survey) → option_map (survey_of (length bodies)) (types_in types) ≡ Some survey → survey.unused ≡ false
    → survey.fits ≡ true → typed_record bodies (types_in types) ≡ Ok (columns_in types bodies)
unfolding columns_in
filled_found types bodies survey is none fits =
    let says = said bodies (types_in types) survey is in
    typed_filled bodies (types_in types) says.there (sym says.unused ∙ none) (sym says.fits ∙ fits)

pub filled_is : (types bodies : List ℕ) (survey : Survey) → option_map (survey_of (length bodies)) (types_in types) ≡ Some survey
    → survey.fits ≡ true → IsFilled types bodies
filled_is types bodies survey is fits =
    let says = said bodies (types_in types) survey is in
    let same : length bodies ≡ bodies_len (types_or_none (types_in types)) = eqb-true _ _ (sym says.fits ∙ fits) in
    record { whole = says.there; full = sym same }

length-contents : (types bodies : List ℕ) → length (contents types bodies) ≡ length types
unfolding contents
length-contents [] bodies = refl
length-contents (type ∷ types) bodies = ap suc (length-contents types (drop (body_len type) bodies))

pub filled_count : (types bodies : List ℕ) (survey : Survey) → option_map (survey_of (length bodies)) (types_in types) ≡ Some survey
    → survey.columns ≡ length (columns_in types bodies)
unfolding columns_in
filled_count types bodies survey is =
    let says = said bodies (types_in types) survey is in
    says.columns ∙ sym (length-contents (types_or_none (types_in types)) bodies)
