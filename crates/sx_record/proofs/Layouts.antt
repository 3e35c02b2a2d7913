-- What is read of a payload and its layout in the words of the format say the same.
use Rattle.std.proofs.Common.{◌≡◌, ◌≢◌, ◌↔◌, ◌⊎◌, inl, inr, ℕ, ◌+◌, ◌-◌, ◌<◌, ◌≤◌, ◌==◌, Bool, true, false, ◌&&◌, nat_le, if◌then◌else◌, List, [], ◌∷◌, ◌++◌, length, take, drop, Option, Some, None, Ok, Err, refl, sym, ap, subst, ◌∙◌, arith, length-append, length-drop}
use Rattle.std.proofs.lemmas.List.{take_at, drop_at, take-append-drop, length-take-le}
use Rattle.std.proofs.lemmas.Bool.Decides.{nat_tests}
use Rattle.std.proofs.lemmas.Bool.{eqb-true}
use Rattle.std.specs.Option.{option_map}
use Rattle.std.specs.List.{list_any}
use Rattle.sx_bytes.specs.Varints.{IsVarint, BeginsWith, varint_at}
use Rattle.sx_bytes.proofs.VarintLemmas.{again, found}
use Rattle.sx_record.specs.Content.{Content}
use Rattle.sx_record.specs.SerialTypes.{body_len, is_unused}
use Rattle.sx_record.specs.Records.{types_in, contents, bodies_len, parts_of, sized_parts, typed_record, record_of}
use Rattle.sx_record.specs.Layout.{IsTypes, IsBodies, IsSized, HasHeader, IsRecord, IsUnusable, IsMisfilled}
use Rattle.sx_record.specs.declared.fault.RecordFault.TheVariants.{HeaderSize, UnusedType, BodyLength}
use Rattle.sx_record.proofs.Columns.{no_type, no_bytes, one_type}

-- ---- types

some_bytes : (text : List ℕ) (value : ℕ) → IsVarint text value → 0 < length text
some_bytes [] value spells = absurd spells
some_bytes (byte ∷ text) value spells = omega arith

-- bytes that spell types are read as these
types_again : (types bytes : List ℕ) → IsTypes types bytes → types_in bytes ≡ Some types
types_again [] bytes spells = no_bytes bytes (ap length spells)
types_again (type ∷ types) bytes spells =
    let text = spells.0 in
    let rest = spells.1 in
    let some : 0 < length text = some_bytes text type spells.3 in
    let there : 0 < length (text ++ rest) = omega (arith, length-append text rest) in
    let behind : drop (length text) (text ++ rest) ≡ rest = drop_at text rest (length text) refl in
    let read : types_in (text ++ rest) ≡ option_map (λ types. type ∷ types) (types_in (drop (length text) (text ++ rest)))
    = one_type (text ++ rest) type (length text) (again text rest type spells.3) some there in
    rw spells.2 (read ∙ rw (behind, types_again types rest spells.4) refl)

-- the parts of what was read, where a type stands first
one_of : (type : ℕ) (others : Option (List ℕ)) (first : ℕ) (types : List ℕ) → option_map (λ types. type ∷ types) others ≡ Some (first ∷ types)
    → (type ≡ first) × (others ≡ Some types)
one_of type None first types is = absurd (cc)
one_of type (Some others) first types is = (cc, cc)

none_of : (type : ℕ) (others : Option (List ℕ)) → option_map (λ types. type ∷ types) others ≡ Some [] → ⊥
none_of type None is = cc
none_of type (Some others) is = cc

rest_of : (bytes text rest : List ℕ) (len : ℕ) → bytes ≡ text ++ rest → len ≡ length text → drop len bytes ≡ rest
rest_of bytes text rest len parts long = rw parts (drop_at text rest len (sym long))

spells_same : (text : List ℕ) (value other : ℕ) → value ≡ other → IsVarint text value → IsVarint text other
spells_same text value other same spells = subst (IsVarint text) same spells

-- bytes that are read as types spell these
types_first : (bytes : List ℕ) (type : ℕ) (types : List ℕ) (at : Option (ℕ × ℕ)) → varint_at bytes ≡ at → 0 < length bytes → types_in bytes ≡ Some (type ∷ types)
    → (text : List ℕ) × (rest : List ℕ) × (bytes ≡ text ++ rest) × IsVarint text type × (types_in rest ≡ Some types)
types_first bytes type types None none there read = absurd (let no = no_type bytes none there in cc)
types_first bytes type types (Some pair) is there read =
    let begins : BeginsWith bytes pair.0 pair.1 = found bytes pair.0 pair.1 is in
    let some : 0 < length begins.text = some_bytes begins.text pair.0 begins.spells in
    let long : 0 < pair.1 = omega (arith, begins.long) in
    let first = one_of pair.0 (types_in (drop pair.1 bytes)) type types (sym (one_type bytes pair.0 pair.1 is long there) ∙ read) in
    let behind : drop pair.1 bytes ≡ begins.rest = rest_of bytes begins.text begins.rest pair.1 begins.parts begins.long in
    (begins.text, begins.rest, begins.parts, spells_same begins.text pair.0 type first.0 begins.spells, rw behind at first.1)

types_end : (bytes : List ℕ) (at : Option (ℕ × ℕ)) → varint_at bytes ≡ at → 0 < length bytes → types_in bytes ≡ Some [] → ⊥
types_end bytes None none there read = let no = no_type bytes none there in cc
types_end bytes (Some pair) is there read =
    let begins : BeginsWith bytes pair.0 pair.1 = found bytes pair.0 pair.1 is in
    let some : 0 < length begins.text = some_bytes begins.text pair.0 begins.spells in
    let long : 0 < pair.1 = omega (arith, begins.long) in
    none_of pair.0 (types_in (drop pair.1 bytes)) (sym (one_type bytes pair.0 pair.1 is long there) ∙ read)

types_read : (types bytes : List ℕ) → types_in bytes ≡ Some types → IsTypes types bytes
types_read [] [] read = refl
types_read [] (byte ∷ bytes) read = absurd (types_end (byte ∷ bytes) (varint_at (byte ∷ bytes)) refl (omega arith) read)
types_read (type ∷ types) [] read = absurd (let no = no_bytes [] refl in cc)
types_read (type ∷ types) (byte ∷ bytes) read =
    let first = types_first (byte ∷ bytes) type types (varint_at (byte ∷ bytes)) refl (omega arith) read in
    (first.0, first.1, first.2, first.3, types_read types first.1 first.4)

-- ---- bodies

bodies_read : (types bodies : List ℕ) → bodies_len types ≡ length bodies → IsBodies types bodies (contents types bodies)
unfolding contents
bodies_read [] [] full = (refl, refl)
bodies_read [] (byte ∷ bodies) full = absurd (omega arith)
bodies_read (type ∷ types) bodies full =
    let left : bodies_len types ≡ length (drop (body_len type) bodies) = simp length-drop (omega arith) in (
      take (body_len type) bodies,
      drop (body_len type) bodies,
      contents types (drop (body_len type) bodies),
      sym (take-append-drop (body_len type) bodies),
      length-take-le (body_len type) bodies (omega arith),
      refl,
      bodies_read types (drop (body_len type) bodies) left,
    )

bodies_again : (types bodies : List ℕ) (columns : List Content) → IsBodies types bodies columns → (bodies_len types ≡ length bodies) × (contents types bodies ≡ columns)
unfolding contents
bodies_again [] bodies columns filled = (sym (ap length filled.0), sym filled.1)
bodies_again (type ∷ types) bodies columns filled =
    let body = filled.0 in
    let rest = filled.1 in
    let behind = bodies_again types rest filled.2 filled.6 in
    let first : take (body_len type) (body ++ rest) ≡ body = take_at body rest (body_len type) filled.4 in
    let left : drop (body_len type) (body ++ rest) ≡ rest = drop_at body rest (body_len type) filled.4 in
    (rw filled.3 (omega (arith, length-append body rest, behind.0, filled.4)), rw (filled.3, filled.5, first, left, behind.1) refl)

-- ---- the header

sized_again : (payload types_text bodies : List ℕ) → IsSized payload types_text bodies → parts_of payload ≡ Some (types_text, bodies)
unfolding parts_of
sized_again payload types_text bodies sized =
    let behind = types_text ++ bodies in
    let text = sized.size_text in
    let at : varint_at (text ++ behind) ≡ Some (sized.size, length text) = again text behind sized.size sized.spells in
    let own : nat_le (length text) sized.size ≡ true = grind (arith, nat_tests, sized.counts) in
    let held : nat_le sized.size (length (text ++ behind)) ≡ true
    = let long : sized.size ≤ length (text ++ behind) = omega (arith, length-append text behind, length-append types_text bodies, sized.counts) in grind (arith, nat_tests) in
    let rest : drop (length text) (text ++ behind) ≡ behind = drop_at text behind (length text) refl in
    let count : sized.size - length text ≡ length types_text = omega (arith, sized.counts) in
    let first : take (length types_text) behind ≡ types_text = take_at types_text bodies (length types_text) refl in
    let last : drop (length types_text) behind ≡ bodies = drop_at types_text bodies (length types_text) refl in
    rw (sized.parts, at, own, held, rest, count, first, last) refl

abbrev first_part : Option (List ℕ × List ℕ) → List ℕ
first_part None = []
first_part (Some parts) = parts.0

abbrev second_part : Option (List ℕ × List ℕ) → List ℕ
second_part None = []
second_part (Some parts) = parts.1

abbrev halves : ℕ → List ℕ → Option (List ℕ × List ℕ)
halves len bytes = Some (take len bytes, drop len bytes)

sized_by : (payload types_text bodies : List ℕ) (size len : ℕ) (own held : Bool) → BeginsWith payload size len
    → nat_le len size ≡ own → nat_le size (length payload) ≡ held
    → (if own && held then halves (size - len) (drop len payload) else None) ≡ Some (types_text, bodies)
    → IsSized payload types_text bodies
sized_by payload types_text bodies size len false held begins is_own is_held parts = absurd (cc)
sized_by payload types_text bodies size len true false begins is_own is_held parts = absurd (cc)
sized_by payload types_text bodies size len true true begins is_own is_held parts =
    let text = begins.text in
    let rest = begins.rest in
    let low : len ≤ size = grind (arith, nat_tests) in
    let high : size ≤ length payload = grind (arith, nat_tests) in
    let whole : length payload ≡ length text + length rest = ap length begins.parts ∙ length-append text rest in
    let behind : drop len payload ≡ rest = rest_of payload text rest len begins.parts begins.long in
    let first : take (size - len) rest ≡ types_text = rw behind at (ap first_part parts) in
    let last : drop (size - len) rest ≡ bodies = rw behind at (ap second_part parts) in
    let count : length (take (size - len) rest) ≡ size - len = length-take-le (size - len) rest (omega (arith, begins.long)) in
    let joined : types_text ++ bodies ≡ rest = rw (← first, ← last) (take-append-drop (size - len) rest) in
    record {
      size = size;
      size_text = text;
      parts = rw joined begins.parts;
      spells = begins.spells;
      counts = omega (arith, begins.long, count, ap length first);
    }

sized_from : (payload types_text bodies : List ℕ) (at : Option (ℕ × ℕ)) → varint_at payload ≡ at → sized_parts payload at ≡ Some (types_text, bodies)
    → IsSized payload types_text bodies
sized_from payload types_text bodies None is parts = absurd (cc)
sized_from payload types_text bodies (Some pair) is parts =
    sized_by payload types_text bodies pair.0 pair.1 (nat_le pair.1 pair.0) (nat_le pair.0 (length payload)) (found payload pair.0 pair.1 is) refl refl parts

sized_read : (payload types_text bodies : List ℕ) → parts_of payload ≡ Some (types_text, bodies) → IsSized payload types_text bodies
unfolding parts_of
sized_read payload types_text bodies parts = sized_from payload types_text bodies (varint_at payload) refl parts

-- a payload with a header is read by its types
headed : (payload types bodies : List ℕ) → HasHeader payload types bodies → record_of payload ≡ typed_record bodies (Some types)
unfolding record_of
headed payload types bodies header =
    rw (sized_again payload header.types_text bodies header.sized, types_again types header.types_text header.spelled) refl

record IsHeadless (payload : List ℕ) : Type 0 where
  pub none : (types bodies : List ℕ) → HasHeader payload types bodies → ⊥
  pub is : record_of payload ≡ Err HeaderSize

record IsHeaded (payload : List ℕ) : Type 0 where
  pub types : List ℕ
  pub bodies : List ℕ
  pub header : HasHeader payload types bodies

by_types : (payload types_text bodies : List ℕ) (types : Option (List ℕ)) → parts_of payload ≡ Some (types_text, bodies) → types_in types_text ≡ types
    → IsHeadless payload ⊎ IsHeaded payload
unfolding record_of
by_types payload types_text bodies None parts none =
    inl (record {
      none = λ types others header.
          let same : types_text ≡ header.types_text = ap first_part (sym parts ∙ sized_again payload header.types_text others header.sized) in
          let read : types_in types_text ≡ Some types = rw same (types_again types header.types_text header.spelled) in
          cc;
      is = rw (parts, none) refl;
    })
by_types payload types_text bodies (Some types) parts read =
    inr (record {
      types = types;
      bodies = bodies;
      header = record { types_text = types_text; sized = sized_read payload types_text bodies parts; spelled = types_read types types_text read };
    })

by_parts : (payload : List ℕ) (parts : Option (List ℕ × List ℕ)) → parts_of payload ≡ parts → IsHeadless payload ⊎ IsHeaded payload
unfolding record_of
by_parts payload None none =
    inl (record {
      none = λ types bodies header. let read = sized_again payload header.types_text bodies header.sized in cc;
      is = rw none refl;
    })
by_parts payload (Some parts) is = by_types payload parts.0 parts.1 (types_in parts.0) is refl

either : (payload : List ℕ) → IsHeadless payload ⊎ IsHeaded payload
either payload = by_parts payload (parts_of payload) refl

-- ---- a record with a header is what its types say

typed_ok : (unused fits : Bool) (made columns : List Content) → (if unused then Err UnusedType else (if fits then Ok made else Err BodyLength)) ≡ Ok columns
    → (unused ≡ false) × (fits ≡ true) × (made ≡ columns)
typed_ok true fits made columns is = absurd (cc)
typed_ok false true made columns is = (refl, refl, cc)
typed_ok false false made columns is = absurd (cc)

typed_unused : (unused fits : Bool) (made : List Content) → (if unused then Err UnusedType else (if fits then Ok made else Err BodyLength)) ≡ Err UnusedType → unused ≡ true
typed_unused true fits made is = refl
typed_unused false true made is = absurd (cc)
typed_unused false false made is = absurd (cc)

typed_misfilled : (unused fits : Bool) (made : List Content) → (if unused then Err UnusedType else (if fits then Ok made else Err BodyLength)) ≡ Err BodyLength
    → (unused ≡ false) × (fits ≡ false)
typed_misfilled true fits made is = absurd (cc)
typed_misfilled false true made is = absurd (cc)
typed_misfilled false false made is = (refl, refl)

typed_headless : (unused fits : Bool) (made : List Content) → (if unused then Err UnusedType else (if fits then Ok made else Err BodyLength)) ≡ Err HeaderSize → ⊥
typed_headless true fits made is = cc
typed_headless false true made is = cc
typed_headless false false made is = cc

same_len : (a b : ℕ) → (a == b) ≡ true → b ≡ a
same_len a b same = sym (eqb-true a b same)

other_len : (a b : ℕ) → (a == b) ≡ false → b ≢ a
other_len a b other same = let equal : (a == b) ≡ true = grind (arith, nat_tests) in cc

-- ---- the laws

record_there : (payload : List ℕ) (columns : List Content) → record_of payload ≡ Ok columns → IsHeadless payload ⊎ IsHeaded payload → IsRecord payload columns
record_there payload columns is (inl headless) = absurd (let not = headless.is in cc)
record_there payload columns is (inr there) =
    let types = there.types in
    let bodies = there.bodies in
    let said = typed_ok (list_any is_unused types) (length bodies == bodies_len types) (contents types bodies) columns (sym (headed payload types bodies there.header) ∙ is) in
    record {
      types = types;
      bodies = bodies;
      header = there.header;
      used = said.0;
      filled = subst (IsBodies types bodies) said.2 (bodies_read types bodies (same_len (length bodies) (bodies_len types) said.1));
    }

record_again : (payload : List ℕ) (columns : List Content) → IsRecord payload columns → record_of payload ≡ Ok columns
record_again payload columns r =
    let filled = bodies_again r.types r.bodies columns r.filled in
    let fits : (length r.bodies == bodies_len r.types) ≡ true = let same = filled.0 in grind (arith, nat_tests) in
    headed payload r.types r.bodies r.header ∙ rw (r.used, fits) (ap Ok filled.1)

pub record_both : (payload : List ℕ) (columns : List Content) → (record_of payload ≡ Ok columns) ↔ IsRecord payload columns
record_both payload columns = (λ is. record_there payload columns is (either payload), record_again payload columns)

headless_there : (payload : List ℕ) → record_of payload ≡ Err HeaderSize → IsHeadless payload ⊎ IsHeaded payload → (types bodies : List ℕ) → HasHeader payload types bodies → ⊥
headless_there payload is (inl headless) = headless.none
headless_there payload is (inr there) =
    absurd (typed_headless (list_any is_unused there.types) (length there.bodies == bodies_len there.types) (contents there.types there.bodies)
    (sym (headed payload there.types there.bodies there.header) ∙ is))

headless_again : (payload : List ℕ) → ((types bodies : List ℕ) → HasHeader payload types bodies → ⊥) → IsHeadless payload ⊎ IsHeaded payload → record_of payload ≡ Err HeaderSize
headless_again payload none (inl headless) = headless.is
headless_again payload none (inr there) = absurd (none there.types there.bodies there.header)

pub headless_both : (payload : List ℕ) → (record_of payload ≡ Err HeaderSize) ↔ ((types bodies : List ℕ) → HasHeader payload types bodies → ⊥)
headless_both payload = (λ is. headless_there payload is (either payload), λ none. headless_again payload none (either payload))

unusable_there : (payload : List ℕ) → record_of payload ≡ Err UnusedType → IsHeadless payload ⊎ IsHeaded payload → IsUnusable payload
unusable_there payload is (inl headless) = absurd (let not = headless.is in cc)
unusable_there payload is (inr there) =
    record {
      types = there.types;
      bodies = there.bodies;
      header = there.header;
      unused = typed_unused (list_any is_unused there.types) (length there.bodies == bodies_len there.types) (contents there.types there.bodies)
          (sym (headed payload there.types there.bodies there.header) ∙ is);
    }

unusable_again : (payload : List ℕ) → IsUnusable payload → record_of payload ≡ Err UnusedType
unusable_again payload u = headed payload u.types u.bodies u.header ∙ rw u.unused refl

pub unusable_both : (payload : List ℕ) → (record_of payload ≡ Err UnusedType) ↔ IsUnusable payload
unusable_both payload = (λ is. unusable_there payload is (either payload), unusable_again payload)

misfilled_there : (payload : List ℕ) → record_of payload ≡ Err BodyLength → IsHeadless payload ⊎ IsHeaded payload → IsMisfilled payload
misfilled_there payload is (inl headless) = absurd (let not = headless.is in cc)
misfilled_there payload is (inr there) =
    let said = typed_misfilled (list_any is_unused there.types) (length there.bodies == bodies_len there.types) (contents there.types there.bodies)
    (sym (headed payload there.types there.bodies there.header) ∙ is) in
    record {
      types = there.types;
      bodies = there.bodies;
      header = there.header;
      used = said.0;
      other = other_len (length there.bodies) (bodies_len there.types) said.1;
    }

misfilled_again : (payload : List ℕ) → IsMisfilled payload → record_of payload ≡ Err BodyLength
misfilled_again payload m =
    let fits : (length m.bodies == bodies_len m.types) ≡ false = let other = m.other in grind (arith, nat_tests) in
    headed payload m.types m.bodies m.header ∙ rw (m.used, fits) refl

pub misfilled_both : (payload : List ℕ) → (record_of payload ≡ Err BodyLength) ↔ IsMisfilled payload
misfilled_both payload = (λ is. misfilled_there payload is (either payload), misfilled_again payload)
