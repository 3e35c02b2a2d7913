-- A whole cell is read exactly where one stands at the front.
use Rattle.std.proofs.Common.{◌≡◌, ◌↔◌, ℕ, ◌+◌, ◌-◌, ◌%◌, ◌<◌, ◌≤◌, ◌==◌, Bool, true, false, nat_le, nat_lt, if◌then◌else◌, List, [], ◌++◌, length, take, drop, Option, Some, None, refl, sym, ap, subst, ◌∙◌, arith, length-append, append_assoc}
use Rattle.std.specs.Int.{w64, cast_signed}
use Rattle.std.proofs.lemmas.List.{take_at, drop_at, take-append-drop, length-take-le}
use Rattle.std.proofs.lemmas.Bool.Decides.{nat_tests}
use Rattle.std.proofs.lemmas.Bool.{eqb-true}
use Rattle.sx_base.specs.Bytes.{word_at}
use Rattle.sx_cell.specs.declared.cell.Kind.TheVariants.{TableLeaf}
use Rattle.sx_cell.specs.Local.{longest_local, local_of, local_below, fitted_local, least_local}
use Rattle.sx_record.specs.Records.{bodies_len}
use Rattle.sx_grammar.specs.declared.form.Form.TheVariants.{Full}
use Rattle.sx_grammar.specs.Shorts.{short_field, used_types}
use Rattle.sx_grammar.specs.Sightings.{Sighting, whole as whole_sighting, seen, columns_in}
use Rattle.sx_grammar.specs.Records.{Opened, record_in}
use Rattle.sx_grammar.specs.Full.{Held, link_field, held_in, held_at, whole_cell, full_at}
use Rattle.sx_grammar.specs.Forms.{IsLink, IsFull, Begins}
use Rattle.sx_grammar.proofs.ShortLemmas.{bind_some, TakesShort, short_taken, short_read, types_again, IsOpened, opened_taken, opened_as, opened_again}

-- ---- the overflow page

record TakesLink (spilled : Bool) (bytes : List ℕ) (page : Option ℕ) (rest : List ℕ) : Type 0 where
  pub text : List ℕ
  pub parts : bytes ≡ text ++ rest
  pub is : IsLink spilled text page

abbrev link : Option ℕ → List ℕ → Option (Option ℕ × List ℕ)
link page rest = Some (page, rest)

abbrev no_link : Option (Option ℕ × List ℕ)
no_link = None

abbrev link_page : Option (Option ℕ × List ℕ) → Option ℕ
link_page None = None
link_page (Some found) = found.0

abbrev link_rest : Option (Option ℕ × List ℕ) → List ℕ
link_rest None = []
link_rest (Some found) = found.1

link_if : (bytes : List ℕ) (short zero : Bool) (page : Option ℕ) (rest : List ℕ) → nat_lt (length bytes) 4 ≡ short → (word_at (take 4 bytes) 0 == 0) ≡ zero
    → (if short then no_link else (if zero then no_link else link (Some (word_at (take 4 bytes) 0)) (drop 4 bytes))) ≡ link page rest
    → TakesLink true bytes page rest
link_if bytes true zero page rest is_short is_zero found = absurd (cc)
link_if bytes false true page rest is_short is_zero found = absurd (cc)
link_if bytes false false page rest is_short is_zero found =
    let long : 4 ≤ length bytes = grind (arith, nat_tests) in
    let some : 0 < word_at (take 4 bytes) 0 = grind (arith, nat_tests) in
    let same : Some (word_at (take 4 bytes) 0) ≡ page = ap link_page found in
    let left : drop 4 bytes ≡ rest = ap link_rest found in
    record {
      text = take 4 bytes;
      parts = sym (take-append-drop 4 bytes) ∙ ap (λ tail. take 4 bytes ++ tail) left;
      is = (length-take-le 4 bytes long, some, sym same);
    }

link_taken : (spilled : Bool) (bytes : List ℕ) (page : Option ℕ) (rest : List ℕ) → link_field spilled bytes ≡ link page rest → TakesLink spilled bytes page rest
unfolding link_field
link_taken false bytes page rest found = record { text = []; parts = ap link_rest found; is = (refl, sym (ap link_page found)) }
link_taken true bytes page rest found = link_if bytes (nat_lt (length bytes) 4) (word_at (take 4 bytes) 0 == 0) page rest refl refl found

link_again : (spilled : Bool) (text rest : List ℕ) (page : Option ℕ) → IsLink spilled text page → link_field spilled (text ++ rest) ≡ link page rest
unfolding link_field
link_again false text rest page is = rw (is.0, is.1) refl
link_again true text rest page is =
    let long : length text ≡ 4 = is.0 in
    let short : nat_lt (length (text ++ rest)) 4 ≡ false = let all = length-append text rest in grind (arith, nat_tests) in
    let first : take 4 (text ++ rest) ≡ text = take_at text rest 4 is.0 in
    let left : drop 4 (text ++ rest) ≡ rest = drop_at text rest 4 is.0 in
    let some : 0 < word_at text 0 = is.1 in
    let zero : (word_at text 0 == 0) ≡ false = grind (arith, nat_tests) in
    rw (short, first, left, zero) (ap (λ p. link p rest) (sym is.2))

-- ---- the local part

record IsHeld (len : ℕ) (spilled : Bool) (bytes : List ℕ) (held : Held) : Type 0 where
  pub text : List ℕ
  pub parts : bytes ≡ held.local ++ (text ++ held.rest)
  pub long : length held.local ≡ len
  pub is : IsLink spilled text held.overflow

abbrev held_as : List ℕ → Option ℕ → List ℕ → Held
held_as local overflow rest = record { local = local; overflow = overflow; rest = rest }

abbrev as_held : Held → Option Held → Held
as_held other None = other
as_held other (Some held) = held

held_taken : (len : ℕ) (spilled : Bool) (bytes : List ℕ) (held : Held) → len ≤ length bytes → held_in len spilled bytes ≡ Some held → IsHeld len spilled bytes held
unfolding held_in
held_taken len spilled bytes held within is =
    let read = bind_some (link_field spilled (drop len bytes)) _ held is in
    let takes = link_taken spilled (drop len bytes) read.0.0 read.0.1 read.1 in
    let same : held_as (take len bytes) read.0.0 read.0.1 ≡ held = ap (as_held held) read.2 in
    subst (IsHeld len spilled bytes) same (record {
      text = takes.text;
      parts = sym (take-append-drop len bytes) ∙ ap (λ tail. take len bytes ++ tail) takes.parts;
      long = length-take-le len bytes within;
      is = takes.is;
    })

held_again : (spilled : Bool) (local text rest : List ℕ) (page : Option ℕ) → IsLink spilled text page
    → held_in (length local) spilled (local ++ (text ++ rest)) ≡ Some (held_as local page rest)
unfolding held_in
held_again spilled local text rest page is =
    let first : take (length local) (local ++ (text ++ rest)) ≡ local = take_at local (text ++ rest) (length local) refl in
    let left : drop (length local) (local ++ (text ++ rest)) ≡ text ++ rest = drop_at local (text ++ rest) (length local) refl in
    rw (first, left, link_again spilled text rest page is) refl

local_if : (len : ℕ) (spilled : Bool) (payload : ℕ) (bytes : List ℕ) (held : Held) (long short : Bool) → nat_lt 2147483647 payload ≡ long → nat_lt (length bytes) len ≡ short
    → (if long then None else (if short then None else held_in len spilled bytes)) ≡ Some held
    → (payload ≤ 2147483647) × IsHeld len spilled bytes held
local_if len spilled payload bytes held true short is_long is_short found = absurd (cc)
local_if len spilled payload bytes held false true is_long is_short found = absurd (cc)
local_if len spilled payload bytes held false false is_long is_short found =
    (grind (arith, nat_tests), held_taken len spilled bytes held (grind (arith, nat_tests)) found)

local_taken : (usable payload : ℕ) (bytes : List ℕ) (held : Held) → held_at usable payload bytes ≡ Some held
    → (payload ≤ 2147483647) × IsHeld (local_of TableLeaf payload usable) (nat_lt (longest_local TableLeaf usable) payload) bytes held
unfolding held_at
local_taken usable payload bytes held found =
    local_if (local_of TableLeaf payload usable) (nat_lt (longest_local TableLeaf usable) payload) payload bytes held
    (nat_lt 2147483647 payload) (nat_lt (length bytes) (local_of TableLeaf payload usable)) refl refl found

local_again : (usable payload : ℕ) (local text rest : List ℕ) (page : Option ℕ) → payload ≤ 2147483647 → length local ≡ local_of TableLeaf payload usable
    → IsLink (nat_lt (longest_local TableLeaf usable) payload) text page
    → held_at usable payload (local ++ (text ++ rest)) ≡ Some (held_as local page rest)
unfolding held_at
local_again usable payload local text rest page limit long is =
    let few : nat_lt 2147483647 payload ≡ false = grind (arith, nat_tests) in
    let all = length-append local (text ++ rest) in
    let there : nat_lt (length (local ++ (text ++ rest))) (length local) ≡ false = grind (arith, nat_tests) in
    rw (few, ← long, there) (held_again (nat_lt (longest_local TableLeaf usable) payload) local text rest page is)

-- no local part is longer than its payload
local_by : (payload usable : ℕ) (whole fitted : Bool) → 480 ≤ usable → nat_le payload (usable - 35) ≡ whole
    → nat_le (least_local usable + (payload - least_local usable) % (usable - 4)) (usable - 35) ≡ fitted
    → (if whole then payload else (if fitted then least_local usable + (payload - least_local usable) % (usable - 4) else least_local usable)) ≤ payload
local_by payload usable true fitted least is_whole is_fitted = omega arith
local_by payload usable false true least is_whole is_fitted = grind (arith, nat_tests)
local_by payload usable false false least is_whole is_fitted =
    let above : usable - 35 < payload = grind (arith, nat_tests) in
    omega arith

local_part : (payload usable : ℕ) → 480 ≤ usable → local_of TableLeaf payload usable ≤ payload
unfolding local_of local_below fitted_local
local_part payload usable least =
    local_by payload usable (nat_le payload (usable - 35)) (nat_le (least_local usable + (payload - least_local usable) % (usable - 4)) (usable - 35)) least refl refl

-- ---- the cell

abbrev as_sighting : Sighting → Option Sighting → Sighting
as_sighting other None = other
as_sighting other (Some sighting) = sighting

whole_if : (sighting made : Sighting) (left : ℕ) (none : Bool) → (left == 0) ≡ none → (if none then Some made else None) ≡ Some sighting
    → (left ≡ 0) × (made ≡ sighting)
whole_if sighting made left false is found = absurd (cc)
whole_if sighting made left true is found = (eqb-true left 0 is, ap (as_sighting sighting) found)

columns_of : (types_text bodies : List ℕ) (types : List ℕ) → used_types types_text ≡ Some types → columns_in Full types_text bodies ≡ seen types bodies
unfolding columns_in
columns_of types_text bodies types read = rw read refl

full_with : (usable : ℕ) (bytes : List ℕ) (sighting : Sighting) (payload rowid : ℕ) (behind_size behind_key : List ℕ) (held : Held) (parts : Opened)
    → 480 ≤ usable → TakesShort bytes payload behind_size → TakesShort behind_size rowid behind_key
    → payload ≤ 2147483647 → IsHeld (local_of TableLeaf payload usable) (nat_lt (longest_local TableLeaf usable) payload) behind_key held
    → IsOpened payload held.local parts → parts.left ≡ 0
    → whole_sighting (length bytes - length held.rest) (cast_signed w64 rowid) payload held.local held.overflow (columns_in Full parts.types parts.bodies) ≡ sighting
    → Begins (IsFull usable) bytes sighting
full_with usable bytes sighting payload rowid behind_size behind_key held parts least size key limit local opened left is =
    let text = local.text in
    let span = size.text ++ (key.text ++ ((opened.header ++ parts.bodies) ++ text)) in
    let behind : behind_key ≡ (opened.header ++ parts.bodies) ++ (text ++ held.rest) = local.parts ∙ ap (λ front. front ++ (text ++ held.rest)) opened.joined in
    let joined : bytes ≡ size.text ++ (key.text ++ ((opened.header ++ parts.bodies) ++ (text ++ held.rest)))
    = size.parts ∙ ap (λ tail. size.text ++ tail) (key.parts ∙ ap (λ tail. key.text ++ tail) behind) in
    let whole : bytes ≡ span ++ held.rest = rw joined (simp append_assoc) in
    let long : length bytes - length held.rest ≡ length span = omega (arith, ap length whole, length-append span held.rest) in
    let part = local_part payload usable least in
    let inside : length held.local ≡ length opened.header + length parts.bodies = ap length opened.joined ∙ length-append opened.header parts.bodies in
    record {
      span = span;
      rest = held.rest;
      parts = whole;
      accepts = record {
        payload = payload;
        rowid = rowid;
        payload_text = size.text;
        rowid_text = key.text;
        header = opened.header;
        types_text = parts.types;
        types = opened.types;
        bodies = parts.bodies;
        link = text;
        page = held.overflow;
        parts = refl;
        size = size.is;
        key = key.is;
        limit = limit;
        typed = opened.typed;
        whole = omega (arith, part, inside, local.long, opened.fits, opened.left, left);
        local = ap length (sym opened.joined) ∙ local.long;
        linked = local.is;
        is = sym is ∙ rw (long, opened.joined, columns_of parts.types parts.bodies opened.types (types_again opened.types parts.types opened.typed.spelled)) refl;
      };
    }

pub full_taken : (usable : ℕ) (bytes : List ℕ) (sighting : Sighting) → 480 ≤ usable → full_at usable bytes ≡ Some sighting → Begins (IsFull usable) bytes sighting
unfolding full_at
full_taken usable bytes sighting least is =
    let size = bind_some (short_field bytes) _ sighting is in
    let key = bind_some (short_field size.0.1) _ sighting size.2 in
    let held = bind_some (held_at usable size.0.0 key.0.1) _ sighting key.2 in
    let opened = bind_some (record_in size.0.0 held.0.local) _ sighting held.2 in
    let local = local_taken usable size.0.0 key.0.1 held.0 held.1 in
    let whole = whole_if sighting _ opened.0.left (opened.0.left == 0) refl opened.2 in
    full_with usable bytes sighting size.0.0 key.0.0 size.0.1 key.0.1 held.0 opened.0 least
    (short_taken bytes size.0.0 size.0.1 size.1) (short_taken size.0.1 key.0.0 key.0.1 key.1)
    local.0 local.1 (opened_taken size.0.0 held.0.local opened.0 opened.1) whole.0 whole.1

-- ---- and back

whole_again : (len payload rowid : ℕ) (held : Held) (parts : Opened) (sighting : Sighting) → parts.left ≡ 0
    → whole_sighting (len - length held.rest) (cast_signed w64 rowid) payload held.local held.overflow (columns_in Full parts.types parts.bodies) ≡ sighting
    → whole_cell len payload rowid held parts ≡ Some sighting
whole_again len payload rowid held parts sighting left is =
    let none : (parts.left == 0) ≡ true = grind (arith, nat_tests) in
    rw none (ap Some is)

full_parts : (usable : ℕ) (rest : List ℕ) (sighting : Sighting) (f : (span : List ℕ) × IsFull usable span sighting)
    → full_at usable (f.1.payload_text ++ (f.1.rowid_text ++ ((f.1.header ++ f.1.bodies) ++ (f.1.link ++ rest)))) ≡ Some sighting
unfolding full_at
full_parts usable rest sighting f =
    let full = f.1 in
    let span = f.0 in
    let local = full.header ++ full.bodies in
    let behind_key = local ++ (full.link ++ rest) in
    let behind_size = full.rowid_text ++ behind_key in
    let bytes = full.payload_text ++ behind_size in
    let size : short_field bytes ≡ Some (full.payload, behind_size) = short_read full.payload_text behind_size full.payload full.size in
    let key : short_field behind_size ≡ Some (full.rowid, behind_key) = short_read full.rowid_text behind_key full.rowid full.key in
    let held : held_at usable full.payload behind_key ≡ Some (held_as local full.page rest) = local_again usable full.payload local full.link rest full.page full.limit full.local full.linked in
    let fits : bodies_len full.types ≤ full.payload - length full.header = omega (arith, full.whole) in
    let opened = opened_again full.payload full.header full.types_text full.bodies full.types full.typed fits in
    let none : full.payload - length full.header - bodies_len full.types ≡ 0 = omega (arith, full.whole) in
    let whole : bytes ≡ span ++ rest = rw full.parts (simp append_assoc) in
    let long : length bytes - length rest ≡ length span = omega (arith, ap length whole, length-append span rest) in
    let columns = columns_of full.types_text full.bodies full.types (types_again full.types full.types_text full.typed.spelled) in
    rw (size, key, held, opened)
    (whole_again (length bytes) full.payload full.rowid (held_as local full.page rest)
    (opened_as full.types_text full.bodies (length full.types) (full.payload - length full.header - bodies_len full.types)) sighting none
    (rw (long, columns) (sym full.is)))

pub full_again : (usable : ℕ) (bytes : List ℕ) (sighting : Sighting) → Begins (IsFull usable) bytes sighting → full_at usable bytes ≡ Some sighting
full_again usable bytes sighting begins =
    let full = begins.accepts in
    let span : begins.span ++ begins.rest ≡ full.payload_text ++ (full.rowid_text ++ ((full.header ++ full.bodies) ++ (full.link ++ begins.rest))) = rw full.parts (simp append_assoc) in
    ap (full_at usable) (begins.parts ∙ span) ∙ full_parts usable begins.rest sighting (begins.span, full)

pub full_both : (usable : ℕ) (bytes : List ℕ) (sighting : Sighting) → 480 ≤ usable → (full_at usable bytes ≡ Some sighting) ↔ Begins (IsFull usable) bytes sighting
full_both usable bytes sighting least = (full_taken usable bytes sighting least, full_again usable bytes sighting)
