-- Clipped cells: what is read stands there, and what stands there is read.
use Rattle.std.proofs.Common.{◌≡◌, ◌⊎◌, inl, inr, ◌↔◌, ℕ, ◌+◌, ◌-◌, ◌<◌, ◌≤◌, ◌==◌, Bool, true, false, ◌&&◌, ◌||◌, nat_le, nat_lt, if◌then◌else◌, List, [], ◌∷◌, ◌++◌, length, take, drop, slice_index, Option, Some, None, refl, sym, ap, subst, ◌∙◌, arith, length-append, length-drop, append_assoc}
use Rattle.std.proofs.lemmas.List.{take_at, drop_at, take-append-drop, length-take-le, length-take}
use Rattle.std.proofs.lemmas.Bool.Decides.{nat_tests}
use Rattle.std.proofs.lemmas.Bool.{eqb-true}
use Rattle.std.proofs.Math.Seq.{take-append-add}
use Rattle.sx_base.specs.Bytes.{two_bytes_at}
use Rattle.sx_bytes.specs.Varints.{shortest}
use Rattle.sx_record.specs.Records.{bodies_len}
use Rattle.sx_grammar.specs.declared.form.Form.TheVariants.{Tail}
use Rattle.sx_grammar.specs.Shorts.{◌>>=◌, used_types}
use Rattle.sx_grammar.specs.Sightings.{Sighting, sighted, seen, columns_in}
use Rattle.sx_grammar.specs.Records.{Opened, record_in}
use Rattle.sx_grammar.specs.Forms.{Begins}
use Rattle.sx_grammar.specs.Clips.{Setting, Fits, IsCut, AreLengths, EndsRowid, IsTail, cut_as, may_begin, cut_in, rowid_len_in, ends_rowid, payload_of, is_placed, tailed, tail_made, tail_in, tail_at}
use Rattle.sx_grammar.proofs.ShortLemmas.{bind_some, types_again, IsOpened, opened_taken, opened_as, opened_again}

pub both_true : (a b : Bool) → (a && b) ≡ true → (a ≡ true) × (b ≡ true)
both_true true b is = (refl, is)
both_true false b is = absurd (cc)

or-true : (a : Bool) → (a || true) ≡ true
or-true true = refl
or-true false = refl

abbrev no_number : Option ℕ
no_number = None

abbrev pub no_bytes_there : Option (List ℕ)
no_bytes_there = None

abbrev pub some_bytes_there : List ℕ → Option (List ℕ)
some_bytes_there bytes = Some bytes

abbrev bytes_there : Option (List ℕ) → List ℕ
bytes_there None = []
bytes_there (Some bytes) = bytes

length-take-most : (n : ℕ) (bytes : List ℕ) → length (take n bytes) ≤ n
length-take-most n bytes = omega (arith, length-take n bytes)

begin_again : (setting : Setting) (len next size : ℕ) → nat_le 4 size ≡ true → (next == 0 || nat_le (setting.offset + size) next) ≡ true → (setting.block || nat_le size len) ≡ true
    → may_begin setting len next size ≡ true
unfolding may_begin
begin_again setting len next size some past held = rw (some, past, held) refl

-- ---- the end of a rowid

pub no_end : (nine : Bool) (rest : List ℕ) → length rest ≡ 0 → ends_rowid nine rest ≡ true
unfolding ends_rowid
no_end nine [] none = refl
no_end nine (byte ∷ rest) none = absurd (omega arith)

pub last_end : (nine : Bool) (rest : List ℕ) → length rest ≡ 1 → ends_rowid nine rest ≡ (nine || nat_lt (slice_index rest 0) 128)
unfolding ends_rowid
last_end nine [] one = absurd (omega arith)
last_end nine (byte ∷ []) one = refl
last_end nine (byte ∷ next ∷ rest) one = absurd (omega arith)

passed : (byte : ℕ) (rest : Bool) (goes_on : Bool) → nat_le 128 byte ≡ goes_on → 128 ≤ byte → (goes_on && rest) ≡ rest
passed byte rest true is on = refl
passed byte rest false is on = absurd (grind (arith, nat_tests))

halted : (byte : ℕ) (rest : Bool) (goes_on : Bool) → nat_le 128 byte ≡ goes_on → byte < 128 → (goes_on && rest) ≡ false
halted byte rest true is off = absurd (grind (arith, nat_tests))
halted byte rest false is off = refl

pub more_end : (nine : Bool) (rest : List ℕ) → 1 < length rest → 128 ≤ slice_index rest 0 → ends_rowid nine rest ≡ ends_rowid nine (drop 1 rest)
unfolding ends_rowid
more_end nine [] more on = absurd (omega arith)
more_end nine (byte ∷ []) more on = absurd (omega arith)
more_end nine (byte ∷ next ∷ rest) more on = passed byte (ends_rowid nine (next ∷ rest)) (nat_le 128 byte) refl on

pub stopped_end : (nine : Bool) (rest : List ℕ) → 1 < length rest → slice_index rest 0 < 128 → ends_rowid nine rest ≡ false
unfolding ends_rowid
stopped_end nine [] more off = absurd (omega arith)
stopped_end nine (byte ∷ []) more off = absurd (omega arith)
stopped_end nine (byte ∷ next ∷ rest) more off = halted byte (ends_rowid nine (next ∷ rest)) (nat_le 128 byte) refl off

ends_taken : (nine : Bool) (bytes : List ℕ) → ends_rowid nine bytes ≡ true → EndsRowid nine bytes
unfolding ends_rowid
ends_taken nine [] is = tt
ends_taken true (byte ∷ []) is = tt
ends_taken false (byte ∷ []) is = grind (arith, nat_tests)
ends_taken nine (byte ∷ next ∷ bytes) is =
    let both = both_true (nat_le 128 byte) (ends_rowid nine (next ∷ bytes)) is in
    let on = both.0 in
    (grind (arith, nat_tests), ends_taken nine (next ∷ bytes) both.1)

ends_again : (nine : Bool) (bytes : List ℕ) → EndsRowid nine bytes → ends_rowid nine bytes ≡ true
unfolding ends_rowid
ends_again nine [] is = refl
ends_again true (byte ∷ []) is = refl
ends_again false (byte ∷ []) is = grind (arith, nat_tests)
ends_again nine (byte ∷ next ∷ bytes) is =
    let high = is.0 in
    let on : nat_le 128 byte ≡ true = grind (arith, nat_tests) in
    rw (on, ends_again nine (next ∷ bytes) is.1) refl

-- ---- the four bytes

-- what the four bytes say, and what may stand behind them
pub record TakesCut (setting : Setting) (bytes behind : List ℕ) : Type 0 where
  pub four : List ℕ
  pub rest : List ℕ
  pub parts : bytes ≡ four ++ (behind ++ rest)
  pub long : length four ≡ 4
  pub next : (two_bytes_at four 0 ≡ 0) ⊎ (setting.offset + two_bytes_at four 2 ≤ two_bytes_at four 0)
  pub within : 4 + length behind ≤ two_bytes_at four 2
  pub full : setting.block ≡ false → 4 + length behind ≡ two_bytes_at four 2
  pub exact : two_bytes_at four 2 ≤ length bytes → 4 + length behind ≡ two_bytes_at four 2

next_is : (next place : ℕ) (none past : Bool) → (next == 0) ≡ none → nat_le place next ≡ past → (none || past) ≡ true → (next ≡ 0) ⊎ (place ≤ next)
next_is next place true past is_none is_past either = inl (eqb-true next 0 is_none)
next_is next place false true is_none is_past either = inr (grind (arith, nat_tests))
next_is next place false false is_none is_past either = absurd (cc)

held_is : (size len : ℕ) (block held : Bool) → nat_le size len ≡ held → (block || held) ≡ true → block ≡ false → size ≤ len
held_is size len true held is either free = absurd (cc)
held_is size len false true is either free = grind (arith, nat_tests)
held_is size len false false is either free = absurd (cc)

begin_is : (setting : Setting) (len next size : ℕ) → may_begin setting len next size ≡ true
    → (4 ≤ size) × ((next ≡ 0) ⊎ (setting.offset + size ≤ next)) × (setting.block ≡ false → size ≤ len)
unfolding may_begin
begin_is setting len next size is =
    let first = both_true (nat_le 4 size) ((next == 0 || nat_le (setting.offset + size) next) && (setting.block || nat_le size len)) is in
    let others = both_true (next == 0 || nat_le (setting.offset + size) next) (setting.block || nat_le size len) first.1 in
    let some = first.0 in (
      grind (arith, nat_tests),
      next_is next (setting.offset + size) (next == 0) (nat_le (setting.offset + size) next) refl refl others.0,
      held_is size len setting.block (nat_le size len) refl others.1,
    )

exact_is : (bytes behind : List ℕ) (size : ℕ) → 4 ≤ length bytes → 4 ≤ size → size ≤ length bytes → length (drop 4 bytes) ≡ length bytes - 4 → take (size - 4) (drop 4 bytes) ≡ behind
    → 4 + length behind ≡ size
exact_is bytes behind size long some held left same =
    let whole : length (take (size - 4) (drop 4 bytes)) ≡ size - 4 = length-take-le (size - 4) (drop 4 bytes) (omega arith) in
    omega (arith, ap length same)

cut_by : (setting : Setting) (bytes behind : List ℕ) (short begins : Bool) → nat_lt (length bytes) 4 ≡ short
    → may_begin setting (length bytes) (two_bytes_at (take 4 bytes) 0) (two_bytes_at (take 4 bytes) 2) ≡ begins
    → (if short then no_bytes_there else (if begins then some_bytes_there (cut_as (two_bytes_at (take 4 bytes) 2) bytes) else no_bytes_there)) ≡ some_bytes_there behind
    → TakesCut setting bytes behind
cut_by setting bytes behind true begins is_short is_begins found = absurd (cc)
cut_by setting bytes behind false false is_short is_begins found = absurd (cc)
cut_by setting bytes behind false true is_short is_begins found =
    let four = take 4 bytes in
    let size = two_bytes_at four 2 in
    let is = begin_is setting (length bytes) (two_bytes_at four 0) size is_begins in
    let same : take (size - 4) (drop 4 bytes) ≡ behind = ap bytes_there found in
    let long : 4 ≤ length bytes = grind (arith, nat_tests) in
    let four_long : length four ≡ 4 = length-take-le 4 bytes long in
    let left : length (drop 4 bytes) ≡ length bytes - 4 = length-drop 4 bytes in
    let most : length behind ≤ size - 4 = rw (← same) (length-take-most (size - 4) (drop 4 bytes)) in
    let exact = λ (held : size ≤ length bytes). exact_is bytes behind size long is.0 held left same in
    record {
      four = four;
      rest = drop (size - 4) (drop 4 bytes);
      parts = sym (take-append-drop 4 bytes) ∙ ap (λ tail. four ++ tail) (sym (take-append-drop (size - 4) (drop 4 bytes)) ∙ ap (λ front. front ++ drop (size - 4) (drop 4 bytes)) same);
      long = four_long;
      next = is.1;
      within = omega (arith, is.0);
      full = λ free. exact (is.2 free);
      exact = exact;
    }

pub cut_taken : (setting : Setting) (bytes behind : List ℕ) → cut_in setting bytes ≡ Some behind → TakesCut setting bytes behind
unfolding cut_in
cut_taken setting bytes behind found =
    cut_by setting bytes behind (nat_lt (length bytes) 4) (may_begin setting (length bytes) (two_bytes_at (take 4 bytes) 0) (two_bytes_at (take 4 bytes) 2)) refl refl found

next_again : (next place : ℕ) → (next ≡ 0) ⊎ (place ≤ next) → (next == 0 || nat_le place next) ≡ true
next_again next place (inl none) = rw none refl
next_again next place (inr past) = let is : nat_le place next ≡ true = grind (arith, nat_tests) in rw is (or-true (next == 0))

held_again : (block : Bool) (len size there : ℕ) → Fits block len size → len ≤ there → (block || nat_le size there) ≡ true
held_again true len size there fits within = refl
held_again false len size there fits within = grind (arith, nat_tests)

fits_most : (block : Bool) (len size : ℕ) → Fits block len size → len ≤ size
fits_most true len size fits = fits
fits_most false len size fits = omega (arith, fits)

-- what may stand behind the four bytes of a span is what stands there, and some more where a freeblock begins
pub cut_again : (setting : Setting) (four behind rest : List ℕ) → IsCut setting four (length (four ++ behind))
    → cut_in setting (four ++ (behind ++ rest)) ≡ Some (behind ++ take (two_bytes_at four 2 - 4 - length behind) rest)
unfolding cut_in
cut_again setting four behind rest cut =
    let bytes = four ++ (behind ++ rest) in
    let size = two_bytes_at four 2 in
    let first : take 4 bytes ≡ four = take_at four (behind ++ rest) 4 cut.long in
    let last : drop 4 bytes ≡ behind ++ rest = drop_at four (behind ++ rest) 4 cut.long in
    let long : length (four ++ behind) ≡ 4 + length behind = omega (arith, length-append four behind, cut.long) in
    let all : length bytes ≡ 4 + length behind + length rest = omega (arith, length-append four (behind ++ rest), length-append behind rest, cut.long) in
    let most : length (four ++ behind) ≤ size = fits_most setting.block (length (four ++ behind)) size cut.fits in
    let short : nat_lt (length bytes) 4 ≡ false = grind (arith, nat_tests) in
    let some : nat_le 4 size ≡ true = grind (arith, nat_tests) in
    let next = next_again (two_bytes_at four 0) (setting.offset + size) cut.next in
    let held = held_again setting.block (length (four ++ behind)) size (length bytes) cut.fits (omega arith) in
    let begins : may_begin setting (length bytes) (two_bytes_at four 0) size ≡ true = begin_again setting (length bytes) (two_bytes_at four 0) size some next held in
    let more : size - 4 ≡ length behind + (size - 4 - length behind) = omega arith in
    let cut_off : take (size - 4) (behind ++ rest) ≡ behind ++ take (size - 4 - length behind) rest
    = ap (λ n. take n (behind ++ rest)) more ∙ take-append-add behind rest (size - 4 - length behind) in
    rw (short, first, begins, last) (ap some_bytes_there cut_off)

-- ---- the lengths that were overwritten

lengths_if : (payload together len : ℕ) (above within : Bool) → nat_lt (shortest payload) together ≡ above → nat_le together (shortest payload + 9) ≡ within
    → (if above && within then Some (together - shortest payload) else no_number) ≡ Some len → AreLengths payload len together
lengths_if payload together len false within is_above is_within found = absurd (cc)
lengths_if payload together len true false is_above is_within found = absurd (cc)
lengths_if payload together len true true is_above is_within found =
    let low : shortest payload < together = grind (arith, nat_tests) in
    let high : together ≤ shortest payload + 9 = grind (arith, nat_tests) in
    let same : together - shortest payload ≡ len = cc in
    record { least = omega arith; most = omega arith; sum = omega arith }

pub lengths_taken : (payload together len : ℕ) → rowid_len_in payload together ≡ Some len → AreLengths payload len together
unfolding rowid_len_in
lengths_taken payload together len found =
    lengths_if payload together len (nat_lt (shortest payload) together) (nat_le together (shortest payload + 9)) refl refl found

pub lengths_again : (payload together len : ℕ) → AreLengths payload len together → rowid_len_in payload together ≡ Some len
unfolding rowid_len_in
lengths_again payload together len lengths =
    let sum = lengths.sum in
    let least = lengths.least in
    let most = lengths.most in
    let above : nat_lt (shortest payload) together ≡ true = grind (arith, nat_tests) in
    let within : nat_le together (shortest payload + 9) ≡ true = grind (arith, nat_tests) in
    let same : together - shortest payload ≡ len = omega arith in
    rw (above, within, same) refl

-- ---- the tail

placed_is : (setting : Setting) (len : ℕ) (parts : Opened) → is_placed setting len parts ≡ true
    → (len - length parts.bodies ≤ 127) × (len - parts.left ≤ setting.longest) × ((setting.block || parts.left == 0) ≡ true)
unfolding is_placed
placed_is setting len parts is =
    let first = both_true (nat_le (len - length parts.bodies) 127) (nat_le (len - parts.left) setting.longest && (setting.block || parts.left == 0)) is in
    let others = both_true (nat_le (len - parts.left) setting.longest) (setting.block || parts.left == 0) first.1 in
    let few = first.0 in
    let local = others.0 in
    (grind (arith, nat_tests), grind (arith, nat_tests), others.1)

pub none_left : (left : ℕ) (block none : Bool) → (left == 0) ≡ none → (block || none) ≡ true → block ≡ false → left ≡ 0
none_left left true none is either free = absurd (cc)
none_left left false true is either free = eqb-true left 0 is
none_left left false false is either free = absurd (cc)

pub fits_by : (block : Bool) (len size behind left : ℕ) → 4 + behind ≤ size → (block ≡ false → 4 + behind ≡ size) → (block ≡ false → left ≡ 0) → len + left ≡ 4 + behind → Fits block len size
fits_by true len size behind left within full none all = omega arith
fits_by false len size behind left within full none all = omega (arith, full refl, none refl)

columns_of : (e : ℕ) (types_text bodies types : List ℕ) → used_types types_text ≡ Some types → columns_in (Tail e) types_text bodies ≡ seen types bodies
unfolding columns_in
columns_of e types_text bodies types read = rw read refl

abbrev pub as_sighting : Sighting → Option Sighting → Sighting
as_sighting other None = other
as_sighting other (Some sighting) = sighting

tail_if : (sighting made : Sighting) (ends : Bool) → (if ends then Some made else None) ≡ Some sighting → (ends ≡ true) × (made ≡ sighting)
tail_if sighting made true found = (refl, ap (as_sighting sighting) found)
tail_if sighting made false found = absurd (cc)

-- what a tail that was read is made of
pub record MadeTail (e : ℕ) (setting : Setting) (end : List ℕ) (len : ℕ) (parts : Opened) (sighting : Sighting) : Type 0 where
  pub rowid_len : ℕ
  pub lengths : AreLengths (len - parts.left) rowid_len (4 + e)
  pub ends : EndsRowid (rowid_len == 9) end
  pub few : len - length parts.bodies ≤ 127
  pub local : len - parts.left ≤ setting.longest
  pub whole : setting.block ≡ false → parts.left ≡ 0
  pub is : sighted (Tail e) (4 + e + (len - parts.left)) None None (columns_in (Tail e) parts.types (take (length parts.bodies - parts.left) parts.bodies)) ≡ sighting

made_if : (e : ℕ) (setting : Setting) (end : List ℕ) (len : ℕ) (parts : Opened) (sighting : Sighting) (placed : Bool) → is_placed setting len parts ≡ placed
    → (if placed then (rowid_len_in (payload_of len parts) (4 + e) >>= λ rowid_len. tailed e end len parts rowid_len) else None) ≡ Some sighting
    → MadeTail e setting end len parts sighting
made_if e setting end len parts sighting false is found = absurd (cc)
made_if e setting end len parts sighting true is found =
    let placed = placed_is setting len parts is in
    let read = bind_some (rowid_len_in (len - parts.left) (4 + e)) (λ rowid_len. tailed e end len parts rowid_len) sighting found in
    let made = tail_if sighting (sighted (Tail e) (4 + e + (len - parts.left)) None None (columns_in (Tail e) parts.types (take (length parts.bodies - parts.left) parts.bodies))) (ends_rowid (read.0 == 9) end) read.2 in
    record {
      rowid_len = read.0;
      lengths = lengths_taken (len - parts.left) (4 + e) read.0 read.1;
      ends = ends_taken (read.0 == 9) end made.0;
      few = placed.0;
      local = placed.1;
      whole = none_left parts.left setting.block (parts.left == 0) refl placed.2;
      is = made.1;
    }

made_taken : (e : ℕ) (setting : Setting) (end : List ℕ) (len : ℕ) (parts : Opened) (sighting : Sighting) → tail_made e setting end len parts ≡ Some sighting
    → MadeTail e setting end len parts sighting
unfolding tail_made
made_taken e setting end len parts sighting found = made_if e setting end len parts sighting (is_placed setting len parts) refl found

-- the bytes behind the four, cut behind the rowid's
pub record TakesTail (e : ℕ) (setting : Setting) (behind : List ℕ) (sighting : Sighting) : Type 0 where
  pub end : List ℕ
  pub rest : List ℕ
  pub parts : behind ≡ end ++ rest
  pub long : length end ≡ e
  pub read : Opened
  pub opened : IsOpened (length rest) rest read
  pub made : MadeTail e setting end (length rest) read sighting

tail_by : (e : ℕ) (setting : Setting) (behind : List ℕ) (sighting : Sighting) (short : Bool) → nat_lt (length behind) e ≡ short
    → (if short then None else (record_in (length (drop e behind)) (drop e behind) >>= λ parts. tail_made e setting (take e behind) (length (drop e behind)) parts)) ≡ Some sighting
    → TakesTail e setting behind sighting
tail_by e setting behind sighting true is found = absurd (cc)
tail_by e setting behind sighting false is found =
    let rest = drop e behind in
    let read = bind_some (record_in (length rest) rest) (λ parts. tail_made e setting (take e behind) (length rest) parts) sighting found in
    let there : e ≤ length behind = grind (arith, nat_tests) in
    record {
      end = take e behind;
      rest = rest;
      parts = sym (take-append-drop e behind);
      long = length-take-le e behind there;
      read = read.0;
      opened = opened_taken (length rest) rest read.0 read.1;
      made = made_taken e setting (take e behind) (length rest) read.0 sighting read.2;
    }

pub tail_read : (e : ℕ) (setting : Setting) (behind : List ℕ) (sighting : Sighting) → tail_in e setting behind ≡ Some sighting → TakesTail e setting behind sighting
unfolding tail_in
tail_read e setting behind sighting found = tail_by e setting behind sighting (nat_lt (length behind) e) refl found

-- a tail that was read stands there
tail_with : (e : ℕ) (setting : Setting) (bytes behind : List ℕ) (sighting : Sighting) → TakesCut setting bytes behind → TakesTail e setting behind sighting
    → Begins (IsTail e setting) bytes sighting
tail_with e setting bytes behind sighting cut tail =
    let opened = tail.opened in
    let made = tail.made in
    let header = opened.header in
    let stored = tail.read.bodies in
    let left = tail.read.left in
    let types = opened.types in
    let bodies = take (length stored - left) stored in
    let surplus = drop (length stored - left) stored in
    let span = cut.four ++ (tail.end ++ (header ++ bodies)) in
    let rest = surplus ++ cut.rest in
    let inside : length tail.rest ≡ length header + length stored = ap length opened.joined ∙ length-append header stored in
    let fits = opened.fits in
    let left_is = opened.left in
    let filled : length bodies ≡ bodies_len types = length-take-le (length stored - left) stored (omega arith) ∙ omega arith in
    let body : length (header ++ bodies) ≡ length tail.rest - left = length-append header bodies ∙ omega arith in
    let few : length header ≤ 127 = omega (arith, made.few) in
    let behind_long : length behind ≡ e + length tail.rest = ap length tail.parts ∙ length-append tail.end tail.rest ∙ omega (arith, tail.long) in
    let long : length span ≡ 4 + e + (length tail.rest - left)
    = omega (arith, length-append cut.four (tail.end ++ (header ++ bodies)), length-append tail.end (header ++ bodies), body, cut.long, tail.long) in
    let stored_parts : bodies ++ surplus ≡ stored = take-append-drop (length stored - left) stored in
    let joined : bytes ≡ cut.four ++ ((tail.end ++ (header ++ (bodies ++ surplus))) ++ cut.rest)
    = cut.parts ∙ ap (λ back. cut.four ++ (back ++ cut.rest)) (tail.parts ∙ ap (λ back. tail.end ++ back) (opened.joined ∙ ap (λ back. header ++ back) (sym stored_parts))) in
    let whole : bytes ≡ span ++ rest = rw joined (simp append_assoc) in
    record {
      span = span;
      rest = rest;
      parts = whole;
      accepts = record {
        four = cut.four;
        end = tail.end;
        header = header;
        types_text = tail.read.types;
        types = types;
        bodies = bodies;
        rowid_len = made.rowid_len;
        parts = refl;
        cut = record {
          long = cut.long;
          next = cut.next;
          fits = fits_by setting.block (length span) (two_bytes_at cut.four 2) (length behind) left cut.within cut.full made.whole (omega arith);
        };
        long = tail.long;
        typed = opened.typed;
        few = few;
        filled = filled;
        local = omega (arith, body, made.local);
        lengths = subst (λ n. AreLengths n made.rowid_len (4 + e)) (sym body) made.lengths;
        ends = made.ends;
        is = sym made.is ∙ rw (← long, columns_of e tail.read.types bodies types (types_again types tail.read.types opened.typed.spelled)) refl;
      };
    }

pub tail_taken : (e : ℕ) (setting : Setting) (bytes : List ℕ) (sighting : Sighting) → tail_at e setting bytes ≡ Some sighting → Begins (IsTail e setting) bytes sighting
unfolding tail_at
tail_taken e setting bytes sighting found =
    let read = bind_some (cut_in setting bytes) (λ behind. tail_in e setting behind) sighting found in
    tail_with e setting bytes read.0 sighting (cut_taken setting bytes read.0 read.1) (tail_read e setting read.0 sighting read.2)

-- ---- and back

placed_again : (setting : Setting) (len : ℕ) (parts : Opened) → len - length parts.bodies ≤ 127 → len - parts.left ≤ setting.longest → (setting.block || parts.left == 0) ≡ true
    → is_placed setting len parts ≡ true
unfolding is_placed
placed_again setting len parts few local whole =
    let first : nat_le (len - length parts.bodies) 127 ≡ true = grind (arith, nat_tests) in
    let second : nat_le (len - parts.left) setting.longest ≡ true = grind (arith, nat_tests) in
    rw (first, second, whole) refl

room_is : (len size behind : ℕ) → len ≡ size → len ≡ 4 + behind → size - 4 - behind ≡ 0
room_is len size behind same is = omega arith

-- nothing is left, unless a freeblock begins there
pub left_again : (block : Bool) (len size behind : ℕ) (rest : List ℕ) → Fits block len size → len ≡ 4 + behind → (block || length (take (size - 4 - behind) rest) == 0) ≡ true
left_again true len size behind rest fits is = refl
left_again false len size behind rest fits is =
    let room = room_is len size behind fits is in
    let none : length (take (size - 4 - behind) rest) ≤ 0 = omega (arith, length-take-most (size - 4 - behind) rest) in
    grind (arith, nat_tests)

made_again : (e : ℕ) (setting : Setting) (end types_text bodies more types : List ℕ) (header rowid_len : ℕ) (sighting : Sighting)
    → header ≤ 127 → header + length bodies ≤ setting.longest → (setting.block || length more == 0) ≡ true
    → AreLengths (header + length bodies) rowid_len (4 + e) → EndsRowid (rowid_len == 9) end → used_types types_text ≡ Some types
    → sighting ≡ sighted (Tail e) (4 + e + (header + length bodies)) None None (seen types bodies)
    → tail_made e setting end (header + length (bodies ++ more)) (opened_as types_text (bodies ++ more) (length types) (length more)) ≡ Some sighting
unfolding tail_made
made_again e setting end types_text bodies more types header rowid_len sighting few local whole lengths ends read is =
    let len = header + length (bodies ++ more) in
    let parts = opened_as types_text (bodies ++ more) (length types) (length more) in
    let all = length-append bodies more in
    let head : len - length (bodies ++ more) ≡ header = omega arith in
    let payload : len - length more ≡ header + length bodies = omega arith in
    let count : length (bodies ++ more) - length more ≡ length bodies = omega arith in
    let placed : is_placed setting len parts ≡ true = placed_again setting len parts (omega arith) (omega arith) whole in
    let lens : rowid_len_in (header + length bodies) (4 + e) ≡ Some rowid_len = lengths_again (header + length bodies) (4 + e) rowid_len lengths in
    let end_is : ends_rowid (rowid_len == 9) end ≡ true = ends_again (rowid_len == 9) end ends in
    let front : take (length bodies) (bodies ++ more) ≡ bodies = take_at bodies more (length bodies) refl in
    let columns = columns_of e types_text bodies types read in
    rw (placed, payload, lens, end_is, count, front, columns) (ap Some (sym is))

tail_in_again : (e : ℕ) (setting : Setting) (end rest : List ℕ) (sighting : Sighting) (parts : Opened) → length end ≡ e → record_in (length rest) rest ≡ Some parts
    → tail_made e setting end (length rest) parts ≡ Some sighting → tail_in e setting (end ++ rest) ≡ Some sighting
unfolding tail_in
tail_in_again e setting end rest sighting parts long read made =
    let short : nat_lt (length (end ++ rest)) e ≡ false = let all = length-append end rest in grind (arith, nat_tests) in
    let first : take e (end ++ rest) ≡ end = take_at end rest e long in
    let last : drop e (end ++ rest) ≡ rest = drop_at end rest e long in
    rw (short, first, last, read) made

tail_parts : (e : ℕ) (setting : Setting) (rest : List ℕ) (sighting : Sighting) (t : (span : List ℕ) × IsTail e setting span sighting)
    → tail_at e setting (t.1.four ++ ((t.1.end ++ (t.1.header ++ t.1.bodies)) ++ rest)) ≡ Some sighting
unfolding tail_at
tail_parts e setting rest sighting t =
    let tail = t.1 in
    let span = t.0 in
    let inner = tail.end ++ (tail.header ++ tail.bodies) in
    let size = two_bytes_at tail.four 2 in
    let more = take (size - 4 - length inner) rest in
    let record_text = tail.header ++ (tail.bodies ++ more) in
    let body = length-append tail.header tail.bodies in
    let filled = tail.filled in
    let span_long : length span ≡ 4 + length inner = ap length tail.parts ∙ length-append tail.four inner ∙ omega (arith, tail.cut.long) in
    let cut_is : IsCut setting tail.four (length (tail.four ++ inner)) = subst (IsCut setting tail.four) (ap length tail.parts) tail.cut in
    let cut = cut_again setting tail.four inner rest cut_is in
    let regroup : inner ++ more ≡ tail.end ++ record_text = simp append_assoc in
    let text_long : length record_text ≡ length tail.header + length (tail.bodies ++ more) = length-append tail.header (tail.bodies ++ more) in
    let room : bodies_len tail.types ≤ length record_text - length tail.header = omega (arith, text_long, length-append tail.bodies more) in
    let left : length record_text - length tail.header - bodies_len tail.types ≡ length more = omega (arith, text_long, length-append tail.bodies more) in
    let opened : record_in (length record_text) record_text ≡ Some (opened_as tail.types_text (tail.bodies ++ more) (length tail.types) (length more))
    = opened_again (length record_text) tail.header tail.types_text (tail.bodies ++ more) tail.types tail.typed room
    ∙ ap (λ n. Some (opened_as tail.types_text (tail.bodies ++ more) (length tail.types) n)) left in
    let whole = left_again setting.block (length span) size (length inner) rest tail.cut.fits span_long in
    let inner_long : length inner ≡ e + (length tail.header + length tail.bodies) = omega (arith, length-append tail.end (tail.header ++ tail.bodies), body, tail.long) in
    let len : length span ≡ 4 + e + (length tail.header + length tail.bodies) = omega (arith, span_long, inner_long) in
    let lengths : AreLengths (length tail.header + length tail.bodies) tail.rowid_len (4 + e) = subst (λ n. AreLengths n tail.rowid_len (4 + e)) body tail.lengths in
    let read = types_again tail.types tail.types_text tail.typed.spelled in
    let is : sighting ≡ sighted (Tail e) (4 + e + (length tail.header + length tail.bodies)) None None (seen tail.types tail.bodies)
    = tail.is ∙ ap (λ n. sighted (Tail e) n None None (seen tail.types tail.bodies)) len in
    let made = made_again e setting tail.end tail.types_text tail.bodies more tail.types (length tail.header) tail.rowid_len sighting tail.few (omega (arith, body, tail.local)) whole lengths tail.ends read is in
    rw (cut, regroup)
    (tail_in_again e setting tail.end record_text sighting (opened_as tail.types_text (tail.bodies ++ more) (length tail.types) (length more)) tail.long opened
    (rw text_long made))

pub tail_again : (e : ℕ) (setting : Setting) (bytes : List ℕ) (sighting : Sighting) → Begins (IsTail e setting) bytes sighting → tail_at e setting bytes ≡ Some sighting
tail_again e setting bytes sighting begins =
    let tail = begins.accepts in
    let joined : begins.span ++ begins.rest ≡ tail.four ++ ((tail.end ++ (tail.header ++ tail.bodies)) ++ begins.rest) = rw tail.parts (simp append_assoc) in
    ap (tail_at e setting) (begins.parts ∙ joined) ∙ tail_parts e setting begins.rest sighting (begins.span, tail)

pub tail_both : (e : ℕ) (setting : Setting) (bytes : List ℕ) (sighting : Sighting) → (tail_at e setting bytes ≡ Some sighting) ↔ Begins (IsTail e setting) bytes sighting
tail_both e setting bytes sighting = (tail_taken e setting bytes sighting, tail_again e setting bytes sighting)
