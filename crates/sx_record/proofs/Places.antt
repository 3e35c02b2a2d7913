-- The text of bytes in UTF-8 is made of a piece for each byte, and each piece is what the byte's own place says.
use Rattle.std.proofs.Common.{◌≡◌, ◌⊎◌, inl, inr, ℕ, zero, suc, ◌+◌, ◌-◌, ◌<◌, ◌≤◌, ◌==◌, Bool, true, false, ◌&&◌, nat_le, if◌then◌else◌, List, [], ◌∷◌, ◌++◌, length, take, drop, slice_index, slice_get, Option, Some, None, refl, ap, ◌∙◌, arith, sub-one}
use Rattle.std.proofs.lemmas.Bool.Decides.{nat_tests}
use Rattle.std.specs.List.{list_all, flat_map}
use Rattle.sx_record.specs.Escape.{byte_text}
use Rattle.sx_record.specs.Utf8.{is_within, sequence_of, is_continued, continued_len, sequence_len, character_len, utf8_text}
use Rattle.sx_record.specs.Places.{IsPart, IsPrinted}
use Rattle.sx_record.specs.declared.utf8.Sequence.{Sequence}
use Rattle.sx_record.proofs.Fronts.{character_there, byte_first, none_printed}
use Rattle.sx_record.proofs.Rows.{IsRow, row_of}

-- ---- a byte of a sequence behind its first is the first of none

-- what each row of the table keeps to
record IsLead (first : ℕ) (sequence : Sequence) : Type 0 where
  pub lead : 0xc0 ≤ first
  pub long : 2 ≤ sequence.len
  pub high : sequence.high ≤ 0xbf

lead_by : (first : ℕ) (sequence : Sequence) → IsRow first sequence → IsLead first sequence
lead_by first sequence (inl two) = record {
  lead = (let least = two.least in omega arith);
  long = (let len = two.len in omega arith);
  high = two.high;
}
lead_by first sequence (inr (inl three)) = record {
  lead = (let least = three.least in omega arith);
  long = (let len = three.len in omega arith);
  high = three.high;
}
lead_by first sequence (inr (inr four)) = record {
  lead = (let least = four.least in omega arith);
  long = (let len = four.len in omega arith);
  high = four.high;
}

lead_of : (first : ℕ) (sequence : Sequence) → sequence_of first ≡ Some sequence → IsLead first sequence
lead_of first sequence is = lead_by first sequence (row_of first sequence is)

-- a byte that leads no sequence
no_lead : (byte : ℕ) (bytes : List ℕ) (sequence : Option Sequence) → sequence_of byte ≡ sequence → byte < 0xc0 → continued_len (byte ∷ bytes) sequence ≡ 0
no_lead byte bytes None is below = refl
no_lead byte bytes (Some sequence) is below = absurd (omega (arith, (lead_of byte sequence is).lead))

character_of : (bytes : List ℕ) (control : Bool) → (if control then 0 else sequence_len bytes) ≡ 0 ⊎ ((if control then 0 else sequence_len bytes) ≡ sequence_len bytes)
character_of bytes true = inl refl
character_of bytes false = inr refl

pub none_behind : (byte : ℕ) (bytes : List ℕ) → byte < 0xc0 → character_len (byte ∷ bytes) ≡ 0
unfolding character_len sequence_len
none_behind byte bytes below =
    let none = no_lead byte bytes (sequence_of byte) refl below in
    elim (character_of (byte ∷ bytes) (byte == 0xc2 && is_within 0x80 0x9f (slice_index (byte ∷ bytes) 1))) [ inl zero_len ↦ zero_len | inr same ↦ same ∙ none ]

-- so many bytes at the front are below the leads
abbrev AreTails : ℕ → List ℕ → Type 0
AreTails zero bytes = Unit {0}
AreTails (suc pending) [] = Unit {0}
AreTails (suc pending) (byte ∷ bytes) = (byte < 0xc0) × AreTails pending bytes

both : (a b : Bool) → (a && b) ≡ true → (a ≡ true) × (b ≡ true)
both true true is = (refl, refl)
both true false is = absurd (cc)
both false b is = absurd (cc)

within_below : (byte low high : ℕ) → is_within low high byte ≡ true → high ≤ 0xbf → byte < 0xc0
within_below byte low high is below = let most : byte ≤ high = grind (arith, nat_tests) in omega arith

tails_of : (count : ℕ) (bytes : List ℕ) → list_all (is_within 0x80 0xbf) (take count bytes) ≡ true → AreTails count bytes
tails_of zero bytes all = tt
tails_of (suc count) [] all = tt
tails_of (suc count) (byte ∷ bytes) all =
    let parts = both (is_within 0x80 0xbf byte) (list_all (is_within 0x80 0xbf) (take count bytes)) all in
    (within_below byte 0x80 0xbf parts.0 (omega arith), tails_of count bytes parts.1)

no_tails : (pending : ℕ) → AreTails pending []
no_tails zero = tt
no_tails (suc pending) = tt

-- the bytes behind the first of a sequence
tails_by : (byte second : ℕ) (pending : ℕ) (others : List ℕ) (sequence : Sequence) → IsLead byte sequence → sequence.len ≡ suc (suc pending)
    → is_continued sequence (byte ∷ second ∷ others) ≡ true → AreTails (suc pending) (second ∷ others)
tails_by byte second pending others sequence row long continued =
    let parts = both (nat_le sequence.len (length (byte ∷ second ∷ others)) && is_within sequence.low sequence.high second)
    (list_all (is_within 0x80 0xbf) (take (sequence.len - 2) others)) continued in
    let first = both (nat_le sequence.len (length (byte ∷ second ∷ others))) (is_within sequence.low sequence.high second) parts.0 in
    let count : sequence.len - 2 ≡ pending = omega arith in
    (within_below second sequence.low sequence.high first.1 row.high, tails_of pending others (rw count at parts.1))

continued_by : (sequence : Sequence) (continued : Bool) (len : ℕ) → (if continued then sequence.len else 0) ≡ suc len → (continued ≡ true) × (sequence.len ≡ suc len)
continued_by sequence true len is = (refl, is)
continued_by sequence false len is = absurd (omega arith)

tails_from : (byte pending : ℕ) (bytes : List ℕ) (sequence : Option Sequence) → sequence_of byte ≡ sequence → continued_len (byte ∷ bytes) sequence ≡ suc pending → AreTails pending bytes
tails_from byte pending bytes None is len = absurd (omega arith)
tails_from byte pending [] (Some sequence) is len = no_tails pending
tails_from byte zero (second ∷ others) (Some sequence) is len = tt
tails_from byte (suc pending) (second ∷ others) (Some sequence) is len =
    let parts = continued_by sequence (is_continued sequence (byte ∷ second ∷ others)) (suc pending) len in
    tails_by byte second pending others sequence (lead_of byte sequence is) parts.1 parts.0

sequence_by : (bytes : List ℕ) (control : Bool) (len : ℕ) → (if control then 0 else sequence_len bytes) ≡ suc len → sequence_len bytes ≡ suc len
sequence_by bytes true len is = absurd (omega arith)
sequence_by bytes false len is = is

tails_behind : (byte pending : ℕ) (bytes : List ℕ) → character_len (byte ∷ bytes) ≡ suc pending → AreTails pending bytes
unfolding character_len sequence_len
tails_behind byte pending bytes is =
    tails_from byte pending bytes (sequence_of byte) refl
    (sequence_by (byte ∷ bytes) (byte == 0xc2 && is_within 0x80 0x9f (slice_index (byte ∷ bytes) 1)) pending is)

-- ---- pieces

pieces_behind : ℕ → List ℕ → List (List ℕ)
pieces_behind pending [] = []
pieces_behind (suc pending) (byte ∷ bytes) = (byte ∷ []) ∷ pieces_behind pending bytes
pieces_behind zero (byte ∷ bytes) =
    if character_len (byte ∷ bytes) == 0 then byte_text byte ∷ pieces_behind 0 bytes
    else (byte ∷ []) ∷ pieces_behind (character_len (byte ∷ bytes) - 1) bytes

-- no character is at the front, and one is
pieces_none : (byte : ℕ) (bytes : List ℕ) → character_len (byte ∷ bytes) ≡ 0 → pieces_behind 0 (byte ∷ bytes) ≡ byte_text byte ∷ pieces_behind 0 bytes
unfolding pieces_behind
pieces_none byte bytes none = rw none refl

pieces_by : (byte pending len : ℕ) (bytes : List ℕ) → len ≡ suc pending
    → (if len == 0 then byte_text byte ∷ pieces_behind 0 bytes else (byte ∷ []) ∷ pieces_behind (len - 1) bytes) ≡ (byte ∷ []) ∷ pieces_behind pending bytes
pieces_by byte pending len bytes is =
    let apart : (suc pending == 0) ≡ false = grind (arith, nat_tests) in
    rw (is, apart, sub-one) refl

pieces_some : (byte pending : ℕ) (bytes : List ℕ) → character_len (byte ∷ bytes) ≡ suc pending → pieces_behind 0 (byte ∷ bytes) ≡ (byte ∷ []) ∷ pieces_behind pending bytes
unfolding pieces_behind
pieces_some byte pending bytes is = pieces_by byte pending (character_len (byte ∷ bytes)) bytes is

-- the pieces joined are the text
pieces_joined : (bytes : List ℕ) (pending : ℕ) → take pending bytes ++ utf8_text (drop pending bytes) ≡ flat_map (λ piece. piece) (pieces_behind pending bytes)
unfolding pieces_behind
pieces_joined [] zero = none_printed
pieces_joined [] (suc pending) = none_printed
pieces_joined (byte ∷ bytes) (suc pending) = ap (λ text. byte ∷ text) (pieces_joined bytes pending)
pieces_joined (byte ∷ bytes) zero = joined_by byte bytes (character_len (byte ∷ bytes)) refl (pieces_joined bytes)
  where
    joined_by : (byte : ℕ) (bytes : List ℕ) (len : ℕ) → character_len (byte ∷ bytes) ≡ len
        → ((pending : ℕ) → take pending bytes ++ utf8_text (drop pending bytes) ≡ flat_map (λ piece. piece) (pieces_behind pending bytes))
        → utf8_text (byte ∷ bytes) ≡ flat_map (λ piece. piece) (pieces_behind 0 (byte ∷ bytes))
    joined_by byte bytes zero is behind = rw (byte_first byte bytes is, pieces_none byte bytes is) (ap (λ text. byte_text byte ++ text) (behind 0))
    joined_by byte bytes (suc len) is behind =
        let there : utf8_text (byte ∷ bytes) ≡ take (suc len) (byte ∷ bytes) ++ utf8_text (drop (suc len) (byte ∷ bytes)) = rw is at (character_there (byte ∷ bytes) (omega (arith, is))) in
        rw (there, pieces_some byte len bytes is) (ap (λ text. byte ∷ text) (behind len))

pieces_count : (pending : ℕ) (bytes : List ℕ) → length (pieces_behind pending bytes) ≡ length bytes
unfolding pieces_behind
pieces_count pending [] = refl
pieces_count (suc pending) (byte ∷ bytes) = ap suc (pieces_count pending bytes)
pieces_count zero (byte ∷ bytes) = counted_by (character_len (byte ∷ bytes) == 0) (character_len (byte ∷ bytes) - 1) byte bytes (pieces_count 0 bytes) (pieces_count (character_len (byte ∷ bytes) - 1) bytes)
  where
    counted_by : (single : Bool) (pending byte : ℕ) (bytes : List ℕ) → length (pieces_behind 0 bytes) ≡ length bytes → length (pieces_behind pending bytes) ≡ length bytes
        → length (if single then byte_text byte ∷ pieces_behind 0 bytes else (byte ∷ []) ∷ pieces_behind pending bytes) ≡ suc (length bytes)
    counted_by true pending byte bytes here behind = ap suc here
    counted_by false pending byte bytes here behind = ap suc behind

-- ---- each place

record IsSelf (pending : ℕ) (bytes : List ℕ) (place : ℕ) : Type 0 where
  pub get : slice_get (pieces_behind pending bytes) place ≡ Some (slice_index bytes place ∷ [])
  pub why : (place < pending) ⊎ IsPart bytes place

record IsSingle (pending : ℕ) (bytes : List ℕ) (place : ℕ) : Type 0 where
  pub get : slice_get (pieces_behind pending bytes) place ≡ Some (byte_text (slice_index bytes place))
  pub past : pending ≤ place
  pub none : IsPart bytes place → ⊥

later_part : (byte : ℕ) (bytes : List ℕ) (place : ℕ) → IsPart bytes place → IsPart (byte ∷ bytes) (suc place)
later_part byte bytes place part = record { start = suc part.start; before = (let before = part.before in omega arith); reaches = (let reaches = part.reaches in omega arith) }

no_part_by : (byte : ℕ) (bytes : List ℕ) (place start : ℕ) → (IsPart bytes place → ⊥) → character_len (byte ∷ bytes) ≤ suc place
    → start ≤ suc place → suc place < start + character_len (drop start (byte ∷ bytes)) → ⊥
no_part_by byte bytes place zero none short before reaches = omega arith
no_part_by byte bytes place (suc start) none short before reaches = none (record { start = start; before = omega arith; reaches = omega arith })

no_later_part : (byte : ℕ) (bytes : List ℕ) (place : ℕ) → (IsPart bytes place → ⊥) → character_len (byte ∷ bytes) ≤ suc place → IsPart (byte ∷ bytes) (suc place) → ⊥
no_later_part byte bytes place none short part = no_part_by byte bytes place part.start none short part.before part.reaches

abbrev Placed : ℕ → List ℕ → ℕ → Type 0
Placed pending bytes place = IsSelf pending bytes place ⊎ IsSingle pending bytes place

-- behind a byte that belongs to a character before it
pending_step : (pending byte : ℕ) (bytes : List ℕ) (place : ℕ) → byte < 0xc0 → Placed pending bytes place → Placed (suc pending) (byte ∷ bytes) (suc place)
unfolding pieces_behind
pending_step pending byte bytes place tail (inl self) =
    inl (record { get = self.get; why = elim (self.why) [ inl below ↦ inl (omega arith) | inr part ↦ inr (later_part byte bytes place part) ] })
pending_step pending byte bytes place tail (inr single) =
    let short = none_behind byte bytes tail in
    inr (record { get = single.get; past = (let past = single.past in omega arith); none = no_later_part byte bytes place single.none (omega (arith, short)) })

-- behind a byte that stands by itself
single_step : (byte : ℕ) (bytes : List ℕ) (place : ℕ) → character_len (byte ∷ bytes) ≡ 0 → Placed 0 bytes place → Placed 0 (byte ∷ bytes) (suc place)
single_step byte bytes place none (inl self) =
    inl (record {
      get = rw (pieces_none byte bytes none) self.get;
      why = elim (self.why) [ inl below ↦ absurd (omega arith) | inr part ↦ inr (later_part byte bytes place part) ];
    })
single_step byte bytes place none (inr single) =
    inr (record {
      get = rw (pieces_none byte bytes none) single.get;
      past = omega arith;
      none = no_later_part byte bytes place single.none (omega (arith, none));
    })

-- behind the first byte of a character
lead_step : (byte pending : ℕ) (bytes : List ℕ) (place : ℕ) → character_len (byte ∷ bytes) ≡ suc pending → Placed pending bytes place → Placed 0 (byte ∷ bytes) (suc place)
lead_step byte pending bytes place is (inl self) =
    inl (record {
      get = rw (pieces_some byte pending bytes is) self.get;
      why = elim (self.why) [
        | inl below ↦ inr (record { start = 0; before = omega arith; reaches = omega (arith, is) })
        | inr part ↦ inr (later_part byte bytes place part)
      ];
    })
lead_step byte pending bytes place is (inr single) =
    inr (record {
      get = rw (pieces_some byte pending bytes is) single.get;
      past = omega arith;
      none = no_later_part byte bytes place single.none (let past = single.past in omega (arith, is));
    })

-- a byte at the front, by the length of the character that begins there
front_place : (byte len : ℕ) (bytes : List ℕ) → character_len (byte ∷ bytes) ≡ len → Placed 0 (byte ∷ bytes) 0
front_place byte zero bytes none =
    inr (record {
      get = rw (pieces_none byte bytes none) refl;
      past = omega arith;
      none = λ part. front_none byte bytes part.start none part.before part.reaches;
    })
  where
    front_none : (byte : ℕ) (bytes : List ℕ) (start : ℕ) → character_len (byte ∷ bytes) ≡ 0 → start ≤ 0 → 0 < start + character_len (drop start (byte ∷ bytes)) → ⊥
    front_none byte bytes zero none before reaches = omega arith
    front_none byte bytes (suc start) none before reaches = omega arith
front_place byte (suc pending) bytes is =
    inl (record { get = rw (pieces_some byte pending bytes is) refl; why = inr (record { start = 0; before = omega arith; reaches = omega (arith, is) }) })

lead_place : (byte len : ℕ) (bytes : List ℕ) (place : ℕ) → character_len (byte ∷ bytes) ≡ len
    → ((pending : ℕ) → AreTails pending bytes → Placed pending bytes place) → Placed 0 (byte ∷ bytes) (suc place)
lead_place byte zero bytes place none behind = single_step byte bytes place none (behind 0 tt)
lead_place byte (suc pending) bytes place is behind = lead_step byte pending bytes place is (behind pending (tails_behind byte pending bytes is))

each : (bytes : List ℕ) (pending : ℕ) (place : ℕ) → AreTails pending bytes → place < length bytes → Placed pending bytes place
unfolding pieces_behind
each [] pending place tails within = absurd (omega arith)
each (byte ∷ bytes) (suc pending) zero tails within = inl (record { get = refl; why = inl (omega arith) })
each (byte ∷ bytes) (suc pending) (suc place) tails within = pending_step pending byte bytes place tails.0 (each bytes pending place tails.1 (omega arith))
each (byte ∷ bytes) zero zero tails within = front_place byte (character_len (byte ∷ bytes)) bytes refl
each (byte ∷ bytes) zero (suc place) tails within =
    lead_place byte (character_len (byte ∷ bytes)) bytes place refl (λ pending behind. each bytes pending place behind (omega arith))

part_piece : (bytes : List ℕ) (place : ℕ) → IsPart bytes place → Placed 0 bytes place → slice_get (pieces_behind 0 bytes) place ≡ Some (slice_index bytes place ∷ [])
part_piece bytes place part (inl self) = self.get
part_piece bytes place part (inr single) = absurd (single.none part)

single_piece : (bytes : List ℕ) (place : ℕ) → (IsPart bytes place → ⊥) → Placed 0 bytes place → slice_get (pieces_behind 0 bytes) place ≡ Some (byte_text (slice_index bytes place))
single_piece bytes place none (inl self) = elim (self.why) [ inl below ↦ absurd (omega arith) | inr part ↦ absurd (none part) ]
single_piece bytes place none (inr single) = single.get

-- the text is made of a piece for each byte
pub text_printed : (bytes : List ℕ) → IsPrinted bytes (utf8_text bytes)
text_printed bytes = record {
  pieces = pieces_behind 0 bytes;
  joined = pieces_joined bytes 0;
  count = pieces_count 0 bytes;
  part = λ place within part. part_piece bytes place part (each bytes 0 place tt within);
  single = λ place within none. single_piece bytes place none (each bytes 0 place tt within);
}
