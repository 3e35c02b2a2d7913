-- The table of well-formed sequences gives the characters from U+00A0 up and their bytes.
use Rattle.std.proofs.Common.{◌≡◌, ◌↔◌, ◌⊎◌, inl, inr, ℕ, ◌+◌, ◌-◌, ◌*◌, ◌/◌, ◌%◌, ◌<◌, ◌≤◌, ◌==◌, Bool, true, false, ◌&&◌, nat_le, nat_lt, if◌then◌else◌, List, [], ◌∷◌, ◌++◌, length, take, drop, slice_index, Option, Some, None, refl, sym, ap, ap₂, subst, ◌∙◌, arith}
use Rattle.std.proofs.lemmas.Bool.Decides.{nat_tests}
use Rattle.std.proofs.lemmas.Bool.{cases_eq, cases_lt}
use Rattle.std.specs.List.{list_all}
use lib.Utf8.{scalar, encode}
use Rattle.sx_record.specs.Utf8.{is_within, sequence_of, is_continued, continued_len, sequence_len, character_len}
use Rattle.sx_record.specs.Characters.{BeginsWithCharacter}
use Rattle.sx_record.specs.declared.utf8.Sequence.{Sequence}
use Rattle.sx_record.proofs.Rows.{row, IsTwo, IsThree, IsFour, IsRow, row_of, lead_two, lead_long_three, lead_low_three, lead_whole_three, lead_high_three, lead_long_four, lead_mid_four, lead_last_four}

-- ---- the bytes of a character

encode_two : (c : ℕ) → 128 ≤ c → c < 2048 → encode c ≡ (192 + c / 64) ∷ (128 + c % 64) ∷ []
unfolding encode
encode_two c least below =
    let t1 : nat_lt c 128 ≡ false = grind (arith, nat_tests) in
    let t2 : nat_lt c 2048 ≡ true = grind (arith, nat_tests) in
    rw (t1, t2) refl

encode_three : (c : ℕ) → 2048 ≤ c → c < 65536 → encode c ≡ (224 + c / 4096) ∷ (128 + c / 64 % 64) ∷ (128 + c % 64) ∷ []
unfolding encode
encode_three c least below =
    let t1 : nat_lt c 128 ≡ false = grind (arith, nat_tests) in
    let t2 : nat_lt c 2048 ≡ false = grind (arith, nat_tests) in
    let t3 : nat_lt c 65536 ≡ true = grind (arith, nat_tests) in
    rw (t1, t2, t3) refl

encode_four : (c : ℕ) → 65536 ≤ c → encode c ≡ (240 + c / 262144) ∷ (128 + c / 4096 % 64) ∷ (128 + c / 64 % 64) ∷ (128 + c % 64) ∷ []
unfolding encode
encode_four c least =
    let t1 : nat_lt c 128 ≡ false = grind (arith, nat_tests) in
    let t2 : nat_lt c 2048 ≡ false = grind (arith, nat_tests) in
    let t3 : nat_lt c 65536 ≡ false = grind (arith, nat_tests) in
    rw (t1, t2, t3) refl

scalar_low : (c : ℕ) → c < 0xd800 → scalar c ≡ true
scalar_low c below = grind (arith, nat_tests)

scalar_high : (c : ℕ) → 0xe000 ≤ c → c < 0x11_0000 → scalar c ≡ true
scalar_high c least below = grind (arith, nat_tests)

not_surrogate : (c : ℕ) (low least below : Bool) → nat_lt c 0xd800 ≡ low → nat_le 0xe000 c ≡ least → nat_lt c 0x11_0000 ≡ below
    → (if low then true else (least && below)) ≡ true → (c < 0xd800) ⊎ ((0xe000 ≤ c) × (c < 0x11_0000))
not_surrogate c true least below is_low is_least is_below there = inl (grind (arith, nat_tests))
not_surrogate c false true true is_low is_least is_below there = inr (grind (arith, nat_tests), grind (arith, nat_tests))
not_surrogate c false true false is_low is_least is_below there = absurd (cc)
not_surrogate c false false below is_low is_least is_below there = absurd (cc)

scalar_parts : (c : ℕ) → scalar c ≡ true → (c < 0xd800) ⊎ ((0xe000 ≤ c) × (c < 0x11_0000))
scalar_parts c there = not_surrogate c (nat_lt c 0xd800) (nat_le 0xe000 c) (nat_lt c 0x11_0000) refl refl refl there

begins : (bytes : List ℕ) (c : ℕ) (text rest : List ℕ) (len : ℕ) → encode c ≡ text → scalar c ≡ true → 0xa0 ≤ c → bytes ≡ text ++ rest → len ≡ length text → BeginsWithCharacter bytes len
begins bytes c text rest len is there least parts long =
    record { character = c; rest = rest; scalar = there; least = least; parts = rw is parts; long = rw is long }

-- ---- from the table to characters

two_there : (a b : ℕ) (rest : List ℕ) → 0xc2 ≤ a → a ≤ 0xdf → 0x80 ≤ b → b ≤ 0xbf → (a ≡ 0xc2 → 0xa0 ≤ b) → BeginsWithCharacter (a ∷ b ∷ rest) 2
two_there a b rest a_least a_most b_least b_most shown =
    let c = (a - 192) * 64 + (b - 128) in
    let least : 0xa0 ≤ c = elim (cases_eq a 0xc2) [ inl same ↦ (let high = shown same in omega arith) | inr other ↦ omega arith ] in
    let is : encode c ≡ a ∷ b ∷ [] = encode_two c (omega arith) (omega arith) ∙ ap₂ (λ (x y : ℕ). x ∷ y ∷ []) (omega arith) (omega arith) in
    begins (a ∷ b ∷ rest) c (a ∷ b ∷ []) rest 2 is (scalar_low c (omega arith)) least refl refl

three_bytes : (a b d x y z : ℕ) → a ≡ x → b ≡ y → d ≡ z → a ∷ b ∷ d ∷ [] ≡ x ∷ y ∷ z ∷ []
three_bytes a b d x y z p q r = rw (p, q, r) refl

four_bytes : (a b d e x y z w : ℕ) → a ≡ x → b ≡ y → d ≡ z → e ≡ w → a ∷ b ∷ d ∷ e ∷ [] ≡ x ∷ y ∷ z ∷ w ∷ []
four_bytes a b d e x y z w p q r s = rw (p, q, r, s) refl

three_there : (a b d : ℕ) (rest : List ℕ) → 0xe0 ≤ a → a ≤ 0xef → 0x80 ≤ b → b ≤ 0xbf → 0x80 ≤ d → d ≤ 0xbf → (a ≡ 0xe0 → 0xa0 ≤ b) → (a ≡ 0xed → b ≤ 0x9f)
    → BeginsWithCharacter (a ∷ b ∷ d ∷ rest) 3
three_there a b d rest a_least a_most b_least b_most d_least d_most long whole =
    let c = (a - 224) * 4096 + ((b - 128) * 64 + (d - 128)) in
    let least : 2048 ≤ c = elim (cases_eq a 0xe0) [ inl same ↦ (let high = long same in omega arith) | inr other ↦ omega arith ] in
    let is : encode c ≡ a ∷ b ∷ d ∷ [] = encode_three c least (omega arith) ∙ three_bytes _ _ _ a b d (omega arith) (omega arith) (omega arith) in
    let there : scalar c ≡ true = elim (cases_lt a 0xee) [ inl low ↦ scalar_low c (elim (cases_eq a 0xed) [ inl same ↦ (let below = whole same in omega arith) | inr other ↦ omega arith ]) | inr high ↦ scalar_high c (omega arith) (omega arith) ] in
    begins (a ∷ b ∷ d ∷ rest) c (a ∷ b ∷ d ∷ []) rest 3 is there (omega arith) refl refl

four_there : (a b d e : ℕ) (rest : List ℕ) → 0xf0 ≤ a → a ≤ 0xf4 → 0x80 ≤ b → b ≤ 0xbf → 0x80 ≤ d → d ≤ 0xbf → 0x80 ≤ e → e ≤ 0xbf → (a ≡ 0xf0 → 0x90 ≤ b) → (a ≡ 0xf4 → b ≤ 0x8f)
    → BeginsWithCharacter (a ∷ b ∷ d ∷ e ∷ rest) 4
four_there a b d e rest a_least a_most b_least b_most d_least d_most e_least e_most long last =
    let c = (a - 240) * 262144 + ((b - 128) * 4096 + ((d - 128) * 64 + (e - 128))) in
    let least : 65536 ≤ c = elim (cases_eq a 0xf0) [ inl same ↦ (let high = long same in omega arith) | inr other ↦ omega arith ] in
    let below : c < 0x11_0000 = elim (cases_eq a 0xf4) [ inl same ↦ (let low = last same in omega arith) | inr other ↦ omega arith ] in
    let is : encode c ≡ a ∷ b ∷ d ∷ e ∷ [] = encode_four c least ∙ four_bytes _ _ _ _ a b d e (omega arith) (omega arith) (omega arith) (omega arith) in
    begins (a ∷ b ∷ d ∷ e ∷ rest) c (a ∷ b ∷ d ∷ e ∷ []) rest 4 is (scalar_high c (omega arith) below) (omega arith) refl refl

both : (a b : Bool) → (a && b) ≡ true → (a ≡ true) × (b ≡ true)
both true true is = (refl, refl)
both true false is = absurd (cc)
both false b is = absurd (cc)

-- a byte in a range
record IsIn (low high byte : ℕ) : Type 0 where
  pub least : low ≤ byte
  pub most : byte ≤ high

in_of : (low high byte : ℕ) → is_within low high byte ≡ true → IsIn low high byte
in_of low high byte is = record { least = grind (arith, nat_tests); most = grind (arith, nat_tests) }

-- what a sequence that goes on says of the bytes
record GoesOn (sequence : Sequence) (bytes : List ℕ) : Type 0 where
  pub held : sequence.len ≤ length bytes
  pub second : IsIn sequence.low sequence.high (slice_index bytes 1)
  pub later : list_all (is_within 0x80 0xbf) (take (sequence.len - 2) (drop 2 bytes)) ≡ true

goes_on : (sequence : Sequence) (bytes : List ℕ) → is_continued sequence bytes ≡ true → GoesOn sequence bytes
goes_on sequence bytes is =
    let held = nat_le sequence.len (length bytes) in
    let second = is_within sequence.low sequence.high (slice_index bytes 1) in
    let parts = both (held && second) (list_all (is_within 0x80 0xbf) (take (sequence.len - 2) (drop 2 bytes))) is in
    let first = both held second parts.0 in
    record {
      held = (let is_held = first.0 in grind (arith, nat_tests));
      second = in_of sequence.low sequence.high (slice_index bytes 1) first.1;
      later = parts.1;
    }

shown_of : (a b : ℕ) → (a == 0xc2 && is_within 0x80 0x9f b) ≡ false → 0x80 ≤ b → a ≡ 0xc2 → 0xa0 ≤ b
shown_of a b off least same = elim (cases_lt b 0xa0) [
  | inl low ↦
      let t1 : (a == 0xc2) ≡ true = grind (arith, nat_tests) in
      let t2 : is_within 0x80 0x9f b ≡ true = grind (arith, nat_tests) in
      absurd (let is : (a == 0xc2 && is_within 0x80 0x9f b) ≡ true = rw (t1, t2) refl in cc)
  | inr high ↦ high
]

two_from : (a : ℕ) (bytes : List ℕ) (sequence : Sequence) → IsTwo a sequence → GoesOn sequence (a ∷ bytes)
    → (a == 0xc2 && is_within 0x80 0x9f (slice_index (a ∷ bytes) 1)) ≡ false → BeginsWithCharacter (a ∷ bytes) 2
two_from a [] sequence is on off = absurd (let held = on.held in let len = is.len in omega arith)
two_from a (b ∷ rest) sequence is on off =
    let least : 0x80 ≤ b = (let low = is.low in let second = on.second.least in omega arith) in
    let most : b ≤ 0xbf = (let high = is.high in let second = on.second.most in omega arith) in
    two_there a b rest is.least is.most least most (shown_of a b off least)

three_from : (a : ℕ) (bytes : List ℕ) (sequence : Sequence) → IsThree a sequence → GoesOn sequence (a ∷ bytes) → BeginsWithCharacter (a ∷ bytes) 3
three_from a [] sequence is on = absurd (let held = on.held in let len = is.len in omega arith)
three_from a (b ∷ []) sequence is on = absurd (let held = on.held in let len = is.len in omega arith)
three_from a (b ∷ d ∷ rest) sequence is on =
    let count : sequence.len - 2 ≡ 1 = (let len = is.len in omega arith) in
    let later : (is_within 0x80 0xbf d && true) ≡ true = rw count at on.later in
    let third = in_of 0x80 0xbf d (both (is_within 0x80 0xbf d) true later).0 in
    let low = on.second.least in
    let high = on.second.most in
    three_there a b d rest is.least is.most (let from = is.low in omega arith) (let below = is.high in omega arith) third.least third.most
    (λ same. let long = is.long same in omega arith) (λ same. let whole = is.whole same in omega arith)

four_from : (a : ℕ) (bytes : List ℕ) (sequence : Sequence) → IsFour a sequence → GoesOn sequence (a ∷ bytes) → BeginsWithCharacter (a ∷ bytes) 4
four_from a [] sequence is on = absurd (let held = on.held in let len = is.len in omega arith)
four_from a (b ∷ []) sequence is on = absurd (let held = on.held in let len = is.len in omega arith)
four_from a (b ∷ d ∷ []) sequence is on = absurd (let held = on.held in let len = is.len in omega arith)
four_from a (b ∷ d ∷ e ∷ rest) sequence is on =
    let count : sequence.len - 2 ≡ 2 = (let len = is.len in omega arith) in
    let later : (is_within 0x80 0xbf d && (is_within 0x80 0xbf e && true)) ≡ true = rw count at on.later in
    let parts = both (is_within 0x80 0xbf d) (is_within 0x80 0xbf e && true) later in
    let third = in_of 0x80 0xbf d parts.0 in
    let fourth = in_of 0x80 0xbf e (both (is_within 0x80 0xbf e) true parts.1).0 in
    let low = on.second.least in
    let high = on.second.most in
    four_there a b d e rest is.least is.most (let from = is.low in omega arith) (let below = is.high in omega arith) third.least third.most fourth.least fourth.most
    (λ same. let long = is.long same in omega arith) (λ same. let last = is.last same in omega arith)

abbrev BeginsBy : List ℕ → ℕ → Type 0
BeginsBy bytes len = BeginsWithCharacter bytes len

row_there : (a : ℕ) (bytes : List ℕ) (sequence : Sequence) → IsRow a sequence → GoesOn sequence (a ∷ bytes)
    → (a == 0xc2 && is_within 0x80 0x9f (slice_index (a ∷ bytes) 1)) ≡ false → BeginsWithCharacter (a ∷ bytes) sequence.len
row_there a bytes sequence (inl two) on off = subst (BeginsBy (a ∷ bytes)) (sym two.len) (two_from a bytes sequence two on off)
row_there a bytes sequence (inr (inl three)) on off = subst (BeginsBy (a ∷ bytes)) (sym three.len) (three_from a bytes sequence three on)
row_there a bytes sequence (inr (inr four)) on off = subst (BeginsBy (a ∷ bytes)) (sym four.len) (four_from a bytes sequence four on)

len_there : (a : ℕ) (bytes : List ℕ) (sequence : Option Sequence) (off : Bool) (len : ℕ) → sequence_of a ≡ sequence
    → (a == 0xc2 && is_within 0x80 0x9f (slice_index (a ∷ bytes) 1)) ≡ off → 0 < len
    → (if off then 0 else continued_len (a ∷ bytes) sequence) ≡ len → BeginsWithCharacter (a ∷ bytes) len
len_there a bytes sequence true len row is_off some is = absurd (omega arith)
len_there a bytes None false len row is_off some is = absurd (omega arith)
len_there a bytes (Some sequence) false len row is_off some is =
    len_by a bytes sequence (is_continued sequence (a ∷ bytes)) len row is_off refl some is
  where
    len_by : (a : ℕ) (bytes : List ℕ) (sequence : Sequence) (on : Bool) (len : ℕ) → sequence_of a ≡ Some sequence
        → (a == 0xc2 && is_within 0x80 0x9f (slice_index (a ∷ bytes) 1)) ≡ false → is_continued sequence (a ∷ bytes) ≡ on → 0 < len
        → (if on then sequence.len else 0) ≡ len → BeginsWithCharacter (a ∷ bytes) len
    len_by a bytes sequence true len row off on some is = subst (BeginsBy (a ∷ bytes)) is (row_there a bytes sequence (row_of a sequence row) (goes_on sequence (a ∷ bytes) on) off)
    len_by a bytes sequence false len row off on some is = absurd (omega arith)

none_in_nothing : character_len [] ≡ 0
unfolding character_len sequence_len sequence_of
none_in_nothing = refl

character_there : (bytes : List ℕ) (len : ℕ) → 0 < len → character_len bytes ≡ len → BeginsWithCharacter bytes len
unfolding character_len sequence_len
character_there [] len some is = absurd (let none = none_in_nothing in omega (arith, none, is))
character_there (a ∷ bytes) len some is =
    len_there a bytes (sequence_of a) (a == 0xc2 && is_within 0x80 0x9f (slice_index (a ∷ bytes) 1)) len refl refl some is

-- ---- from characters to the table

within_is : (low high byte : ℕ) → low ≤ byte → byte ≤ high → is_within low high byte ≡ true
within_is low high byte least most = grind (arith, nat_tests)

control_off : (a b : ℕ) → (a ≡ 0xc2 → 0xa0 ≤ b) → (a == 0xc2 && is_within 0x80 0x9f b) ≡ false
control_off a b shown = elim (cases_eq a 0xc2) [
  | inl same ↦
      let high = shown same in
      let t2 : is_within 0x80 0x9f b ≡ false = grind (arith, nat_tests) in
      let t1 : (a == 0xc2) ≡ true = grind (arith, nat_tests) in
      rw (t1, t2) refl
  | inr other ↦ let t1 : (a == 0xc2) ≡ false = grind (arith, nat_tests) in rw t1 refl
]

two_again : (a b : ℕ) (rest : List ℕ) → sequence_of a ≡ row 2 0x80 0xbf → 0x80 ≤ b → b ≤ 0xbf → (a ≡ 0xc2 → 0xa0 ≤ b) → character_len (a ∷ b ∷ rest) ≡ 2
unfolding character_len sequence_len
two_again a b rest is least most shown =
    let held : nat_le 2 (length (a ∷ b ∷ rest)) ≡ true = grind (arith, nat_tests) in
    let second = within_is 0x80 0xbf b least most in
    rw (control_off a b shown, is, held, second) refl

three_again : (a b d low high : ℕ) (rest : List ℕ) → sequence_of a ≡ row 3 low high → low ≤ b → b ≤ high → 0x80 ≤ d → d ≤ 0xbf → 0xe0 ≤ a → character_len (a ∷ b ∷ d ∷ rest) ≡ 3
unfolding character_len sequence_len
three_again a b d low high rest is least most d_least d_most lead =
    let held : nat_le 3 (length (a ∷ b ∷ d ∷ rest)) ≡ true = grind (arith, nat_tests) in
    let second = within_is low high b least most in
    let third = within_is 0x80 0xbf d d_least d_most in
    rw (control_off a b (λ same. absurd (omega arith)), is, held, second, third) refl

four_again : (a b d e low high : ℕ) (rest : List ℕ) → sequence_of a ≡ row 4 low high → low ≤ b → b ≤ high → 0x80 ≤ d → d ≤ 0xbf → 0x80 ≤ e → e ≤ 0xbf → 0xe0 ≤ a
    → character_len (a ∷ b ∷ d ∷ e ∷ rest) ≡ 4
unfolding character_len sequence_len
four_again a b d e low high rest is least most d_least d_most e_least e_most lead =
    let held : nat_le 4 (length (a ∷ b ∷ d ∷ e ∷ rest)) ≡ true = grind (arith, nat_tests) in
    let second = within_is low high b least most in
    let third = within_is 0x80 0xbf d d_least d_most in
    let fourth = within_is 0x80 0xbf e e_least e_most in
    rw (control_off a b (λ same. absurd (omega arith)), is, held, second, third, fourth) refl

two_len : (c : ℕ) (rest : List ℕ) → 0xa0 ≤ c → c < 2048 → character_len (encode c ++ rest) ≡ length (encode c)
two_len c rest least below =
    rw (encode_two c (omega arith) below)
    (two_again (192 + c / 64) (128 + c % 64) rest (lead_two (192 + c / 64) (omega arith) (omega arith)) (omega arith) (omega arith) (λ same. omega arith))

three_len : (c : ℕ) (rest : List ℕ) → 2048 ≤ c → c < 65536 → (c < 0xd800) ⊎ (0xe000 ≤ c) → character_len (encode c ++ rest) ≡ length (encode c)
three_len c rest least below there =
    let a = 224 + c / 4096 in
    let b = 128 + c / 64 % 64 in
    let d = 128 + c % 64 in
    let made : character_len (a ∷ b ∷ d ∷ rest) ≡ 3 = elim (cases_lt c 0x1000) [
      | inl first ↦
          let is : a ≡ 0xe0 = omega arith in
          three_again a b d 0xa0 0xbf rest (ap sequence_of is ∙ lead_long_three) (omega arith) (omega arith) (omega arith) (omega arith) (omega arith)
      | inr past ↦ elim (cases_lt c 0xd000) [
        | inl low ↦ three_again a b d 0x80 0xbf rest (lead_low_three a (omega arith) (omega arith)) (omega arith) (omega arith) (omega arith) (omega arith) (omega arith)
        | inr high ↦ elim there [
          | inl whole ↦
              let is : a ≡ 0xed = omega arith in
              three_again a b d 0x80 0x9f rest (ap sequence_of is ∙ lead_whole_three) (omega arith) (omega arith) (omega arith) (omega arith) (omega arith)
          | inr last ↦ three_again a b d 0x80 0xbf rest (lead_high_three a (omega arith) (omega arith)) (omega arith) (omega arith) (omega arith) (omega arith) (omega arith)
        ]
      ]
    ] in
    rw (encode_three c least below) made

four_len : (c : ℕ) (rest : List ℕ) → 65536 ≤ c → c < 0x11_0000 → character_len (encode c ++ rest) ≡ length (encode c)
four_len c rest least below =
    let a = 240 + c / 262144 in
    let b = 128 + c / 4096 % 64 in
    let d = 128 + c / 64 % 64 in
    let e = 128 + c % 64 in
    let made : character_len (a ∷ b ∷ d ∷ e ∷ rest) ≡ 4 = elim (cases_lt c 0x4_0000) [
      | inl first ↦
          let is : a ≡ 0xf0 = omega arith in
          four_again a b d e 0x90 0xbf rest (ap sequence_of is ∙ lead_long_four) (omega arith) (omega arith) (omega arith) (omega arith) (omega arith) (omega arith) (omega arith)
      | inr past ↦ elim (cases_lt c 0x10_0000) [
        | inl low ↦ four_again a b d e 0x80 0xbf rest (lead_mid_four a (omega arith) (omega arith)) (omega arith) (omega arith) (omega arith) (omega arith) (omega arith) (omega arith) (omega arith)
        | inr high ↦
            let is : a ≡ 0xf4 = omega arith in
            four_again a b d e 0x80 0x8f rest (ap sequence_of is ∙ lead_last_four) (omega arith) (omega arith) (omega arith) (omega arith) (omega arith) (omega arith) (omega arith)
      ]
    ] in
    rw (encode_four c least) made

below_end : (c : ℕ) → (c < 0xd800) ⊎ ((0xe000 ≤ c) × (c < 0x11_0000)) → (c < 0x11_0000) × ((c < 0xd800) ⊎ (0xe000 ≤ c))
below_end c (inl low) = (omega arith, inl low)
below_end c (inr high) = (high.1, inr high.0)

len_again : (c : ℕ) (rest : List ℕ) → scalar c ≡ true → 0xa0 ≤ c → character_len (encode c ++ rest) ≡ length (encode c)
len_again c rest there least =
    let parts = below_end c (scalar_parts c there) in
    elim (cases_lt c 2048) [
      | inl two ↦ two_len c rest least two
      | inr more ↦ elim (cases_lt c 65536) [ inl three ↦ three_len c rest more three parts.1 | inr four ↦ four_len c rest four parts.0 ]
    ]

some_bytes : (c : ℕ) → 0xa0 ≤ c → 0 < length (encode c)
some_bytes c least = elim (cases_lt c 2048) [
  | inl two ↦ rw (encode_two c (omega arith) two) (omega arith)
  | inr more ↦ elim (cases_lt c 65536) [ inl three ↦ rw (encode_three c more three) (omega arith) | inr four ↦ rw (encode_four c four) (omega arith) ]
]

character_again : (bytes : List ℕ) (len : ℕ) → BeginsWithCharacter bytes len → (0 < len) × (character_len bytes ≡ len)
character_again bytes len b =
    let read = len_again b.character b.rest b.scalar b.least in
    (rw b.long (some_bytes b.character b.least), ap character_len b.parts ∙ read ∙ sym b.long)

pub characters_both : (bytes : List ℕ) (len : ℕ) → ((0 < len) × (character_len bytes ≡ len)) ↔ BeginsWithCharacter bytes len
characters_both bytes len = (λ is. character_there bytes len is.0 is.1, character_again bytes len)
