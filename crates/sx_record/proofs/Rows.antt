-- The rows of the table of well-formed sequences, by the length that they give.
use Rattle.std.proofs.Common.{◌≡◌, ◌⊎◌, inl, inr, ℕ, ◌≤◌, ◌==◌, Bool, true, false, if◌then◌else◌, Option, Some, None, refl, ap, subst, arith}
use Rattle.std.proofs.lemmas.Bool.Decides.{nat_tests}
use Rattle.sx_record.specs.Utf8.{is_within, sequence_of}
use Rattle.sx_record.specs.declared.utf8.Sequence.{Sequence}

abbrev pub row : ℕ → ℕ → ℕ → Option Sequence
row len low high = Some (record { len = len; low = low; high = high })

-- two bytes
pub record IsTwo (first : ℕ) (sequence : Sequence) : Type 0 where
  pub least : 0xc2 ≤ first
  pub most : first ≤ 0xdf
  pub len : sequence.len ≡ 2
  pub low : 0x80 ≤ sequence.low
  pub high : sequence.high ≤ 0xbf

-- three bytes, neither overlong nor a surrogate
pub record IsThree (first : ℕ) (sequence : Sequence) : Type 0 where
  pub least : 0xe0 ≤ first
  pub most : first ≤ 0xef
  pub len : sequence.len ≡ 3
  pub low : 0x80 ≤ sequence.low
  pub high : sequence.high ≤ 0xbf
  pub long : first ≡ 0xe0 → 0xa0 ≤ sequence.low
  pub whole : first ≡ 0xed → sequence.high ≤ 0x9f

-- four bytes, neither overlong nor past the last character
pub record IsFour (first : ℕ) (sequence : Sequence) : Type 0 where
  pub least : 0xf0 ≤ first
  pub most : first ≤ 0xf4
  pub len : sequence.len ≡ 4
  pub low : 0x80 ≤ sequence.low
  pub high : sequence.high ≤ 0xbf
  pub long : first ≡ 0xf0 → 0x90 ≤ sequence.low
  pub last : first ≡ 0xf4 → sequence.high ≤ 0x8f

abbrev pub IsRow : ℕ → Sequence → Type 0
IsRow first sequence = IsTwo first sequence ⊎ (IsThree first sequence ⊎ IsFour first sequence)

abbrev the_row : Sequence → Option Sequence → Sequence
the_row other None = other
the_row other (Some sequence) = sequence

row_is : (first len low high : ℕ) (sequence : Sequence) → row len low high ≡ Some sequence → IsRow first (record { len = len; low = low; high = high }) → IsRow first sequence
row_is first len low high sequence is made = subst (IsRow first) (ap (the_row sequence) is) made

two_row : (first : ℕ) → 0xc2 ≤ first → first ≤ 0xdf → IsRow first (record { len = 2; low = 0x80; high = 0xbf })
two_row first least most = inl (record { least = least; most = most; len = refl; low = omega arith; high = omega arith })

three_row : (first low high : ℕ) → 0xe0 ≤ first → first ≤ 0xef → 0x80 ≤ low → high ≤ 0xbf → (first ≡ 0xe0 → 0xa0 ≤ low) → (first ≡ 0xed → high ≤ 0x9f)
    → IsRow first (record { len = 3; low = low; high = high })
three_row first low high least most from below long whole =
    inr (inl (record { least = least; most = most; len = refl; low = from; high = below; long = long; whole = whole }))

four_row : (first low high : ℕ) → 0xf0 ≤ first → first ≤ 0xf4 → 0x80 ≤ low → high ≤ 0xbf → (first ≡ 0xf0 → 0x90 ≤ low) → (first ≡ 0xf4 → high ≤ 0x8f)
    → IsRow first (record { len = 4; low = low; high = high })
four_row first low high least most from below long last =
    inr (inr (record { least = least; most = most; len = refl; low = from; high = below; long = long; last = last }))

abbrev rows : Bool → Bool → Bool → Bool → Bool → Bool → Bool → Bool → Option Sequence
rows t1 t2 t3 t4 t5 t6 t7 t8 =
    if t1 then row 2 0x80 0xbf
    else (if t2 then row 3 0xa0 0xbf
    else (if t3 then row 3 0x80 0xbf
    else (if t4 then row 3 0x80 0x9f
    else (if t5 then row 3 0x80 0xbf
    else (if t6 then row 4 0x90 0xbf
    else (if t7 then row 4 0x80 0xbf
    else (if t8 then row 4 0x80 0x8f
    else None)))))))

rows_by : (first : ℕ) (t1 t2 t3 t4 t5 t6 t7 t8 : Bool) → is_within 0xc2 0xdf first ≡ t1
    → (first == 0xe0) ≡ t2
    → is_within 0xe1 0xec first ≡ t3
    → (first == 0xed) ≡ t4
    → is_within 0xee 0xef first ≡ t5
    → (first == 0xf0) ≡ t6
    → is_within 0xf1 0xf3 first ≡ t7
    → (first == 0xf4) ≡ t8
    → (sequence : Sequence) → rows t1 t2 t3 t4 t5 t6 t7 t8 ≡ Some sequence → IsRow first sequence
rows_by first true t2 t3 t4 t5 t6 t7 t8 e1 e2 e3 e4 e5 e6 e7 e8 sequence is =
    let least : 0xc2 ≤ first = grind (arith, nat_tests) in
    let most : first ≤ 0xdf = grind (arith, nat_tests) in
    row_is first 2 0x80 0xbf sequence is (two_row first least most)
rows_by first false true t3 t4 t5 t6 t7 t8 e1 e2 e3 e4 e5 e6 e7 e8 sequence is =
    let least : 0xe0 ≤ first = grind (arith, nat_tests) in
    let most : first ≤ 0xe0 = grind (arith, nat_tests) in
    row_is first 3 0xa0 0xbf sequence is (three_row first 0xa0 0xbf (omega arith) (omega arith) (omega arith) (omega arith) (λ same. omega arith) (λ same. omega arith))
rows_by first false false true t4 t5 t6 t7 t8 e1 e2 e3 e4 e5 e6 e7 e8 sequence is =
    let least : 0xe1 ≤ first = grind (arith, nat_tests) in
    let most : first ≤ 0xec = grind (arith, nat_tests) in
    row_is first 3 0x80 0xbf sequence is (three_row first 0x80 0xbf (omega arith) (omega arith) (omega arith) (omega arith) (λ same. omega arith) (λ same. omega arith))
rows_by first false false false true t5 t6 t7 t8 e1 e2 e3 e4 e5 e6 e7 e8 sequence is =
    let least : 0xed ≤ first = grind (arith, nat_tests) in
    let most : first ≤ 0xed = grind (arith, nat_tests) in
    row_is first 3 0x80 0x9f sequence is (three_row first 0x80 0x9f (omega arith) (omega arith) (omega arith) (omega arith) (λ same. omega arith) (λ same. omega arith))
rows_by first false false false false true t6 t7 t8 e1 e2 e3 e4 e5 e6 e7 e8 sequence is =
    let least : 0xee ≤ first = grind (arith, nat_tests) in
    let most : first ≤ 0xef = grind (arith, nat_tests) in
    row_is first 3 0x80 0xbf sequence is (three_row first 0x80 0xbf (omega arith) (omega arith) (omega arith) (omega arith) (λ same. omega arith) (λ same. omega arith))
rows_by first false false false false false true t7 t8 e1 e2 e3 e4 e5 e6 e7 e8 sequence is =
    let least : 0xf0 ≤ first = grind (arith, nat_tests) in
    let most : first ≤ 0xf0 = grind (arith, nat_tests) in
    row_is first 4 0x90 0xbf sequence is (four_row first 0x90 0xbf (omega arith) (omega arith) (omega arith) (omega arith) (λ same. omega arith) (λ same. omega arith))
rows_by first false false false false false false true t8 e1 e2 e3 e4 e5 e6 e7 e8 sequence is =
    let least : 0xf1 ≤ first = grind (arith, nat_tests) in
    let most : first ≤ 0xf3 = grind (arith, nat_tests) in
    row_is first 4 0x80 0xbf sequence is (four_row first 0x80 0xbf (omega arith) (omega arith) (omega arith) (omega arith) (λ same. omega arith) (λ same. omega arith))
rows_by first false false false false false false false true e1 e2 e3 e4 e5 e6 e7 e8 sequence is =
    let least : 0xf4 ≤ first = grind (arith, nat_tests) in
    let most : first ≤ 0xf4 = grind (arith, nat_tests) in
    row_is first 4 0x80 0x8f sequence is (four_row first 0x80 0x8f (omega arith) (omega arith) (omega arith) (omega arith) (λ same. omega arith) (λ same. omega arith))
rows_by first false false false false false false false false e1 e2 e3 e4 e5 e6 e7 e8 sequence is = absurd (cc)

-- the row of a first byte
pub row_of : (first : ℕ) (sequence : Sequence) → sequence_of first ≡ Some sequence → IsRow first sequence
unfolding sequence_of
row_of first sequence is =
    rows_by first (is_within 0xc2 0xdf first) (first == 0xe0) (is_within 0xe1 0xec first) (first == 0xed) (is_within 0xee 0xef first) (first == 0xf0) (is_within 0xf1 0xf3 first) (first == 0xf4) refl refl refl refl refl refl refl refl sequence is

-- ---- the first bytes of each row

pub lead_two : (first : ℕ) → 0xc2 ≤ first → first ≤ 0xdf → sequence_of first ≡ row 2 0x80 0xbf
unfolding sequence_of
lead_two first least most =
    let e1 : is_within 0xc2 0xdf first ≡ true = grind (arith, nat_tests) in
    rw e1 refl

pub lead_long_three : sequence_of 0xe0 ≡ row 3 0xa0 0xbf
unfolding sequence_of
lead_long_three = refl

pub lead_low_three : (first : ℕ) → 0xe1 ≤ first → first ≤ 0xec → sequence_of first ≡ row 3 0x80 0xbf
unfolding sequence_of
lead_low_three first least most =
    let e1 : is_within 0xc2 0xdf first ≡ false = grind (arith, nat_tests) in
    let e2 : (first == 0xe0) ≡ false = grind (arith, nat_tests) in
    let e3 : is_within 0xe1 0xec first ≡ true = grind (arith, nat_tests) in
    rw (e1, e2, e3) refl

pub lead_whole_three : sequence_of 0xed ≡ row 3 0x80 0x9f
unfolding sequence_of
lead_whole_three = refl

pub lead_high_three : (first : ℕ) → 0xee ≤ first → first ≤ 0xef → sequence_of first ≡ row 3 0x80 0xbf
unfolding sequence_of
lead_high_three first least most =
    let e1 : is_within 0xc2 0xdf first ≡ false = grind (arith, nat_tests) in
    let e2 : (first == 0xe0) ≡ false = grind (arith, nat_tests) in
    let e3 : is_within 0xe1 0xec first ≡ false = grind (arith, nat_tests) in
    let e4 : (first == 0xed) ≡ false = grind (arith, nat_tests) in
    let e5 : is_within 0xee 0xef first ≡ true = grind (arith, nat_tests) in
    rw (e1, e2, e3, e4, e5) refl

pub lead_long_four : sequence_of 0xf0 ≡ row 4 0x90 0xbf
unfolding sequence_of
lead_long_four = refl

pub lead_mid_four : (first : ℕ) → 0xf1 ≤ first → first ≤ 0xf3 → sequence_of first ≡ row 4 0x80 0xbf
unfolding sequence_of
lead_mid_four first least most =
    let e1 : is_within 0xc2 0xdf first ≡ false = grind (arith, nat_tests) in
    let e2 : (first == 0xe0) ≡ false = grind (arith, nat_tests) in
    let e3 : is_within 0xe1 0xec first ≡ false = grind (arith, nat_tests) in
    let e4 : (first == 0xed) ≡ false = grind (arith, nat_tests) in
    let e5 : is_within 0xee 0xef first ≡ false = grind (arith, nat_tests) in
    let e6 : (first == 0xf0) ≡ false = grind (arith, nat_tests) in
    let e7 : is_within 0xf1 0xf3 first ≡ true = grind (arith, nat_tests) in
    rw (e1, e2, e3, e4, e5, e6, e7) refl

pub lead_last_four : sequence_of 0xf4 ≡ row 4 0x80 0x8f
unfolding sequence_of
lead_last_four = refl
