-- How the checksum goes from pair to pair, and from piece to piece.
use Rattle.std.proofs.Common.{◌≡◌, ℕ, zero, suc, ◌+◌, ◌-◌, ◌*◌, ◌/◌, ◌%◌, ◌^◌, ◌<◌, ◌≤◌, Bool, true, false, List, [], ◌∷◌, ◌++◌, length, drop, get_or, refl, sym, ap, ◌∙◌, arith, length-append, length-drop}
use Rattle.std.proofs.Math.Nat.{mod-add-mod}
use Rattle.std.proofs.lemmas.List.{get_or-drop, drop-drop, get_or_append_left, drop-append-le}
use Rattle.sx_wal.specs.Checksum.{Sums, summed, ordered_word_at, pair_summed, sums_over, sums_of}

-- a byte behind a dropped front
byte_behind : (bytes : List ℕ) (at i place : ℕ) → at + i ≡ place → get_or (drop at bytes) i 0 ≡ get_or bytes place 0
byte_behind bytes at i place e = get_or-drop at bytes i 0 ∙ ap (λ (k : ℕ). get_or bytes k 0) e

-- a word behind a dropped front
pub word_behind : (big : Bool) (bytes : List ℕ) (at i place : ℕ) → at + i ≡ place → ordered_word_at big (drop at bytes) i ≡ ordered_word_at big bytes place
word_behind true bytes at i place e =
    rw (byte_behind bytes at i place e, byte_behind bytes at (i + 1) (place + 1) (omega arith), byte_behind bytes at (i + 2) (place + 2) (omega arith), byte_behind bytes at (i + 3) (place + 3) (omega arith)) refl
word_behind false bytes at i place e =
    rw (byte_behind bytes at i place e, byte_behind bytes at (i + 1) (place + 1) (omega arith), byte_behind bytes at (i + 2) (place + 2) (omega arith), byte_behind bytes at (i + 3) (place + 3) (omega arith)) refl

-- a word of the front of two pieces
word_before : (big : Bool) (front back : List ℕ) (at : ℕ) → at + 4 ≤ length front → ordered_word_at big (front ++ back) at ≡ ordered_word_at big front at
word_before true front back at h =
    rw (get_or_append_left front back 0 at (omega arith), get_or_append_left front back 0 (at + 1) (omega arith), get_or_append_left front back 0 (at + 2) (omega arith), get_or_append_left front back 0 (at + 3) (omega arith)) refl
word_before false front back at h =
    rw (get_or_append_left front back 0 at (omega arith), get_or_append_left front back 0 (at + 1) (omega arith), get_or_append_left front back 0 (at + 2) (omega arith), get_or_append_left front back 0 (at + 3) (omega arith)) refl

-- one pair of those that are left
pub sums_more : (big : Bool) (bytes : List ℕ) (sums : Sums) (pairs pair : ℕ) → pair < pairs
    → sums_over big (pairs - pair) sums (drop (8 * pair) bytes)
    ≡ sums_over big (pairs - (pair + 1)) (summed sums (ordered_word_at big bytes (8 * pair)) (ordered_word_at big bytes (8 * pair + 4))) (drop (8 * (pair + 1)) bytes)
sums_more big bytes sums pairs pair below =
    let left : pairs - pair ≡ suc (pairs - (pair + 1)) = omega arith in
    let x = word_behind big bytes (8 * pair) 0 (8 * pair) (omega arith) in
    let y = word_behind big bytes (8 * pair) 4 (8 * pair + 4) refl in
    let next : 8 * pair + 8 ≡ 8 * (pair + 1) = omega arith in
    ap (λ (n : ℕ). sums_over big n sums (drop (8 * pair) bytes)) left
    ∙ ap (λ (w : ℕ). sums_over big (pairs - (pair + 1)) (summed sums w (ordered_word_at big (drop (8 * pair) bytes) 4)) (drop 8 (drop (8 * pair) bytes))) x
    ∙ ap (λ (w : ℕ). sums_over big (pairs - (pair + 1)) (summed sums (ordered_word_at big bytes (8 * pair)) w) (drop 8 (drop (8 * pair) bytes))) y
    ∙ ap (λ (rest : List ℕ). sums_over big (pairs - (pair + 1)) (summed sums (ordered_word_at big bytes (8 * pair)) (ordered_word_at big bytes (8 * pair + 4))) rest) (drop-drop 8 (8 * pair) bytes ∙ ap (λ (k : ℕ). drop k bytes) next)

-- two wrapping sums are one
wrapped : (first x second y : ℕ)
    → (((first + x) % 2 ^ 32 + second) % 2 ^ 32, ((second + y) % 2 ^ 32 + ((first + x) % 2 ^ 32 + second) % 2 ^ 32) % 2 ^ 32) ≡ summed (first, second) x y
wrapped first x second y =
    let one : ((first + x) % 2 ^ 32 + second) % 2 ^ 32 ≡ (first + x + second) % 2 ^ 32 = mod-add-mod (first + x) (2 ^ 32) second in
    let two : ((second + y) % 2 ^ 32 + (first + x + second) % 2 ^ 32) % 2 ^ 32 ≡ (second + y + (first + x + second) % 2 ^ 32) % 2 ^ 32 =
    mod-add-mod (second + y) (2 ^ 32) ((first + x + second) % 2 ^ 32) in
    ap (λ (f : ℕ). (f, ((second + y) % 2 ^ 32 + f) % 2 ^ 32)) one ∙ ap (λ (s : ℕ). ((first + x + second) % 2 ^ 32, s)) two

-- the loop's step
pub loop_more : (big : Bool) (bytes : List ℕ) (first second : ℕ) (pairs pair x y : ℕ) (total : Sums) → pair < pairs
    → x ≡ ordered_word_at big bytes (8 * pair) → y ≡ ordered_word_at big bytes (8 * pair + 4)
    → sums_over big (pairs - pair) (first, second) (drop (8 * pair) bytes) ≡ total
    → sums_over big (pairs - (pair + 1)) (((first + x) % 2 ^ 32 + second) % 2 ^ 32, ((second + y) % 2 ^ 32 + ((first + x) % 2 ^ 32 + second) % 2 ^ 32) % 2 ^ 32) (drop (8 * (pair + 1)) bytes) ≡ total
loop_more big bytes first second pairs pair x y total below is_x is_y so_far =
    ap (λ (s : Sums). sums_over big (pairs - (pair + 1)) s (drop (8 * (pair + 1)) bytes)) (wrapped first x second y)
    ∙ ap (λ (w : ℕ). sums_over big (pairs - (pair + 1)) (summed (first, second) w y) (drop (8 * (pair + 1)) bytes)) is_x
    ∙ ap (λ (w : ℕ). sums_over big (pairs - (pair + 1)) (summed (first, second) (ordered_word_at big bytes (8 * pair)) w) (drop (8 * (pair + 1)) bytes)) is_y
    ∙ sym (sums_more big bytes (first, second) pairs pair below)
    ∙ so_far

-- the pairs of the front come first
over_both : (big : Bool) (front_pairs back_pairs : ℕ) (sums : Sums) (front back : List ℕ) → length front ≡ 8 * front_pairs
    → sums_over big (front_pairs + back_pairs) sums (front ++ back) ≡ sums_over big back_pairs (sums_over big front_pairs sums front) back
over_both big zero back_pairs sums [] back e =
    let none : zero + back_pairs ≡ back_pairs = omega arith in ap (λ (n : ℕ). sums_over big n sums back) none
over_both big zero back_pairs sums (byte ∷ front) back e = absurd (omega arith)
over_both big (suc pairs) back_pairs sums front back e =
    let split : suc pairs + back_pairs ≡ suc (pairs + back_pairs) = omega arith in
    let x = word_before big front back 0 (omega arith) in
    let y = word_before big front back 4 (omega arith) in
    let rest = drop-append-le 8 front back (omega arith) in
    let again = over_both big pairs back_pairs (pair_summed big sums front) (drop 8 front) back (omega (arith, length-drop 8 front)) in
    ap (λ (n : ℕ). sums_over big n sums (front ++ back)) split
    ∙ ap (λ (w : ℕ). sums_over big (pairs + back_pairs) (summed sums w (ordered_word_at big (front ++ back) 4)) (drop 8 (front ++ back))) x
    ∙ ap (λ (w : ℕ). sums_over big (pairs + back_pairs) (summed sums (ordered_word_at big front 0) w) (drop 8 (front ++ back))) y
    ∙ ap (λ (left : List ℕ). sums_over big (pairs + back_pairs) (pair_summed big sums front) left) rest
    ∙ again

-- the checksum of two pieces, the first of whole pairs
pub sums-append : (big : Bool) (sums : Sums) (front back : List ℕ) → length front % 8 ≡ 0 → sums_of big sums (front ++ back) ≡ sums_of big (sums_of big sums front) back
unfolding sums_of
sums-append big sums front back whole =
    let pairs : length (front ++ back) / 8 ≡ length front / 8 + length back / 8 = omega (arith, length-append front back) in
    ap (λ (n : ℕ). sums_over big n sums (front ++ back)) pairs
    ∙ over_both big (length front / 8) (length back / 8) sums front back (omega arith)
