-- A number of two bytes.
use Rattle.std.proofs.Common.{slice_index, ◌≡◌, ℕ, ◌+◌, ◌-◌, ◌*◌, ◌%◌, ◌^◌, ◌<◌, ◌≤◌, ◌==◌, Bool, true, false, cond, nat_lt, List, [], ◌∷◌, length, Some, None, refl, ap, ◌∙◌, arith}
use Rattle.std.proofs.lemmas.Bool.Decides.{nat_tests}
use Rattle.sx_bytes.specs.Varints.{varint_at, shortest, short_at, only_shortest}
use Rattle.sx_grammar.specs.Shorts.{two_bytes}

two_read : (first second : ℕ) (bytes : List ℕ) → 128 ≤ first → first < 256 → second < 128
    → varint_at (first ∷ second ∷ bytes) ≡ Some ((first - 128) * 128 + second, 2)
unfolding varint_at
two_read first second bytes goes_on small ends =
    let on : nat_lt first 128 ≡ false = grind (arith, nat_tests) in
    let low : nat_lt second 128 ≡ true = grind (arith, nat_tests) in
    let high : 0 * 128 + first % 128 ≡ first - 128 = omega arith in
    rw (on, low, high) refl

two_by : (first second : ℕ) (one : Bool) → (first == 128) ≡ one → 128 ≤ first → first < 256 → second < 128
    → only_shortest (Some ((first - 128) * 128 + second, 2)) ≡ cond one None (Some ((first - 128) * 128 + second, 2))
unfolding shortest
two_by first second true is goes_on small ends =
    let same : first ≡ 128 = grind (arith, nat_tests) in
    let below : nat_lt ((first - 128) * 128 + second) (2 ^ 7) ≡ true = grind (arith, nat_tests) in
    rw below refl
two_by first second false is goes_on small ends =
    let more : 129 ≤ first = grind (arith, nat_tests) in
    let over : nat_lt ((first - 128) * 128 + second) (2 ^ 7) ≡ false = grind (arith, nat_tests) in
    let within : nat_lt ((first - 128) * 128 + second) (2 ^ 14) ≡ true = grind (arith, nat_tests) in
    rw (over, within) refl

pub two_at_front : (bytes : List ℕ) (first second : ℕ) → 1 < length bytes → slice_index bytes 0 ≡ first → slice_index bytes 1 ≡ second
    → 128 ≤ first → first < 256 → second < 128 → short_at bytes ≡ two_bytes first second
unfolding short_at
two_at_front [] first second some one two goes_on small ends = absurd (omega arith)
two_at_front (byte ∷ []) first second some one two goes_on small ends = absurd (omega arith)
two_at_front (byte ∷ next ∷ bytes) first second some one two goes_on small ends =
    rw (← one, ← two) (ap only_shortest (two_read byte next bytes (omega (arith, one)) (omega (arith, one)) (omega (arith, two)))
    ∙ two_by byte next (byte == 128) refl (omega (arith, one)) (omega (arith, one)) (omega (arith, two)))
