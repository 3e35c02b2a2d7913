-- How long spellings of a number are: none is shorter than the shortest, and one is as short.
use Rattle.std.proofs.Common.{◌≡◌, ◌⊎◌, inl, inr, ℕ, zero, suc, ◌+◌, ◌*◌, ◌/◌, ◌%◌, ◌^◌, ◌<◌, ◌≤◌, List, [], ◌∷◌, length, refl, sym, ap, subst, ◌∙◌, arith}
use Rattle.std.proofs.Math.Nat.{mul-le-mul_right, pow-suc, mul_assoc, mul_comm, div-add-mod', mod-lt}
use Rattle.std.proofs.lemmas.Bool.{cases_lt}
use Rattle.std.proofs.lemmas.Bool.Decides.{nat_tests}
use Rattle.sx_bytes.specs.Decoding.{IsBytes}
use Rattle.sx_bytes.specs.Varints.{IsRest, IsVarint, shortest}

-- fewer than nine bytes give seven bits each
small_from : (text : List ℕ) (read high value : ℕ) → IsRest read high text value → read + length text ≤ 8
    → value < (high + 1) * 128 ^ length text
small_from [] read high value is few = absurd is
small_from (b ∷ []) read high value (inl is) few = absurd (omega arith)
small_from (b ∷ []) read high value (inr is) few = omega (arith, is.1, is.2)
small_from (b ∷ c ∷ bs) read high value is few =
    let scale = 128 ^ length (c ∷ bs) in
    let tail = small_from (c ∷ bs) (read + 1) (high * 128 + b % 128) value is.2 (omega arith) in
    let low : b % 128 < 128 = mod-lt b (omega arith) in
    let room : (high * 128 + b % 128 + 1) * scale ≤ (high + 1) * 128 * scale = mul-le-mul_right scale (omega arith) in
    let same : (high + 1) * 128 * scale ≡ (high + 1) * 128 ^ length (b ∷ c ∷ bs)
    = mul_assoc (high + 1) 128 scale
    ∙ ap (λ wide. (high + 1) * wide) (mul_comm 128 scale ∙ sym (pow-suc 128 (length (c ∷ bs)))) in
    omega (arith, tail, room, same)

shortest_nine : (value : ℕ) → shortest value ≤ 9
unfolding shortest
shortest_nine value = grind (arith, nat_tests)

shortest_least : (value long : ℕ) → 0 < long → long ≤ 8 → value < 128 ^ long → shortest value ≤ long
unfolding shortest
shortest_least value zero some few small = absurd (omega arith)
shortest_least value (suc zero) some few small = grind (arith, nat_tests)
shortest_least value (suc (suc zero)) some few small = grind (arith, nat_tests)
shortest_least value (suc (suc (suc zero))) some few small = grind (arith, nat_tests)
shortest_least value (suc (suc (suc (suc zero)))) some few small = grind (arith, nat_tests)
shortest_least value (suc (suc (suc (suc (suc zero))))) some few small = grind (arith, nat_tests)
shortest_least value (suc (suc (suc (suc (suc (suc zero)))))) some few small = grind (arith, nat_tests)
shortest_least value (suc (suc (suc (suc (suc (suc (suc zero))))))) some few small = grind (arith, nat_tests)
shortest_least value (suc (suc (suc (suc (suc (suc (suc (suc zero)))))))) some few small = grind (arith, nat_tests)
shortest_least value (suc (suc (suc (suc (suc (suc (suc (suc (suc more))))))))) some few small = absurd (omega arith)

some_bytes : (text : List ℕ) (value : ℕ) → IsVarint text value → 0 < length text
some_bytes [] value is = absurd is
some_bytes (b ∷ bs) value is = omega arith

-- no spelling is shorter
pub none_shorter : (text : List ℕ) (value : ℕ) → IsVarint text value → shortest value ≤ length text
none_shorter text value is =
    elim (cases_lt 8 (length text)) [
      | inl long ↦ omega (arith, shortest_nine value)
      | inr few ↦ shortest_least value (length text) (some_bytes text value is) few
          (omega (arith, small_from text 0 0 value is (omega arith)))
    ]

-- so many bytes of a number that go on, in front of its last
abbrev front : ℕ → ℕ → List ℕ → List ℕ
front zero high tail = tail
front (suc more) high tail = front more (high / 128) ((128 + high % 128) ∷ tail)

length-front : (count high : ℕ) (tail : List ℕ) → length (front count high tail) ≡ count + length tail
length-front zero high tail = omega arith
length-front (suc more) high tail = omega (arith, length-front more (high / 128) ((128 + high % 128) ∷ tail))

-- they are bytes
front_bytes : (count high : ℕ) (tail : List ℕ) → IsBytes tail → IsBytes (front count high tail)
front_bytes zero high tail small = small
front_bytes (suc more) high tail small =
    let low : high % 128 < 128 = mod-lt high (omega arith) in
    front_bytes more (high / 128) ((128 + high % 128) ∷ tail) (omega arith, small)

front_rest : (read high value c : ℕ) (tail : List ℕ) → read < 8 → IsRest (read + 1) high (c ∷ tail) value
    → IsRest read (high / 128) ((128 + high % 128) ∷ c ∷ tail) value
front_rest read high value c tail few is =
    let same : high ≡ high / 128 * 128 + (128 + high % 128) % 128 = omega arith in
    (few, omega arith, subst (λ h. IsRest (read + 1) h (c ∷ tail) value) same is)

front_is : (count high value c : ℕ) (tail : List ℕ) → count ≤ 8 → high < 128 ^ count → IsRest count high (c ∷ tail) value
    → IsVarint (front count high (c ∷ tail)) value
front_is zero high value c tail few small is =
    let none : high ≡ 0 = omega arith in
    subst (λ h. IsRest 0 h (c ∷ tail) value) none is
front_is (suc more) high value c tail few small is =
    let one : suc more ≡ more + 1 = omega arith in
    let less : high / 128 < 128 ^ more = omega (arith, pow-suc 128 more) in
    front_is more (high / 128) value (128 + high % 128) (c ∷ tail) (omega arith) less
    (front_rest more high value c tail (omega arith) (subst (λ n. IsRest n high (c ∷ tail) value) one is))

-- a spelling that is as short as any
abbrev AsShort : ℕ → Type 0
AsShort value = (text : List ℕ) × IsBytes text × IsVarint text value × (length text ≡ shortest value)

of_seven : (value more : ℕ) → more < 8 → value < 128 ^ suc more → shortest value ≡ suc more → AsShort value
of_seven value more few small long =
    let less : value / 128 < 128 ^ more = omega (arith, pow-suc 128 more) in
    let ends : value % 128 < 128 = mod-lt value (omega arith) in
    let whole : value ≡ value / 128 * 128 + value % 128 = sym (div-add-mod' value 128) in
    let spelling = front_is more (value / 128) value (value % 128) [] (omega arith) less (inr (few, ends, whole)) in
    let many : length (front more (value / 128) (value % 128 ∷ [])) ≡ more + 1 = length-front more (value / 128) (value % 128 ∷ []) in
    (front more (value / 128) (value % 128 ∷ []), front_bytes more (value / 128) (value % 128 ∷ []) (omega arith, tt), spelling, omega (arith, many, long))

of_eight : (value : ℕ) → value < 2 ^ 64 → shortest value ≡ 9 → AsShort value
of_eight value small long =
    let less : value / 256 < 128 ^ 8 = omega arith in
    let whole : value ≡ value / 256 * 256 + value % 256 = sym (div-add-mod' value 256) in
    let spelling = front_is 8 (value / 256) value (value % 256) [] (omega arith) less (inl (refl, whole)) in
    let many : length (front 8 (value / 256) (value % 256 ∷ [])) ≡ 8 + 1 = length-front 8 (value / 256) (value % 256 ∷ []) in
    let last : value % 256 < 256 = mod-lt value (omega arith) in
    (front 8 (value / 256) (value % 256 ∷ []), front_bytes 8 (value / 256) (value % 256 ∷ []) (last, tt), spelling, omega (arith, many, long))

-- how long the shortest is, between two powers
shortest_is : (value more : ℕ) → more < 8 → (more ≡ 0) ⊎ (128 ^ more ≤ value) → value < 128 ^ suc more → shortest value ≡ suc more
unfolding shortest
shortest_is value zero few above below = grind (arith, nat_tests)
shortest_is value (suc zero) few above below = grind (arith, nat_tests)
shortest_is value (suc (suc zero)) few above below = grind (arith, nat_tests)
shortest_is value (suc (suc (suc zero))) few above below = grind (arith, nat_tests)
shortest_is value (suc (suc (suc (suc zero)))) few above below = grind (arith, nat_tests)
shortest_is value (suc (suc (suc (suc (suc zero))))) few above below = grind (arith, nat_tests)
shortest_is value (suc (suc (suc (suc (suc (suc zero)))))) few above below = grind (arith, nat_tests)
shortest_is value (suc (suc (suc (suc (suc (suc (suc zero))))))) few above below = grind (arith, nat_tests)
shortest_is value (suc (suc (suc (suc (suc (suc (suc (suc more)))))))) few above below = absurd (omega arith)

shortest_is_nine : (value : ℕ) → 128 ^ 8 ≤ value → shortest value ≡ 9
unfolding shortest
shortest_is_nine value above = grind (arith, nat_tests)

-- from the power that is known to be at most the number
as_short_from : (left more value : ℕ) → left + more ≡ 8 → (more ≡ 0) ⊎ (128 ^ more ≤ value) → value < 2 ^ 64 → AsShort value
as_short_from zero more value all (inl none) small = absurd (omega arith)
as_short_from zero more value all (inr above) small =
    let eight : more ≡ 8 = omega arith in
    of_eight value small (shortest_is_nine value (subst (λ n. 128 ^ n ≤ value) eight above))
as_short_from (suc left) more value all above small =
    elim (cases_lt value (128 ^ suc more)) [
      | inl below ↦ of_seven value more (omega arith) below (shortest_is value more (omega arith) above below)
      | inr further ↦ as_short_from left (suc more) value (omega arith) (inr further) small
    ]

-- one spelling is as short
pub one_as_short : (value : ℕ) → value < 2 ^ 64 → (text : List ℕ) × IsBytes text × IsVarint text value × (length text ≡ shortest value)
one_as_short value small = as_short_from 8 0 value refl (inl refl) small
