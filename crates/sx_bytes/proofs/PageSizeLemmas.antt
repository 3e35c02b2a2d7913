-- What follows from being a page size.
use Rattle.std.proofs.Common.{◌≡◌, ℕ, ◌+◌, ◌*◌, ◌/◌, ◌%◌, ◌^◌, ◌<◌, ◌≤◌, inl, inr, sym, ap, ◌∙◌, arith}
use Rattle.std.proofs.Math.Nat.{div-add-mod', mod-lt}
use Rattle.std.proofs.lemmas.Nat.{ones_cat, zero_from_ones}
use Rattle.std.proofs.lemmas.Bool.{cases_eq, eqb-true}
use Rattle.std.specs.Int.RustNames.{count_ones}
use Rattle.sx_bytes.specs.PageSize.{IsPageSize}

-- a number of 2^k or more with one bit set has it among its high bits
low_bits : (k n : ℕ) → count_ones n ≡ 1 → 2 ^ k ≤ n → 0 < 2 ^ k → n % 2 ^ k ≡ 0
low_bits k n one above some =
    let low = mod-lt n some in
    let whole = div-add-mod' n (2 ^ k) in
    let split : count_ones n ≡ count_ones (n / 2 ^ k) + count_ones (n % 2 ^ k) =
    ap count_ones (sym whole) ∙ ones_cat k (n / 2 ^ k) (n % 2 ^ k) low in
    elim (cases_eq (count_ones (n / 2 ^ k)) 0) [
      | inl none ↦
          let zero : n / 2 ^ k * 2 ^ k ≡ 0 * 2 ^ k = ap (λ (q : ℕ). q * 2 ^ k) (zero_from_ones (n / 2 ^ k) none) in
          absurd (omega arith)
      | inr high ↦ zero_from_ones (n % 2 ^ k) (omega arith)
    ]

-- a page size is a multiple of 512
pub size_mod_512 : (size : ℕ) → IsPageSize size → size % 512 ≡ 0
size_mod_512 size h = low_bits 9 size (eqb-true (count_ones size) 1 h.power) h.least (omega arith)
