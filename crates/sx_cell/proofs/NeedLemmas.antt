-- How many overflow pages are needed.
use Rattle.std.proofs.Common.{ℕ, ◌*◌, ◌/◌, ◌%◌, ◌<◌, ◌≤◌, arith}
use Rattle.std.specs.Int.{div_ceil}
use Rattle.std.proofs.Math.Nat.{mul-le-mul_left}

-- no more pages are needed than bytes
pub few_pages : (left room : ℕ) → 0 < room → div_ceil left room ≤ left
few_pages left room some =
    let one : 1 ≤ room = omega arith in
    let parts : (left / room) * 1 ≤ (left / room) * room = mul-le-mul_left (left / room) one in
    grind arith
