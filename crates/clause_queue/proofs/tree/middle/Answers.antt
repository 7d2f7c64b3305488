use Rattle.std.proofs.Common.{◌≡◌, ℕ, ◌+◌, ◌-◌, ◌*◌, ◌/◌, ◌^◌, ◌<◌, bit_or, sym, arith}
use Rattle.std.specs.Int.Bits.{or_step, or_zero_r}
use Rattle.std.proofs.Math.Nat.{mod-eq_of_lt, div-lt_iff_lt-mul, mul-lt-mul_of_pos_left, mul_comm}
use Rattle.std.proofs.lemmas.Nat.{pow-add, pow_pos}
use Rattle.clause_queue.proofs.tree.middle.Goals as goal

-- `m | 1` is the odd number of m's pair
or_one : (m : ℕ) → bit_or m 1 ≡ m / 2 * 2 + 1
or_one m = rw (or_step m 1, or_zero_r (m / 2)) (omega arith)

-- at a multiple of p, the odd number of a pair is below an even bound
odd_below : (n q p : ℕ) → 0 < p → n < q * 2 * p → (n / p / 2 * 2 + 1) * p < q * 2 * p
odd_below n q p positive below =
    let whole : n / p < q * 2 = (div-lt_iff_lt-mul positive).1 below in
    let odd : n / p / 2 * 2 + 1 < q * 2 = omega (arith, whole) in
    rw (mul_comm (n / p / 2 * 2 + 1) p, mul_comm (q * 2) p) (mul-lt-mul_of_pos_left odd positive)

-- the 32 bits above and below a level
bits : (level : ℕ) → level < 32 → 2 ^ (31 - level) * 2 * 2 ^ level ≡ 4294967296
bits level below =
    let above = pow-add 2 (31 - level) 1 in
    let sum : 31 - level + 1 + level ≡ 32 = omega arith in
    sym (rw (sum, above) at (pow-add 2 (31 - level + 1) level))

pub returns : goal.returns
returns c =
    let whole = bits c.args.level c.requires in
    let below = odd_below c.args.number (2 ^ (31 - c.args.level)) (2 ^ c.args.level) (pow_pos c.args.level) (rw whole c.ranges.number.fits) in
    rw or_one (mod-eq_of_lt (rw whole at below))
