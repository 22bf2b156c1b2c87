-- Numbers in digits, read digit by digit.
use Rattle.std.proofs.Common.{◌≡◌, ℕ, zero, suc, ◌+◌, ◌-◌, ◌*◌, ◌^◌, ◌<◌, ◌≤◌, List, map, add-one, add-zero, Option, arith}
use Rattle.std.specs.Prelude.{option_map}
use Rattle.std.specs.List.{fold}
use Rattle.std.proofs.Math.Nat.{pow-suc, mul-le-mul_left, mul-le-mul_right}
use Rattle.cal_base.specs.Lines.ContentLines.{every}
use Rattle.cal_base.specs.Xml.XmlMarkup.{digit_value}

-- the number that some digits make behind one
abbrev pub number_behind : ℕ → ℕ → List ℕ → Option ℕ
number_behind base before digits = option_map (fold (λ number digit. number * base + digit) before) (every (map (digit_value base) digits))

-- so many digits make a number below the power
pub digit_fits : (base n digit i : ℕ) → n < base ^ i → digit < base → n * base + digit < base ^ (i + 1)
digit_fits base n digit i small below =
    let more : (n + 1) * base ≤ base ^ i * base = mul-le-mul_right base (omega (arith, small)) in
    let split : (n + 1) * base ≡ n * base + base = Prim.grind arith in
    let next : base ^ (i + 1) ≡ base ^ i * base = rw add-one (pow-suc base i) in
    omega (arith, more, split, next, below)

pub pow_more : (base i n : ℕ) → 1 ≤ base → base ^ i ≤ base ^ (i + n)
pow_more base i zero some = rw add-zero (omega arith)
pow_more base i (suc n) some =
    let before = pow_more base i n some in
    let sum : i + suc n ≡ suc (i + n) = omega arith in
    let next : base ^ (i + suc n) ≡ base ^ (i + n) * base = rw sum (pow-suc base (i + n)) in
    let one : base ^ (i + n) * 1 ≤ base ^ (i + n) * base = mul-le-mul_left (base ^ (i + n)) some in
    omega (arith, before, next, one)

pub pow_most : (base i most : ℕ) → 1 ≤ base → i ≤ most → base ^ i ≤ base ^ most
pow_most base i most some le =
    let sum : i + (most - i) ≡ most = omega (arith, le) in
    rw sum at (pow_more base i (most - i) some)

pub fits_room : (base n digit i most : ℕ) → 10 ≤ base → base ^ most ≤ 2 ^ 64 → i < most → n < base ^ i → digit < base → n * base + digit < 2 ^ 64
fits_room base n digit i most ten room within small below =
    omega (arith, digit_fits base n digit i small below, pow_most base (i + 1) most (omega (arith, ten)) (omega (arith, within)), room)
