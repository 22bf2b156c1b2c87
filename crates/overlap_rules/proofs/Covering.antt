-- How many gaps cover a distance, and which of the moments that rise by a gap then lies first behind it.
use Rattle.std.proofs.Common.{ℕ, ◌+◌, ◌-◌, ◌*◌, ◌/◌, ◌<◌, ◌≤◌, nat_lt, arith, inl, inr, ℤ, pos, ◌+ℤ◌, ◌<ℤ◌}
use Rattle.std.proofs.lemmas.Bool.{cases_Bool, ltb-true, ltb-false}
use Rattle.std.proofs.lemmas.Int.{ints}
use Rattle.std.proofs.Math.Nat.{mul-le-mul_right}
use Rattle.overlap_rules.specs.Repeats.{IsRepeatIn}

-- fewer gaps than cover it stay below it
pub less_is_covered : (distance gap k : ℕ) → 0 < distance → 0 < gap → k < (distance - 1) / gap + 1 → k * gap < distance
less_is_covered distance gap k some rises less =
    let grows : k * gap ≤ (distance - 1) / gap * gap = mul-le-mul_right gap (omega arith) in
    omega arith

-- where all moments before one of them lie below the range, and some lies in it, that one lies before the range's end
pub first_before_end : (first low high : ℤ) (gap number k : ℕ) → ((j : ℕ) → j < number → (first +ℤ pos (j * gap)) <ℤ low) →
    IsRepeatIn first gap low high k → (first +ℤ pos (number * gap)) <ℤ high
first_before_end first low high gap number k below inside =
    elim (cases_Bool (nat_lt k number)) [
      | inl before ↦ (let under = below k (ltb-true _ _ before) in let from = inside.from_low in absurd (omega (arith, ints)))
      | inr from ↦ (
          let least : number ≤ k = ltb-false _ _ from in
          let grows : number * gap ≤ k * gap = mul-le-mul_right gap least in
          let end = inside.before_high in
          omega (arith, ints))
    ]
