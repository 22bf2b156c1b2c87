-- Which properties the bits of a word say.
use Rattle.std.proofs.Common.{◌≡◌, ℕ, ◌*◌, ◌^◌, ◌%◌, ◌<◌, Bool, true, false, refl, ap, inl, inr, arith, w32, eq-eqb}
use Rattle.std.specs.Prelude.{◌==◌, ◌||◌, bit_or}
use Rattle.std.specs.Int.{bit_at}
use Rattle.std.proofs.lemmas.Bool.{cases_Bool, eqb-true}
use Rattle.std.proofs.lemmas.Nat.Bits.{bit_at-zero, bit_at_set_same, bit_at_set_other}
use Rattle.cal_object.specs.declared.property.Property.{Property}
use Rattle.cal_object.specs.declared.property.Property.TheVariants.{Start}
use Rattle.cal_object.specs.declared.seen_names.SeenNames.{SeenNames}
use Rattle.cal_object.specs.Properties.{number_of}
use Rattle.cal_object.specs.Seen.{none_seen, has_seen, seen_with}

small : (property : Property) → number_of property < 32
small Start = omega arith
small other = omega arith

pub seen_none : (property : Property) → has_seen none_seen property ≡ false
unfolding has_seen
seen_none property = ap (λ bit. bit == 1) (bit_at-zero (number_of property))

bits_with : (seen n i : ℕ) → n < 32 → (bit_at (bit_or seen (1 * 2 ^ n % 4294967296)) i == 1) ≡ ((bit_at seen i == 1) || (i == n))
bits_with seen n i small_n = elim (cases_Bool (i == n)) [
  | inl same ↦
      let e : i ≡ n = eqb-true i n same in
      let there : bit_at (bit_or seen (1 * 2 ^ n % 4294967296)) i ≡ 1 = rw e (bit_at_set_same w32 seen n small_n) in
      rw (same, there) (either (bit_at seen i == 1))
  | inr other ↦
      let there : bit_at (bit_or seen (1 * 2 ^ n % 4294967296)) i ≡ bit_at seen i = bit_at_set_other w32 seen n small_n i (λ e. let bad : (i == n) ≡ true = eq-eqb i n e in absurd cc) in
      rw (other, there) (alone (bit_at seen i == 1))
]
  where
    either : (b : Bool) → true ≡ (b || true)
    either true = refl
    either false = refl

    alone : (b : Bool) → b ≡ (b || false)
    alone true = refl
    alone false = refl

pub seen_more : (seen : SeenNames) (come property : Property) → has_seen (seen_with seen come) property ≡ (has_seen seen property || (number_of property == number_of come))
unfolding has_seen seen_with
seen_more seen come property = bits_with seen.0 (number_of come) (number_of property) (small come)
