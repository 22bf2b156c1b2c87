-- The first moment from one on, from which moments that rise by a gap come to lie in a range, and what it says of a test.
use Rattle.std.proofs.Common.{◌≡◌, ℕ, ◌*◌, ◌<◌, ◌≤◌, nat_lt, Bool, true, false, IsTrue, refl, sym, subst, arith, inl, inr, mul-zero, ℤ, pos, ◌+ℤ◌, ◌-ℤ◌, ◌≤ℤ◌, ◌<ℤ◌}
use Rattle.std.proofs.lemmas.Bool.{cases_Bool, false≢true, ltb-true, ltb-false}
use Rattle.std.proofs.lemmas.Int.{ints}
use Rattle.std.proofs.Math.Nat.{mul-le-mul_right}
use Rattle.overlap_rules.specs.NextMoments.{NonePasses, IsFirstToPass}
use Rattle.overlap_rules.specs.Repeats.{IsRepeatIn, NoneReaches, IsFirstToReach}

-- no moment lies in an empty range
pub none_in_empty : (gap last : ℕ) (low high from : ℤ) → high ≤ℤ low → NoneReaches gap last low high from
none_in_empty gap last low high from empty = λ first k later few inside. (
    let least = inside.from_low in
    let most = inside.before_high in
    omega (arith, ints))

-- nor in one that lies before all of them
pub none_behind : (gap last : ℕ) (low high from : ℤ) → high ≤ℤ from → NoneReaches gap last low high from
none_behind gap last low high from past = λ first k later few inside. (
    let most = inside.before_high in
    omega (arith, ints))

-- a first moment that lies in the range by itself
pub reaches_now : (gap last : ℕ) (low high from at : ℤ) → at ≡ from → low ≤ℤ from → from <ℤ high → IsFirstToReach gap last low high from at
reaches_now gap last low high from at is least most = record {
  ahead = omega (arith, ints);
  reaches = (0, omega arith, (let none : 0 * gap ≡ 0 = omega arith in record { from_low = omega (arith, ints); before_high = omega (arith, ints) }));
  none = λ first k later before few inside. absurd (omega (arith, ints, later, before));
}

-- one from which a repeat does
pub reaches_by : (gap last number : ℕ) (low high from at : ℤ) → at ≡ from → number ≤ last → low ≤ℤ (from +ℤ pos (number * gap)) → (from +ℤ pos (number * gap)) <ℤ high → IsFirstToReach gap last low high from at
reaches_by gap last number low high from at is few least most = record {
  ahead = omega (arith, ints);
  reaches = (number, few, record { from_low = omega (arith, ints); before_high = omega (arith, ints) });
  none = λ first k later before few inside. absurd (omega (arith, ints, later, before));
}

-- without a gap all moments are one
pub reaches_alone : (gap last : ℕ) (low high from at : ℤ) → at ≡ low → gap ≡ 0 → from <ℤ low → low <ℤ high → IsFirstToReach gap last low high from at
reaches_alone gap last low high from at is alone before some = record {
  ahead = omega (arith, ints);
  reaches = (0, omega arith, (let none : 0 * gap ≡ 0 = omega arith in record { from_low = omega (arith, ints); before_high = omega (arith, ints) }));
  none = λ first k later under few inside. (
      let same : k * gap ≡ 0 = rw alone (mul-zero k) in
      let least = inside.from_low in
      absurd (omega (arith, ints, same, least, under)));
}

-- so many gaps before the range, where those that more gaps lead to lie behind it
pub reaches_later : (gap last gaps : ℕ) (low high from at : ℤ) → at ≡ low -ℤ pos (gaps * gap) → gaps ≤ last → low <ℤ high → (from +ℤ pos (gaps * gap)) <ℤ low
    → ((k : ℕ) → gaps < k → k ≤ last → high ≤ℤ (from +ℤ pos (k * gap))) → IsFirstToReach gap last low high from at
reaches_later gap last gaps low high from at is few some before beyond = record {
  ahead = omega (arith, ints);
  reaches = (gaps, few, record { from_low = omega (arith, ints); before_high = omega (arith, ints) });
  none = λ first k later under within inside. absurd (elim (cases_Bool (nat_lt gaps k)) [
    | inl more ↦ (
        let past = beyond k (ltb-true _ _ more) within in
        let most = inside.before_high in
        omega (arith, ints, past, most, later))
    | inr less ↦ (
        let fewer : k ≤ gaps = ltb-false _ _ less in
        let grows : k * gap ≤ gaps * gap = mul-le-mul_right gap fewer in
        let least = inside.from_low in
        omega (arith, ints, grows, least, under))
  ]);
}

-- where so many gaps lead behind a range, more do
pub beyond_more : (gap number k : ℕ) (high from : ℤ) → number ≤ k → high ≤ℤ (from +ℤ pos (number * gap)) → high ≤ℤ (from +ℤ pos (k * gap))
beyond_more gap number k high from more past =
    let grows : number * gap ≤ k * gap = mul-le-mul_right gap more in
    omega (arith, ints)

-- A test of moments by what is so far behind each: it passes one exactly where moments that rise from there come to lie in a range.
pub record Reads (test : ℤ → Bool) (gap last : ℕ) (low high lead : ℤ) : Type 0 where
  pub at : (b : Bool) (moment : ℤ) → (IsTrue b → (k : ℕ) × (k ≤ last) × IsRepeatIn (moment +ℤ lead) gap low high k)
      → ((k : ℕ) → k ≤ last → IsRepeatIn (moment +ℤ lead) gap low high k → IsTrue b) → b ≡ test moment

none_at : (test : ℤ → Bool) (gap last : ℕ) (low high lead moment : ℤ) → Reads test gap last low high lead
    → ((k : ℕ) → k ≤ last → IsRepeatIn (moment +ℤ lead) gap low high k → ⊥) → test moment ≡ false
none_at test gap last low high lead moment reads none = sym (reads.at false moment (λ is. absurd (false≢true is)) (λ k few inside. absurd (none k few inside)))

pub none_passes : (test : ℤ → Bool) (gap last : ℕ) (low high lead from start : ℤ) → Reads test gap last low high lead → start ≡ from +ℤ lead → NoneReaches gap last low high start → NonePasses test from
none_passes test gap last low high lead from start reads is none = λ moment later.
    none_at test gap last low high lead moment reads (λ k few inside. none (moment +ℤ lead) k (omega (arith, ints)) few inside)

pub first_passes : (test : ℤ → Bool) (gap last : ℕ) (low high lead from start at reached : ℤ) → Reads test gap last low high lead → start ≡ from +ℤ lead → reached ≡ at +ℤ lead → IsFirstToReach gap last low high start reached
    → IsFirstToPass test from at
first_passes test gap last low high lead from start at reached reads is back first = record {
  ahead = omega (arith, ints, first.ahead);
  passes = sym (reads.at true at (λ _. subst (λ (z : ℤ). (k : ℕ) × (k ≤ last) × IsRepeatIn z gap low high k) back first.reaches) (λ k few inside. refl));
  none = λ moment later before. none_at test gap last low high lead moment reads (λ k few inside. first.none (moment +ℤ lead) k (omega (arith, ints)) (omega (arith, ints)) few inside);
}
