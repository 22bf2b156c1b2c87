-- The first trigger of an alarm and its repeats, against a range: what a test of bounds finds is what a test of each of them finds.
use Rattle.std.proofs.Common.{◌≡◌, ℕ, zero, suc, ◌+◌, ◌-◌, ◌*◌, ◌<◌, ◌≤◌, Bool, true, false, IsTrue, ◌&&◌, ◌||◌, refl, sym, ◌∙◌, arith, inl, inr, ℤ, pos, negsuc, neg_ℤ, ◌+ℤ◌, ◌-ℤ◌, ◌*ℤ◌, ◌≤ℤ◌, ◌<ℤ◌, int_le, int_lt}
use Rattle.std.specs.List.{list_any}
use Rattle.std.specs.Prelude.{◌==◌, ◌≢◌}
use Rattle.std.proofs.Common.{ap, add-mul, eqb-true, subst}
use Rattle.std.proofs.lemmas.Bool.{cases_Bool, false≢true, eqb-false}
use Rattle.std.proofs.lemmas.Int.{ints}
use Rattle.cal_model.specs.Words.Lists.{counted_from, numbers_between}
use Rattle.std.specs.Prelude.{Option, Some}
use Rattle.cal_moment.specs.declared.stamp.Length.{Length}
use Rattle.cal_model.specs.declared.object.Alarm.{Alarm}
use Rattle.cal_model.specs.declared.object.Component.{Component}
use Rattle.cal_model.specs.declared.object.Related.{Related}
use Rattle.cal_model.specs.declared.object.Trigger.TheVariants.{From}
use Rattle.cal_model.specs.declared.row.Fixed.{Fixed}
use Rattle.cal_model.specs.declared.row.Range.{Range}
use Rattle.cal_model.specs.Ranges.Overlap.{seconds_of, moment_related, some_trigger, alarm_overlaps}
use Rattle.std.specs.Prelude.{unsigned_abs}
use Rattle.overlap_rules.specs.NextMoments.{goes_off, NonePasses, IsFirstToPass}
use Rattle.overlap_rules.specs.Repeats.{IsRepeatIn, NoneReaches, IsFirstToReach, way_back}
use Rattle.overlap_rules.proofs.Reaching.{Reads, none_passes, first_passes}

or_left : (b more : Bool) → b ≡ true → (b || more) ≡ true
or_left true more is = refl
or_left false more is = absurd (false≢true is)

or_right : (b more : Bool) → more ≡ true → (b || more) ≡ true
or_right true more is = refl
or_right false more is = is

any_step : (b more : Bool) → (b || more) ≡ true → (b ≡ false → more ≡ true)
any_step true more is absent = absurd (false≢true (sym absent))
any_step false more is absent = is

-- a number that a test finds among numbers in a row
counted_found : (test : ℕ → Bool) (first n : ℕ) → list_any test (counted_from first n) ≡ true → (k : ℕ) × (first ≤ k) × (k < first + n) × (test k ≡ true)
unfolding counted_from
counted_found test first zero is = absurd (false≢true is)
counted_found test first (suc n) is = elim (cases_Bool (test first)) [
  | inl here ↦ (first, omega arith, omega arith, here)
  | inr absent ↦ (
      let later = counted_found test (first + 1) n (any_step (test first) (list_any test (counted_from (first + 1) n)) is absent) in
      (later.0, omega (arith, later.1), omega (arith, later.2), later.3))
]

counted_finds : (test : ℕ → Bool) (first n k : ℕ) → first ≤ k → k < first + n → test k ≡ true → list_any test (counted_from first n) ≡ true
unfolding counted_from
counted_finds test first zero k low high is = absurd (omega arith)
counted_finds test first (suc n) k low high is = elim (cases_Bool (test first)) [
  | inl here ↦ or_left (test first) _ here
  | inr absent ↦ elim (cases_Bool (k == first)) [
    | inl same ↦ (let at : k ≡ first = eqb-true k first same in absurd (false≢true (sym absent ∙ ap test (sym at) ∙ is)))
    | inr other ↦ (
        let apart : k ≢ first = eqb-false k first other in
        or_right (test first) _ (counted_finds test (first + 1) n k (omega arith) (omega arith) is))
  ]
]

same_tests : (b found : Bool) → (b ≡ true → found ≡ true) → (found ≡ true → b ≡ true) → b ≡ found
same_tests true true to from = refl
same_tests true false to from = sym (to refl)
same_tests false true to from = from refl
same_tests false false to from = refl

-- a flag that says whether some number up to the last one passes
some_passes : (test : ℕ → Bool) (last : ℕ) (b : Bool) → (b ≡ true → (k : ℕ) × (k ≤ last) × (test k ≡ true)) →
    ((k : ℕ) → k ≤ last → test k ≡ true → b ≡ true) → b ≡ list_any test (numbers_between 0 (last + 1))
some_passes test last b met all =
    let whole : last + 1 - 0 ≡ last + 1 = omega arith in
    rw whole (same_tests b (list_any test (counted_from 0 (last + 1)))
    (λ is. let found = met is in counted_finds test 0 (last + 1) found.0 (omega arith) (omega (arith, found.1)) found.2)
    (λ is. let found = counted_found test 0 (last + 1) is in all found.0 (omega (arith, found.2)) found.3))

in_range : (a b t : ℤ) → a ≤ℤ t → t <ℤ b → (int_le a t && int_lt t b) ≡ true
in_range a b t from before = grind (arith, ints)

from_in_range : (a b t : ℤ) → (int_le a t && int_lt t b) ≡ true → (a ≤ℤ t) × (t <ℤ b)
from_in_range a b t is = (grind (arith, ints), grind (arith, ints))

-- repeats that go forward
rising_is : (b : Bool) (first : ℤ) (gap last : ℕ) (low high : ℤ) → (IsTrue b → (k : ℕ) × (k ≤ last) × IsRepeatIn first gap low high k) →
    ((k : ℕ) → k ≤ last → IsRepeatIn first gap low high k → IsTrue b) →
    b ≡ list_any (λ k. int_le low (first +ℤ pos k *ℤ pos gap) && int_lt (first +ℤ pos k *ℤ pos gap) high) (numbers_between 0 (last + 1))
rising_is b first gap last low high met all =
    some_passes (λ k. int_le low (first +ℤ pos k *ℤ pos gap) && int_lt (first +ℤ pos k *ℤ pos gap) high) last b
    (λ is. let found = met is in (found.0, found.1, in_range low high _ found.2.from_low found.2.before_high))
    (λ k few is. let inside = from_in_range low high (first +ℤ pos (k * gap)) is in all k few (record { from_low = inside.0; before_high = inside.1 }))

-- repeats that go backwards, mirrored
falling_is : (b : Bool) (first : ℤ) (gap last : ℕ) (low high : ℤ) →
    (IsTrue b → (k : ℕ) × (k ≤ last) × IsRepeatIn (pos 0 -ℤ first) (suc gap) (pos 1 -ℤ high) (pos 1 -ℤ low) k) →
    ((k : ℕ) → k ≤ last → IsRepeatIn (pos 0 -ℤ first) (suc gap) (pos 1 -ℤ high) (pos 1 -ℤ low) k → IsTrue b) →
    b ≡ list_any (λ k. int_le low (first +ℤ pos k *ℤ negsuc gap) && int_lt (first +ℤ pos k *ℤ negsuc gap) high) (numbers_between 0 (last + 1))
falling_is b first gap last low high met all =
    some_passes (λ k. int_le low (first +ℤ pos k *ℤ negsuc gap) && int_lt (first +ℤ pos k *ℤ negsuc gap) high) last b
    (λ is. let found = met is in let from = found.2.from_low in let before = found.2.before_high in
    (found.0, found.1, in_range low high _ (omega (arith, ints)) (omega (arith, ints))))
    (λ k few is. let inside = from_in_range low high (first +ℤ neg_ℤ (pos (k * suc gap))) is in
    all k few (record { from_low = omega (arith, ints, inside.0, inside.1); before_high = omega (arith, ints, inside.0, inside.1) }))

-- what is tested: each repeat of an alarm whose gap is so many seconds, against a range
abbrev some_repeat : ℤ → ℤ → ℕ → ℤ → ℤ → Bool
some_repeat first gap last low high = list_any (λ k. int_le low (first +ℤ pos k *ℤ gap) && int_lt (first +ℤ pos k *ℤ gap) high) (numbers_between 0 (last + 1))

pub forward_is : (b : Bool) (first gap : ℤ) (last : ℕ) (low high : ℤ) {f l h : ℤ} {g : ℕ} →
    (IsTrue b → (k : ℕ) × (k ≤ last) × IsRepeatIn f g l h k) → ((k : ℕ) → k ≤ last → IsRepeatIn f g l h k → IsTrue b) →
    f ≡ first → pos g ≡ gap → l ≡ low → h ≡ high → b ≡ some_repeat first gap last low high
forward_is b first gap last low high {f} {l} {h} {g} met all same_first same_gap same_low same_high =
    subst (λ (z : ℤ). b ≡ some_repeat z gap last low high) same_first
    (subst (λ (z : ℤ). b ≡ some_repeat f z last low high) same_gap
    (subst (λ (z : ℤ). b ≡ some_repeat f (pos g) last z high) same_low
    (subst (λ (z : ℤ). b ≡ some_repeat f (pos g) last l z) same_high (rising_is b f g last l h met all))))

suc_of : (gap : ℤ) (g : ℕ) → gap <ℤ pos 0 → pos g ≡ pos 0 -ℤ gap → (n : ℕ) × (gap ≡ negsuc n) × (g ≡ suc n)
suc_of (pos n) g below is = absurd (omega (arith, ints))
suc_of (negsuc n) g below is = (n, refl, omega (arith, ints))

pub backward_is : (b : Bool) (first gap : ℤ) (last : ℕ) (low high : ℤ) {f l h : ℤ} {g : ℕ} →
    (IsTrue b → (k : ℕ) × (k ≤ last) × IsRepeatIn f g l h k) → ((k : ℕ) → k ≤ last → IsRepeatIn f g l h k → IsTrue b) →
    gap <ℤ pos 0 → f ≡ pos 0 -ℤ first → pos g ≡ pos 0 -ℤ gap → l ≡ pos 1 -ℤ high → h ≡ pos 1 -ℤ low → b ≡ some_repeat first gap last low high
backward_is b first gap last low high {f} {l} {h} {g} met all below same_first same_gap same_low same_high =
    let size = suc_of gap g below same_gap in
    let met' : IsTrue b → (k : ℕ) × (k ≤ last) × IsRepeatIn (pos 0 -ℤ first) (suc size.0) (pos 1 -ℤ high) (pos 1 -ℤ low) k = rw (same_first, size.2, same_low, same_high) at met in
    let all' : (k : ℕ) → k ≤ last → IsRepeatIn (pos 0 -ℤ first) (suc size.0) (pos 1 -ℤ high) (pos 1 -ℤ low) k → IsTrue b = rw (same_first, size.2, same_low, same_high) at all in
    subst (λ (z : ℤ). b ≡ some_repeat first z last low high) (sym size.1) (falling_is b first size.0 last low high met' all')

or_none : (b : Bool) → b ≡ (b || false)
or_none true = refl
or_none false = refl

-- an alarm that counts from a moment of an instance
pub relative_is : (alarm : Alarm) (c : Component) (at : Option Fixed) (range : Range) (related : Related) (length : Length) (moments : Fixed) (moment : ℤ) →
    alarm.trigger ≡ From related length → at ≡ Some moments → moment_related related c (Some moments) ≡ Some moment →
    some_trigger alarm range (moment +ℤ seconds_of length) ≡ alarm_overlaps alarm c at range
relative_is alarm c at range related length moments moment trigger there from =
    rw (trigger, there, from) (or_none (some_trigger alarm range (moment +ℤ seconds_of length)))

-- repeats that go backwards, from the last one on

turned_low : (first low f : ℤ) (a b c : ℕ) → a + b ≡ c → f ≡ first -ℤ pos c → low ≤ℤ (f +ℤ pos b) → low ≤ℤ (first +ℤ neg_ℤ (pos a))
turned_low first low f a b c sum is from = omega (arith, ints)

turned_high : (first high f : ℤ) (a b c : ℕ) → a + b ≡ c → f ≡ first -ℤ pos c → (f +ℤ pos b) <ℤ high → (first +ℤ neg_ℤ (pos a)) <ℤ high
turned_high first high f a b c sum is before = omega (arith, ints)

back_low : (first low f : ℤ) (a b c : ℕ) → a + b ≡ c → f ≡ first -ℤ pos c → low ≤ℤ (first +ℤ neg_ℤ (pos a)) → low ≤ℤ (f +ℤ pos b)
back_low first low f a b c sum is from = omega (arith, ints)

back_high : (first high f : ℤ) (a b c : ℕ) → a + b ≡ c → f ≡ first -ℤ pos c → (first +ℤ neg_ℤ (pos a)) <ℤ high → (f +ℤ pos b) <ℤ high
back_high first high f a b c sum is before = omega (arith, ints)

-- so many gaps forward from the last one are the others back from the first
turned : (k last gap : ℕ) → k ≤ last → (last - k) * gap + k * gap ≡ last * gap
turned k last gap few =
    let whole : last - k + k ≡ last = omega arith in
    sym (add-mul (last - k) k gap) ∙ ap (λ (n : ℕ). n * gap) whole

turned_is : (b : Bool) (first : ℤ) (gap last : ℕ) (low high f : ℤ) → f ≡ first -ℤ pos (last * suc gap) →
    (IsTrue b → (k : ℕ) × (k ≤ last) × IsRepeatIn f (suc gap) low high k) →
    ((k : ℕ) → k ≤ last → IsRepeatIn f (suc gap) low high k → IsTrue b) → b ≡ some_repeat first (negsuc gap) last low high
turned_is b first gap last low high f is met all =
    some_passes (λ k. int_le low (first +ℤ pos k *ℤ negsuc gap) && int_lt (first +ℤ pos k *ℤ negsuc gap) high) last b
    (λ passes. let found = met passes in let sum = turned found.0 last (suc gap) found.1 in (
      last - found.0,
      omega arith,
      in_range low high (first +ℤ neg_ℤ (pos ((last - found.0) * suc gap)))
          (turned_low first low f _ _ _ sum is found.2.from_low) (turned_high first high f _ _ _ sum is found.2.before_high),
    ))
    (λ k few passes. let inside = from_in_range low high (first +ℤ neg_ℤ (pos (k * suc gap))) passes in
    let sum : k * suc gap + (last - k) * suc gap ≡ last * suc gap = omega (arith, turned k last (suc gap) few) in
    all (last - k) (omega arith) (record { from_low = back_low first low f _ _ _ sum is inside.0; before_high = back_high first high f _ _ _ sum is inside.1 }))

reads_gap : (gap : ℤ) (last : ℕ) (low high lead : ℤ) → Reads (λ moment. some_repeat (moment +ℤ lead) gap last low high) (unsigned_abs gap) last low high (lead -ℤ pos (way_back gap last))
reads_gap (pos g) last low high lead = record { at = λ b moment met all. forward_is b (moment +ℤ lead) (pos g) last low high met all (omega (arith, ints)) refl refl refl }
reads_gap (negsuc g) last low high lead = record { at = λ b moment met all. turned_is b (moment +ℤ lead) g last low high (moment +ℤ (lead -ℤ pos (last * suc g))) (omega (arith, ints)) met all }

-- what an alarm does at a moment from which it counts
pub reads_alarm : (alarm : Alarm) (after : Length) (range : Range) →
    Reads (goes_off alarm after range) (unsigned_abs (seconds_of alarm.gap)) alarm.repeat range.start.0 range.end.0 (seconds_of after -ℤ pos (way_back (seconds_of alarm.gap) alarm.repeat))
reads_alarm alarm after range = reads_gap (seconds_of alarm.gap) alarm.repeat range.start.0 range.end.0 (seconds_of after)

pub none_of_alarm : (alarm : Alarm) (after : Length) (range : Range) (from lead : ℤ) (gap : ℕ) (low high start : ℤ) →
    lead ≡ seconds_of after -ℤ pos (way_back (seconds_of alarm.gap) alarm.repeat) → gap ≡ unsigned_abs (seconds_of alarm.gap) → low ≡ range.start.0 → high ≡ range.end.0 → start ≡ from +ℤ lead →
    NoneReaches gap alarm.repeat low high start → NonePasses (goes_off alarm after range) from
none_of_alarm alarm after range from lead gap low high start is size first last begins none =
    let at : start ≡ from +ℤ (seconds_of after -ℤ pos (way_back (seconds_of alarm.gap) alarm.repeat)) = omega (arith, ints) in
    none_passes (goes_off alarm after range) (unsigned_abs (seconds_of alarm.gap)) alarm.repeat range.start.0 range.end.0 (seconds_of after -ℤ pos (way_back (seconds_of alarm.gap) alarm.repeat)) from start
    (reads_alarm alarm after range) at
    (subst (λ (g : ℕ). NoneReaches g alarm.repeat range.start.0 range.end.0 start) size
    (subst (λ (z : ℤ). NoneReaches gap alarm.repeat z range.end.0 start) first
    (subst (λ (z : ℤ). NoneReaches gap alarm.repeat low z start) last none)))

pub first_of_alarm : (alarm : Alarm) (after : Length) (range : Range) (from lead at : ℤ) {gap : ℕ} {low high start reached : ℤ} →
    IsFirstToReach gap alarm.repeat low high start reached →
    lead ≡ seconds_of after -ℤ pos (way_back (seconds_of alarm.gap) alarm.repeat) → gap ≡ unsigned_abs (seconds_of alarm.gap) → low ≡ range.start.0 → high ≡ range.end.0 → start ≡ from +ℤ lead →
    reached ≡ at +ℤ lead → IsFirstToPass (goes_off alarm after range) from at
first_of_alarm alarm after range from lead at {gap} {low} {high} {start} {reached} one is size first last begins back =
    let begun : start ≡ from +ℤ (seconds_of after -ℤ pos (way_back (seconds_of alarm.gap) alarm.repeat)) = omega (arith, ints) in
    let found : reached ≡ at +ℤ (seconds_of after -ℤ pos (way_back (seconds_of alarm.gap) alarm.repeat)) = omega (arith, ints) in
    first_passes (goes_off alarm after range) (unsigned_abs (seconds_of alarm.gap)) alarm.repeat range.start.0 range.end.0 (seconds_of after -ℤ pos (way_back (seconds_of alarm.gap) alarm.repeat)) from start at reached
    (reads_alarm alarm after range) begun found
    (subst (λ (g : ℕ). IsFirstToReach g alarm.repeat range.start.0 range.end.0 start reached) size
    (subst (λ (z : ℤ). IsFirstToReach gap alarm.repeat z range.end.0 start reached) first
    (subst (λ (z : ℤ). IsFirstToReach gap alarm.repeat low z start reached) last one)))
