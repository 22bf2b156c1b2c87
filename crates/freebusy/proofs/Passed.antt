-- Where no class opens or closes behind a moment and before another, the class stays, and the counts before the later one tell it.
use Rattle.std.proofs.Common.{◌≡◌, ℕ, zero, suc, ◌≤◌, ◌<◌, Bool, true, false, List, length, get_or, refl, sym, ap, ◌∙◌, ◌⊎◌, inl, inr, ⊎_elim, arith}
use Rattle.std.specs.Prelude.{ℤ, ◌≤ℤ◌, ◌<ℤ◌, int_le, int_lt, nat_lt}
use Rattle.std.specs.Int.{int_max}
use Rattle.std.specs.List.{AllWithin}
use Rattle.std.specs.List.Sorted.{IsSorted}
use Rattle.std.specs.Ordering.{int_cmp}
use Rattle.std.proofs.lemmas.Int.{ints}
use Rattle.std.proofs.lemmas.List.{get_or_default}
use Rattle.freebusy.specs.declared.ends.Ends.{Ends}
use Rattle.freebusy.specs.declared.ends.Classes.{Classes}
use Rattle.freebusy.specs.declared.left.Counts.{Counts}
use Rattle.freebusy.specs.declared.left.Left.{Left}
use Rattle.freebusy.specs.Ends.{count_until, is_open, greatest_open, open_class}
use Rattle.freebusy.specs.Left.{AreBefore, HaveCounts, AreLeft, AreFirstUpTo, AreCountedUpTo, IsLast, IsLastOf, AreUpTo, class_left}
use Rattle.freebusy.proofs.Partitions.{count_until-is, le_far}

is_le : (x last t : ℤ) → x ≤ℤ last → last ≤ℤ t → int_le x t ≡ true
is_le x last t first later = grind (arith, ints)

is_past : (x upper t : ℤ) → int_lt x upper ≡ false → t <ℤ upper → int_le x t ≡ false
is_past x upper t after before = grind (arith, ints)

count_is : (moments : List ℤ) (upper last t : ℤ) (n : ℕ) → AreBefore moments upper n → AreFirstUpTo moments n last → last ≤ℤ t → t <ℤ upper → n ≡ count_until moments t
count_is moments upper last t n are first later before =
    count_until-is moments t n are.bound
    (λ k d low high. is_le (get_or moments k d) last t (first k d low high) later)
    (λ k d low high. is_past (get_or moments k d) upper t (are.after k d low high) before)

open_is : (ends : Ends) (upper last t : ℤ) (counts : Counts) → HaveCounts ends upper counts → AreCountedUpTo ends counts last → last ≤ℤ t → t <ℤ upper
    → is_open ends t ≡ nat_lt counts.ends counts.starts
open_is ends upper last t counts have first later before =
    ap (λ (n : ℕ). nat_lt n (count_until ends.starts t)) (sym (count_is ends.ends upper last t counts.ends have.ends first.ends later before))
    ∙ ap (nat_lt counts.ends) (sym (count_is ends.starts upper last t counts.starts have.starts first.starts later before))

pub class_is : (classes : Classes) (left : Left) (last t : ℤ) → AreLeft classes left → AreUpTo classes left last → last ≤ℤ t → t <ℤ left.upper → open_class classes t ≡ class_left left
class_is classes left last t are first later before =
    ap (λ (b : Bool). greatest_open b (is_open classes.unavailable t) (is_open classes.tentative t)) (open_is classes.busy left.upper last t left.busy are.busy first.busy later before)
    ∙ ap (λ (u : Bool). greatest_open (nat_lt left.busy.ends left.busy.starts) u (is_open classes.tentative t)) (open_is classes.unavailable left.upper last t left.unavailable are.unavailable first.unavailable later before)
    ∙ ap (greatest_open (nat_lt left.busy.ends left.busy.starts) (nat_lt left.unavailable.ends left.unavailable.starts)) (open_is classes.tentative left.upper last t left.tentative are.tentative first.tentative later before)

up_to_later : (moments : List ℤ) (count : ℕ) (last later : ℤ) → last ≤ℤ later → AreFirstUpTo moments count last → AreFirstUpTo moments count later
up_to_later moments count last later more first = λ k d low high. omega (arith, ints, more, first k d low high)

counted_later : (ends : Ends) (counts : Counts) (last later : ℤ) → last ≤ℤ later → AreCountedUpTo ends counts last → AreCountedUpTo ends counts later
counted_later ends counts last later more first = record {
  starts = up_to_later ends.starts counts.starts last later more first.starts;
  ends = up_to_later ends.ends counts.ends last later more first.ends;
}

is_below : (x upper : ℤ) → int_lt x upper ≡ true → x <ℤ upper
is_below x upper is = grind (arith, ints)

-- the later of two moments lies behind none of them, and before what both lie before

later_first : (x y z : ℤ) → z ≡ int_max x y → x ≤ℤ z
later_first x y z is = grind (arith, ints)

later_second : (x y z : ℤ) → z ≡ int_max x y → y ≤ℤ z
later_second x y z is = grind (arith, ints)

later_below : (x y z upper : ℤ) → z ≡ int_max x y → x <ℤ upper → y <ℤ upper → z <ℤ upper
later_below x y z upper is first second = grind (arith, ints)

-- the last of some moments
pub last_of_some : (moments : List ℤ) (count before : ℕ) (last least result d : ℤ) → IsSorted int_cmp moments → count ≤ length moments → count ≡ suc before → last ≡ get_or moments before d
    → result ≡ int_max last least → IsLast moments count least result
last_of_some moments count before last least result d up bound is at later_is =
    let inside : before < length moments = omega (arith, bound, is) in
    let more = later_first last least result later_is in
    record {
      later = later_second last least result later_is;
      up_to = λ k e low high. omega (arith, ints, more, at, get_or_default moments before d e inside, le_far moments up k before e (omega (arith, high, is)) inside);
      before = λ upper less all. later_below last least result upper later_is (omega (arith, ints, at, is_below (get_or moments before d) upper (all before d (omega arith) (omega (arith, is))))) less;
    }

pub last_of_both : (ends : Ends) (counts : Counts) (least middle last : ℤ) → IsLast ends.ends counts.ends least middle → IsLast ends.starts counts.starts middle last → IsLastOf ends counts least last
last_of_both ends counts least middle last first second = record {
  later = omega (arith, ints, first.later, second.later);
  up_to = record { starts = second.up_to; ends = up_to_later ends.ends counts.ends middle last second.later first.up_to };
  before = λ upper less have. second.before upper (first.before upper less have.ends.before) have.starts.before;
}

pub up_to_all : (classes : Classes) (left : Left) (least busy unavailable last : ℤ) → IsLastOf classes.busy left.busy least busy → IsLastOf classes.unavailable left.unavailable busy unavailable
    → IsLastOf classes.tentative left.tentative unavailable last → AreUpTo classes left last
up_to_all classes left least busy unavailable last first second third = record {
  busy = counted_later classes.busy left.busy busy last (omega (arith, ints, second.later, third.later)) first.up_to;
  unavailable = counted_later classes.unavailable left.unavailable unavailable last third.later second.up_to;
  tentative = third.up_to;
}

pub before_all : (classes : Classes) (left : Left) (least busy unavailable last : ℤ) → AreLeft classes left → least <ℤ left.upper → IsLastOf classes.busy left.busy least busy
    → IsLastOf classes.unavailable left.unavailable busy unavailable → IsLastOf classes.tentative left.tentative unavailable last → last <ℤ left.upper
before_all classes left least busy unavailable last are less first second third =
    third.before left.upper (second.before left.upper (first.before left.upper less are.busy) are.unavailable) are.tentative

lt_is : (x upper : ℤ) → x <ℤ upper → int_lt x upper ≡ true
lt_is x upper less = grind (arith, ints)

first_or : (k before : ℕ) → before ≤ k → (k ≡ before) ⊎ (before < k)
first_or zero zero low = inl refl
first_or zero (suc before) low = absurd (omega (arith, low))
first_or (suc k) zero low = inr (omega arith)
first_or (suc k) (suc before) low = ⊎_elim (λ same. inl (ap (λ (n : ℕ). suc n) same)) (λ more. inr (omega (arith, more))) (first_or k before (omega (arith, low)))

-- where one more is taken away, and where none is
pub back_one : (moments : List ℤ) (upper : ℤ) (count before : ℕ) (d : ℤ) → count ≡ suc before → int_lt (get_or moments before d) upper ≡ false → count ≤ length moments
    → AllWithin (λ (y : ℤ). int_lt y upper ≡ false) moments count (length moments) → AllWithin (λ (y : ℤ). int_lt y upper ≡ false) moments before (length moments)
back_one moments upper count before d is past bound after = λ k e low high. ⊎_elim
    (λ same. ap (λ (j : ℕ). int_lt (get_or moments j e) upper) same ∙ ap (λ (y : ℤ). int_lt y upper) (get_or_default moments before e d (omega (arith, is, bound))) ∙ past)
    (λ further. after k e (omega (arith, is, further)) high)
    (first_or k before low)

pub back_none : (moments : List ℤ) (upper : ℤ) (count : ℕ) → count ≡ 0 → AllWithin (λ (y : ℤ). int_lt y upper ≡ false) moments count (length moments) → AreBefore moments upper count
back_none moments upper count none after = record { bound = omega (arith, none); before = λ k d low high. absurd (omega (arith, high, none)); after = after }

pub back_some : (moments : List ℤ) (upper : ℤ) (count before : ℕ) (d : ℤ) → IsSorted int_cmp moments → count ≡ suc before → int_lt (get_or moments before d) upper ≡ true → count ≤ length moments
    → AllWithin (λ (y : ℤ). int_lt y upper ≡ false) moments count (length moments) → AreBefore moments upper count
back_some moments upper count before d up is less bound after =
    let inside : before < length moments = omega (arith, bound, is) in
    let last : get_or moments before d <ℤ upper = is_below (get_or moments before d) upper less in
    record {
      bound = bound;
      before = λ k e low high. lt_is (get_or moments k e) upper (omega (arith, ints, last, get_or_default moments before d e inside, le_far moments up k before e (omega (arith, high, is)) inside));
      after = after;
    }
