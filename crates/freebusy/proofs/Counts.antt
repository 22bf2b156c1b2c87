-- A class is open at a moment exactly where some of its times covers the moment.
use Rattle.std.proofs.Common.{◌≡◌, Bool, true, false, cond, ◌&&◌, ◌||◌, List, [], ◌∷◌, map, reverse, Option, Some, refl, sym, ap, ◌∙◌, arith}
use Rattle.std.specs.Prelude.{ℤ, ◌<ℤ◌, int_le, int_lt, filter, All}
use Rattle.std.specs.List.{list_any}
use Rattle.std.specs.List.Sorted.{IsPermutation, IsSortedByKey}
use Rattle.std.specs.Ordering.{int_cmp}
use Rattle.std.proofs.lemmas.Int.{ints}
use Rattle.std.proofs.lemmas.List.Elements.{All-cons, All-nil}
use Rattle.std.proofs.lemmas.List.Sorted.{All-permutation, list_any-IsPermutation}
use Rattle.cal_model.specs.declared.object.Class.{Class}
use Rattle.cal_model.specs.declared.object.Class.TheVariants.{Busy, Unavailable, Tentative}
use Rattle.cal_model.specs.Busy.BusyTimes.{BusyTime}
use Rattle.cal_model.specs.declared.row.Range.{Range}
use Rattle.cal_model.specs.Busy.BusyRuns.{covers, greater, greatest_class, class_at, same_class, runs, runs_of_classes}
use Rattle.cal_model.proofs.Busy.BusyRunLaws.{runs_of_classes-same}
use Rattle.freebusy.specs.declared.busy.BusyRow.{BusyRow}
use Rattle.freebusy.specs.declared.busy.Run.{Run}
use Rattle.freebusy.specs.declared.ends.Ends.{Ends}
use Rattle.freebusy.specs.declared.ends.Span.{Span}
use Rattle.freebusy.specs.declared.ends.Classes.{Classes}
use Rattle.freebusy.specs.Ends.{AreAllRising, AreClassesOf, AreEndsOf, AreInOrder, HasSecond, covers_at, greatest_open, is_of, is_open, open_class, span_of, spans_of}
use Rattle.freebusy.specs.Sweep.{in_order}
use Rattle.freebusy.specs.Times.{time_of, times_of, time_of_run}

abbrev covers_of : Class → ℤ → BusyRow → Bool
covers_of class t row = same_class class row.class && covers t (time_of row)

covers_none : (a b t : ℤ) → int_lt a b ≡ false → (int_le a t && int_lt t b) ≡ false
covers_none a b t is = grind (arith, ints)

any_row : (r : BusyRow) (kept : List BusyRow) (t : ℤ) (rest same some : Bool) → int_lt r.start r.end ≡ some → list_any (covers_at t) (map span_of kept) ≡ rest
    → list_any (covers_at t) (map span_of (cond (same && some) (r ∷ kept) kept)) ≡ ((same && covers t (time_of r)) || rest)
any_row r kept t rest false some is others = others
any_row r kept t rest true true is others = ap (λ (b : Bool). covers t (time_of r) || b) others
any_row r kept t rest true false is others = others ∙ ap (λ (b : Bool). b || rest) (sym (covers_none r.start r.end t is))

-- some of the times of a class covers a moment
any_of_class : (class : Class) (rows : List BusyRow) (t : ℤ) → list_any (covers_at t) (spans_of class rows) ≡ list_any (covers_of class t) rows
any_of_class class [] t = refl
any_of_class class (r ∷ rs) t = any_row r (filter (is_of class) rs) t (list_any (covers_of class t) rs) (same_class class r.class) (int_lt r.start r.end) refl (any_of_class class rs t)

open_is : (class : Class) (rows : List BusyRow) (found : Ends) (t : ℤ) → AreEndsOf (spans_of class rows) found → is_open found t ≡ list_any (covers_of class t) rows
open_is class rows found t are = are.covered t ∙ any_of_class class rows t

less_of : (a b : ℤ) → int_lt a b ≡ true → a <ℤ b
less_of a b is = grind (arith, ints)

each_row : (r : BusyRow) (kept : List BusyRow) (same some : Bool) → int_lt r.start r.end ≡ some → All HasSecond (map span_of kept) → All HasSecond (map span_of (cond (same && some) (r ∷ kept) kept))
each_row r kept false some is each = each
each_row r kept true true is each = All-cons HasSecond (span_of r) (map span_of kept) (record { before = less_of r.start r.end is }) each
each_row r kept true false is each = each

each_of_class : (class : Class) (rows : List BusyRow) → All HasSecond (spans_of class rows)
each_of_class class [] = All-nil HasSecond
each_of_class class (r ∷ rs) = each_row r (filter (is_of class) rs) (same_class class r.class) (int_lt r.start r.end) refl (each_of_class class rs)

pub order_of_class : (class : Class) (rows : List BusyRow) (spans : List Span) → IsPermutation (spans_of class rows) spans → IsSortedByKey (λ (span : Span). span.start) int_cmp spans → AreInOrder spans
order_of_class class rows spans moved rising = record { rising = rising; each = All-permutation HasSecond (spans_of class rows) spans moved (each_of_class class rows) }

pub ends_of_class : (class : Class) (rows : List BusyRow) (spans : List Span) (found : Ends) → IsPermutation (spans_of class rows) spans → AreEndsOf spans found → AreEndsOf (spans_of class rows) found
ends_of_class class rows spans found moved are = record { rising = are.rising; covered = λ t. are.covered t ∙ sym (list_any-IsPermutation (covers_at t) (spans_of class rows) spans moved) }

-- a time that does not cover the moment
not_covering : (c : Class) (b u n : Bool) → greatest_open b u n ≡ greatest_open ((same_class Busy c && false) || b) ((same_class Unavailable c && false) || u) ((same_class Tentative c && false) || n)
not_covering Busy b u n = refl
not_covering Unavailable b u n = refl
not_covering Tentative b u n = refl

-- one that does
covering : (c : Class) (b u n : Bool) → Some (greater c (greatest_open b u n)) ≡ greatest_open ((same_class Busy c && true) || b) ((same_class Unavailable c && true) || u) ((same_class Tentative c && true) || n)
covering Busy b u n = refl
covering Unavailable true u n = refl
covering Unavailable false true n = refl
covering Unavailable false false true = refl
covering Unavailable false false false = refl
covering Tentative true u n = refl
covering Tentative false true n = refl
covering Tentative false false true = refl
covering Tentative false false false = refl

one_class : (time : BusyTime) (rest : List BusyTime) (v b u n : Bool) → greatest_class rest ≡ greatest_open b u n
    → greatest_class (cond v (time ∷ rest) rest) ≡ greatest_open ((same_class Busy time.class && v) || b) ((same_class Unavailable time.class && v) || u) ((same_class Tentative time.class && v) || n)
one_class time rest true b u n is = ap (λ (o : Option Class). Some (greater time.class o)) is ∙ covering time.class b u n
one_class time rest false b u n is = is ∙ not_covering time.class b u n

greatest_is : (rows : List BusyRow) (t : ℤ) → class_at (times_of rows) t ≡ greatest_open (list_any (covers_of Busy t) rows) (list_any (covers_of Unavailable t) rows) (list_any (covers_of Tentative t) rows)
greatest_is [] t = refl
greatest_is (r ∷ rs) t =
    one_class (time_of r) (filter (covers t) (times_of rs)) (covers t (time_of r)) (list_any (covers_of Busy t) rs) (list_any (covers_of Unavailable t) rs) (list_any (covers_of Tentative t) rs)
    (greatest_is rs t)

pub open_class-is : (rows : List BusyRow) (classes : Classes) → AreClassesOf rows classes → (t : ℤ) → open_class classes t ≡ class_at (times_of rows) t
open_class-is rows classes are t =
    ap (λ (b : Bool). greatest_open b (is_open classes.unavailable t) (is_open classes.tentative t)) (open_is Busy rows classes.busy t are.busy)
    ∙ ap (λ (u : Bool). greatest_open (list_any (covers_of Busy t) rows) u (is_open classes.tentative t)) (open_is Unavailable rows classes.unavailable t are.unavailable)
    ∙ ap (λ (n : Bool). greatest_open (list_any (covers_of Busy t) rows) (list_any (covers_of Unavailable t) rows) n) (open_is Tentative rows classes.tentative t are.tentative)
    ∙ sym (greatest_is rows t)

pub rising-are : (rows : List BusyRow) (classes : Classes) → AreClassesOf rows classes → AreAllRising classes
rising-are rows classes are = record { busy = are.busy.rising; unavailable = are.unavailable.rising; tentative = are.tentative.rising }

-- the runs of the classes that are open are those of the times
pub runs-are : (rows : List BusyRow) (classes : Classes) (range : Range) (found turned : List Run) → AreClassesOf rows classes → in_order found ≡ runs_of_classes (open_class classes) range
    → turned ≡ reverse found → map time_of_run turned ≡ runs (times_of rows) range
runs-are rows classes range found turned are swept is =
    ap (map time_of_run) is ∙ swept
    ∙ runs_of_classes-same (open_class classes) (class_at (times_of rows)) range (λ t from before. open_class-is rows classes are t)
