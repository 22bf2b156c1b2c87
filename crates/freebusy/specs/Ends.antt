-- The times of a class, the moments at which it opens and closes, in rising order, and the class that they give a moment: a class is open where it has opened more often than closed.
use Rattle.std.specs.Prelude.{◌≡◌, ℕ, Bool, true, false, ◌&&◌, List, map, filter, All, Option, Some, None, ℤ, ◌<ℤ◌, int_le, int_lt, nat_lt}
use Rattle.std.specs.Int.{int_max}
use Rattle.std.specs.List.{count_by, list_any}
use Rattle.std.specs.List.Sorted.{IsSorted, IsSortedByKey}
use Rattle.std.specs.Ordering.{int_cmp}
use Rattle.cal_model.specs.declared.object.Class.{Class}
use Rattle.cal_model.specs.declared.object.Class.TheVariants.{Busy, Unavailable, Tentative}
use Rattle.cal_model.specs.Busy.BusyRuns.{same_class}
use Rattle.freebusy.specs.declared.busy.BusyRow.{BusyRow}
use Rattle.freebusy.specs.declared.ends.Ends.{Ends}
use Rattle.freebusy.specs.declared.ends.Span.{Span}
use Rattle.freebusy.specs.declared.ends.Classes.{Classes}

-- of a class, and it covers some second
abbrev pub is_of : Class → BusyRow → Bool
is_of class row = same_class class row.class && int_lt row.start row.end

abbrev pub span_of : BusyRow → Span
span_of row = record { start = row.start; end = row.end }

-- the times of a class
abbrev pub spans_of : Class → List BusyRow → List Span
spans_of class rows = map span_of (filter (is_of class) rows)

-- a stretch, lengthened by one that starts in it
abbrev pub lengthened : Span → Span → Span
lengthened span next = record { start = span.start; end = int_max next.end span.end }

abbrev pub covers_at : ℤ → Span → Bool
covers_at at span = int_le span.start at && int_lt at span.end

pub record HasSecond (span : Span) : Type 0 where
  pub before : span.start <ℤ span.end

-- each covers some second, and starts no earlier than the one in front of it
pub record AreInOrder (spans : List Span) : Type 0 where
  pub rising : IsSortedByKey (λ (span : Span). span.start) int_cmp spans
  pub each : All HasSecond spans

pub record AreRising (moments : Ends) : Type 0 where
  pub starts : IsSorted int_cmp moments.starts
  pub ends : IsSorted int_cmp moments.ends

pub record AreAllRising (classes : Classes) : Type 0 where
  pub busy : AreRising classes.busy
  pub unavailable : AreRising classes.unavailable
  pub tentative : AreRising classes.tentative

abbrev pub count_until : List ℤ → ℤ → ℕ
count_until moments at = count_by (λ (x : ℤ). int_le x at) moments

abbrev pub is_open : Ends → ℤ → Bool
is_open ends at = nat_lt (count_until ends.ends at) (count_until ends.starts at)

-- open where some of the times covers the moment
pub record AreEndsOf (spans : List Span) (found : Ends) : Type 0 where
  pub rising : AreRising found
  pub covered : (at : ℤ) → is_open found at ≡ list_any (covers_at at) spans

pub record AreClassesOf (rows : List BusyRow) (found : Classes) : Type 0 where
  pub busy : AreEndsOf (spans_of Busy rows) found.busy
  pub unavailable : AreEndsOf (spans_of Unavailable rows) found.unavailable
  pub tentative : AreEndsOf (spans_of Tentative rows) found.tentative

-- the greatest of the classes that are open
abbrev pub greatest_open : Bool → Bool → Bool → Option Class
greatest_open true unavailable tentative = Some Busy
greatest_open false true tentative = Some Unavailable
greatest_open false false true = Some Tentative
greatest_open false false false = None

abbrev pub open_class : Classes → ℤ → Option Class
open_class classes at = greatest_open (is_open classes.busy at) (is_open classes.unavailable at) (is_open classes.tentative at)
