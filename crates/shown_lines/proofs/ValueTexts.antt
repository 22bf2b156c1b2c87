-- The texts of rows' values are parts of a moment's text in UTC, and have no octet but digits, T and Z.
use Rattle.std.proofs.Common.{ℕ, zero, suc, ◌<◌, ◌^◌, ◌%◌, true, List, [], ◌∷◌, ◌++◌, take, sym, subst, arith}
use Rattle.std.specs.Prelude.{codes}
use Rattle.std.specs.List.{AllByRecursion}
use Rattle.cal_moment.specs.declared.stamp.Day.{Day}
use Rattle.cal_moment.specs.declared.stamp.Local.{Local}
use Rattle.cal_moment.specs.Texts.{digits, SpellsDateTime, SpellsDate, SpellsTime}
use Rattle.cal_moment.proofs.CalendarLaws.{month_length-bounds}
use Rattle.cal_moment.proofs.DigitLemmas.{digit_below, tail_below}
use Rattle.ical_lines.proofs.Pieces.{all_append}
use Rattle.shown_lines.specs.Heads.{IsClean}
use Rattle.shown_lines.proofs.CleanTexts.{IsPlain, clean-plain}

digits_plain : (count n : ℕ) → n < 10 ^ count → AllByRecursion IsPlain (digits count n)
digits_plain zero n h = tt
digits_plain (suc count) n h =
    let first = digit_below count n h in
    ((omega arith, omega (arith, first)), digits_plain count (n % 10 ^ count) (tail_below count n))

date_plain : (text : List ℕ) (day : Day) → SpellsDate text day → AllByRecursion IsPlain text
date_plain text day spells =
    let bounds = spells.date in
    let month = month_length-bounds spells.year spells.month in
    subst (AllByRecursion IsPlain) (sym spells.spelled)
    (all_append IsPlain (digits 4 spells.year) (digits 2 spells.month ++ digits 2 spells.day) (digits_plain 4 spells.year (omega (arith, bounds.0.1)))
    (all_append IsPlain (digits 2 spells.month) (digits 2 spells.day) (digits_plain 2 spells.month (omega (arith, bounds.1.1))) (digits_plain 2 spells.day (omega (arith, bounds.2.1, month.1)))))

time_plain : (text : List ℕ) (second : ℕ) → SpellsTime text second → AllByRecursion IsPlain text
time_plain text second spells =
    subst (AllByRecursion IsPlain) (sym spells.spelled)
    (all_append IsPlain (digits 2 spells.hour) (digits 2 spells.minute ++ digits 2 spells.second) (digits_plain 2 spells.hour (omega (arith, spells.hour_in)))
    (all_append IsPlain (digits 2 spells.minute) (digits 2 spells.second) (digits_plain 2 spells.minute (omega (arith, spells.minute_in))) (digits_plain 2 spells.second (omega (arith, spells.second_in)))))

plain-take : (n : ℕ) (text : List ℕ) → AllByRecursion IsPlain text → AllByRecursion IsPlain (take n text)
plain-take zero text all = tt
plain-take (suc n) [] all = tt
plain-take (suc n) (octet ∷ text) all = (all.0, plain-take n text all.1)

-- a part from the front of a text that spells a time in UTC is one line
pub clean-moment : (text : List ℕ) (local : Local) (n : ℕ) → SpellsDateTime text (local, true) → IsClean (take n text)
clean-moment text local n spells =
    clean-plain (take n text)
    (plain-take n text (subst (AllByRecursion IsPlain) (sym spells.spelled)
    (all_append IsPlain spells.date (codes "T" ++ (spells.time ++ codes "Z")) (date_plain spells.date _ spells.spells_date)
    (all_append IsPlain (codes "T") (spells.time ++ codes "Z") ((omega arith, omega arith), tt)
    (all_append IsPlain spells.time (codes "Z") (time_plain spells.time _ spells.spells_time) ((omega arith, omega arith), tt))))))
