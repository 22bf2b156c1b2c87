-- The dates of a line that are looked at, wherever it stands in a component.
use Rattle.std.specs.Prelude.{ℕ, if◌then◌else◌, List, [], ◌∷◌, ◌++◌, flat_map, codes}
use Rattle.cal_base.specs.declared.line.Line.{Line}
use Rattle.cal_moment.specs.declared.stamp.Period.{Period}
use Rattle.cal_moment.specs.declared.stamp.PeriodEnd.{PeriodEnd}
use Rattle.cal_moment.specs.declared.stamp.PeriodEnd.TheVariants.{At, After}
use Rattle.cal_moment.specs.declared.stamp.Stamp.{Stamp}
use Rattle.cal_model.specs.Values.StampTexts.{is_one_of}
use Rattle.cal_model.specs.Objects.LineValues.{stamps_in, periods_in}

-- the lines of a component whose dates are looked at
abbrev pub dated_names : List (List ℕ)
dated_names =
    codes "DTSTART" ∷ codes "DTEND" ∷ codes "DUE" ∷ codes "RECURRENCE-ID" ∷ codes "RDATE" ∷ codes "EXDATE" ∷ codes "FREEBUSY" ∷ []

abbrev pub stamps_of_end : PeriodEnd → List Stamp
stamps_of_end (At end) = end ∷ []
stamps_of_end (After length) = []

abbrev pub stamps_of_period : Period → List Stamp
stamps_of_period period = period.start ∷ stamps_of_end period.end

-- their stamps, of periods the start and the end
abbrev pub dated_stamps : List (List ℕ) → Line → List Stamp
dated_stamps zones line =
    if is_one_of dated_names line then stamps_in zones line ++ flat_map stamps_of_period (periods_in zones line) else []
