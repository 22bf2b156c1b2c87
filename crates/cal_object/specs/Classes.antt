-- The periods of a FREEBUSY line with its class (RFC 5545, 3.8.2.6 and 3.2.9).
use Rattle.std.specs.Prelude.{ℕ, List, map, Option}
use Rattle.cal_base.specs.declared.line.Line.{Line}
use Rattle.cal_moment.specs.declared.stamp.Period.{Period}
use Rattle.cal_model.specs.declared.object.Class.{Class}
use Rattle.cal_model.specs.Objects.ComponentReading.{class_of}
use Rattle.cal_model.specs.Objects.LineValues.{periods_in}

-- a period with its class
abbrev pub with_class : Option Class → Period → Option Class × Period
with_class class period = (class, period)

abbrev pub period_of_entry : Option Class × Period → Period
period_of_entry entry = entry.1

-- the periods of one line, each with the class of the line
abbrev pub busy_periods_in : List (List ℕ) → Line → List (Option Class × Period)
busy_periods_in zones line = map (λ period. (class_of line, period)) (periods_in zones line)
