-- Dates outside those that are served, in the order of the text.
-- A condition on the list of all lines, with where each stands.
use Rattle.std.specs.Prelude.{ℕ, Bool, false, ◌&&◌, ◌==◌, if◌then◌else◌, List, [], ◌∷◌, flat_map, find, bytes_eq, Option, Some, None, is_some, codes, int_lt}
use Rattle.std.specs.List.{enumerate_from}
use Rattle.cal_base.specs.declared.line.Line.{Line}
use Rattle.cal_base.specs.Lines.ComponentTrees.{depth, innermost, name_at, or_else}
use Rattle.cal_moment.specs.declared.stamp.Stamp.{Stamp}
use Rattle.cal_moment.specs.declared.stamp.Stamp.TheVariants.{Utc}
use Rattle.cal_model.specs.declared.object.Trigger.{Trigger}
use Rattle.cal_model.specs.declared.object.Trigger.TheVariants.{At as AtMoment}
use Rattle.cal_model.specs.Words.Limits.{first_date, last_date}
use Rattle.cal_model.specs.Values.StampTexts.{trigger_of}
use Rattle.cal_model.specs.Instances.Alignment.{written_value}
use Rattle.cal_model.specs.Objects.ComponentLines.{has_name, kind_named}
use Rattle.cal_model.specs.Objects.DatedLines.{dated_stamps}

-- a line stands in a component of the four kinds, or in an alarm of one
abbrev pub is_in_kind : List Line → ℕ → Bool
is_in_kind lines number = elim (innermost lines number) [
  | None ↦ false
  | Some begin ↦ (depth lines begin == 1) && is_some (kind_named (name_at lines (Some begin)))
]

abbrev pub is_in_alarm : List Line → ℕ → Bool
is_in_alarm lines number = elim (innermost lines number) [
  | None ↦ false
  | Some begin ↦ bytes_eq (name_at lines (Some begin)) (codes "VALARM") && is_in_kind lines begin
]

-- the moment of a TRIGGER that names one
abbrev pub trigger_moment : Option Trigger → List Stamp
trigger_moment (Some (AtMoment moment)) = Utc moment ∷ []
trigger_moment other = []

abbrev pub trigger_stamps : Line → List Stamp
trigger_stamps line = if has_name (codes "TRIGGER") line then trigger_moment (trigger_of line) else []

-- the dates of a line, by where it stands
abbrev pub stamps_of_line : List (List ℕ) → List Line → ℕ × Line → List Stamp
stamps_of_line zones lines (number, line) =
    if is_in_kind lines number then dated_stamps zones line
    else (if is_in_alarm lines number then trigger_stamps line else [])

-- all dates, in the order of the text
abbrev pub all_stamps : List (List ℕ) → List Line → List Stamp
all_stamps zones lines = flat_map (stamps_of_line zones lines) (enumerate_from 0 lines)

abbrev pub is_early : Stamp → Bool
is_early stamp = int_lt (written_value stamp) first_date

abbrev pub is_late : Stamp → Bool
is_late stamp = int_lt last_date (written_value stamp)

-- the first date, as it is written, that is too early, or else the first that is too late
abbrev pub stamp_outside : List (List ℕ) → List Line → Option Stamp
stamp_outside zones lines = or_else (find is_early (all_stamps zones lines)) (find is_late (all_stamps zones lines))
