-- The periods of FREEBUSY lines are those of their entries with a class.
use Rattle.std.proofs.Common.{◌≡◌, ℕ, Bool, ◌||◌, List, [], ◌∷◌, ◌++◌, refl, ap, ◌∙◌}
use Rattle.std.specs.Prelude.{codes, map, flat_map, Option}
use Rattle.std.specs.List.{list_any}
use Rattle.std.proofs.lemmas.List.{map-append}
use Rattle.std.proofs.lemmas.List.Folds.{list_any-append}
use Rattle.cal_base.specs.declared.line.Line.{Line}
use Rattle.cal_moment.specs.declared.stamp.Period.{Period}
use Rattle.cal_model.specs.declared.object.Class.{Class}
use Rattle.cal_model.specs.Objects.ComponentLines.{all_of}
use Rattle.cal_model.specs.Objects.ComponentReading.{class_of, stored_busy_of}
use Rattle.cal_model.specs.Objects.LineValues.{periods_in, periods_at}
use Rattle.cal_model.proofs.Words.ListTests.{any_map}
use Rattle.cal_object.specs.Classes.{period_of_entry, busy_periods_in}

pub any_of_both : (p : Period → Bool) (periods : List Period) (busy : List (Option Class × Period)) →
    list_any p (periods ++ map period_of_entry busy) ≡ list_any p periods || list_any (λ (entry : Option Class × Period). p (period_of_entry entry)) busy
any_of_both p periods busy =
    list_any-append p periods (map period_of_entry busy) ∙ ap (λ b. list_any p periods || b) (any_map p period_of_entry busy)

-- the periods of one line stay as they are
periods_of_line : (class : Option Class) (periods : List Period) → map period_of_entry (map (λ period. (class, period)) periods) ≡ periods
periods_of_line class [] = refl
periods_of_line class (period ∷ periods) = ap (λ ps. period ∷ ps) (periods_of_line class periods)

periods_of_lines : (zones : List (List ℕ)) (lines : List Line) → map period_of_entry (flat_map (busy_periods_in zones) lines) ≡ flat_map (periods_in zones) lines
periods_of_lines zones [] = refl
periods_of_lines zones (line ∷ lines) =
    map-append period_of_entry (busy_periods_in zones line) (flat_map (busy_periods_in zones) lines)
    ∙ (ap (λ ps. ps ++ map period_of_entry (flat_map (busy_periods_in zones) lines)) (periods_of_line (class_of line) (periods_in zones line))
    ∙ ap (λ ps. periods_in zones line ++ ps) (periods_of_lines zones lines))

pub busy_periods : (zones : List (List ℕ)) (lines : List Line) → map period_of_entry (stored_busy_of zones lines) ≡ periods_at zones (codes "FREEBUSY") lines
busy_periods zones lines = periods_of_lines zones (all_of (codes "FREEBUSY") lines)
