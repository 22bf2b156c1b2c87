-- What the lines of a component say of its further instances (RFC 5545, 3.8.5), as one value.
use Rattle.std.specs.Prelude.{ℕ, List, codes}
use Rattle.cal_base.specs.declared.line.Line.{Line}
use Rattle.cal_model.specs.Objects.LineValues.{rules_of, stamps_at, periods_at}
use Rattle.cal_object.specs.declared.component.Recurrence.{Recurrence}

abbrev pub recurrence_of : List (List ℕ) → List Line → Recurrence
recurrence_of zones lines = record {
  rules = rules_of lines;
  dates = stamps_at zones (codes "RDATE") lines;
  periods = periods_at zones (codes "RDATE") lines;
  except = stamps_at zones (codes "EXDATE") lines;
}
