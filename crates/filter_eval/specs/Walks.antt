-- What is left of the rows of a component, and of the components that are one child, from a place on.
use Rattle.std.specs.Prelude.{ℕ, ◌==◌, List, filter, drop}
use Rattle.cal_model.specs.declared.row.Row.{Row}
use Rattle.cal_model.specs.Instances.Rows.{Numbered, numbered}
use Rattle.filter_eval.specs.declared.subject.Subject.{Subject}

abbrev pub rows_from : Subject → ℕ → ℕ → List Row
rows_from subject number place = filter (λ (row : Row). row.component == number) (drop place subject.rows.now)

abbrev pub components_from : Subject → ℕ → ℕ → List Numbered
components_from subject child place = filter (λ (n : Numbered). n.component.child == child) (drop place (numbered subject.object.now))
