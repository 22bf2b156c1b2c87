-- The rows of components without a start, as components are counted from a number on.
use Rattle.std.specs.Prelude.{ℕ, ◌+◌, List, [], ◌∷◌, ◌++◌, is_none, if◌then◌else◌}
use Rattle.cal_model.specs.declared.object.Component.{Component}
use Rattle.cal_model.specs.declared.row.Row.{Row}
use Rattle.cal_model.specs.Instances.Rows.{own_start, undated_row}

abbrev pub undated_rows_of : ℕ → Component → List Row
undated_rows_of number c = if is_none (own_start c) then undated_row (record { number = number; component = c }) ∷ [] else []

abbrev pub undated_rows_from : ℕ → List Component → List Row
undated_rows_from number [] = []
undated_rows_from number (c ∷ cs) = undated_rows_of number c ++ undated_rows_from (number + 1) cs
