use Rattle.std.proofs.Common.{◌≡◌, ℕ, ◌+◌, ◌<◌, false, take, slice_index_or}
use Rattle.cal_model.specs.Words.Integers.{some_names_place}
use Rattle.rrule_step.proofs.day_sets.year_table.Given as goal

-- the days of the numbers so far
abbrev pub invariant-loop-number : goal.invariant-loop-number
invariant-loop-number l = (i : ℕ) → i < l.size → slice_index_or l.table i false ≡ some_names_place (take l.number-index l.number-items) (i + 1) l.size
