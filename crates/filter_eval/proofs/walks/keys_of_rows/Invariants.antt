use Rattle.std.proofs.Common.{◌≡◌, take}
use Rattle.filter_eval.specs.Places.{row_keys}
use Rattle.filter_eval.proofs.walks.keys_of_rows.Given as goal

-- the numbers of the rows so far
abbrev pub invariant-rows : goal.invariant-rows
invariant-rows l = l.keys ≡ row_keys (take l.row-index l.rows)
