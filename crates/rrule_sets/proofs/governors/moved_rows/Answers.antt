use Rattle.std.proofs.Common.{◌∙◌, sym, map}
use Rattle.cal_model.specs.declared.row.Row.{Row}
use Rattle.rrule_sets.proofs.GovernorLemmas.{none_later, stand_in-none}
use Rattle.rrule_sets.proofs.governors.moved_rows.Goals as goal

pub returns-else-has_future : goal.returns-else-has_future
returns-else-has_future c =
    let none = rw c.as_slice.ensures at (sym c.has_future.ensures ∙ c.if-has_future.false) in
    sym (stand_in-none c.args.object.now c.args.ids (map (λ (r : Row). r.id) c.args.rows) c.args.rows (none_later c.args.object.now none))
