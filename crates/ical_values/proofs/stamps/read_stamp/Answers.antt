use Rattle.std.proofs.Common.{sym, ◌∙◌}
use Rattle.ical_values.specs.Forms.{stamp_by, stamp_by_value}
use Rattle.ical_values.proofs.ReadLines.{bad_by_values, no_value}
use Rattle.ical_values.proofs.stamps.read_stamp.Goals as goal

pub returns-in-Err-clause-bad : goal.returns-in-Err-clause-bad
returns-in-Err-clause-bad c =
    let zones = c.args.zones.now in
    let line = c.args.line.now in
    bad_by_values (stamp_by c.stamp_form.result) (stamp_by_value zones line) c.stamp_form.ensures line.value c.in-Err.fault.place (rw c.as_slice.ensures at c.in-Err.ensures.bad)

pub returns-in-Err-clause-outside : goal.returns-in-Err-clause-outside
returns-in-Err-clause-outside c =
    let line = c.args.line.now in
    sym (c.stamp_form.ensures line.value) ∙ no_value (stamp_by c.stamp_form.result) line.value (rw c.as_slice.ensures at c.in-Err.ensures.bad).outside
