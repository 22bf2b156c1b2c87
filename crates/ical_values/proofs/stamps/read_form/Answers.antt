use Rattle.std.proofs.Common.{sym, subst}
use Rattle.std.specs.Prelude.{IfErr}
use Rattle.cal_moment.specs.BadPlace.{IsBadAt}
use Rattle.cal_moment.specs.declared.stamp.Bad.{Bad}
use Rattle.cal_model.specs.Values.BadValues.{Reads}
use Rattle.ical_values.specs.declared.stamps.StampForm.{StampForm}
use Rattle.ical_values.specs.Forms.{stamp_by}
use Rattle.ical_values.proofs.stamps.read_form.Goals as goal

pub returns-in-Time-clause-bad : goal.returns-in-Time-clause-bad
returns-in-Time-clause-bad c =
    subst (λ (form : StampForm). IfErr c.read_time.result (λ (fault : Bad). IsBadAt (Reads (stamp_by form)) c.args.text.now fault.place)) (sym c.in-Time.is) c.read_time.ensures.bad
