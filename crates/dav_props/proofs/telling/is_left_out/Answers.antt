use Rattle.std.proofs.Common.{None, refl, ap, ◌∙◌}
use Rattle.cal_model.specs.Properties.PropertyTable.{Answer, answer}
use Rattle.dav_props.specs.Finding.{asking}
use Rattle.dav_props.specs.Rows.{asked_name}
use Rattle.dav_props.specs.Subjects.{resource_of}
use Rattle.dav_props.proofs.TellingLemmas.{answered_is, left_out_by, shown_none}
use Rattle.dav_props.proofs.telling.is_left_out.Goals as goal

pub returns-in-Every : goal.returns-in-Every
returns-in-Every c directory who unseen users = rw c.in-Every.is refl

pub returns-in_default : goal.returns-in_default
returns-in_default c directory who unseen users =
    let asked = c.args.asked.now in
    left_out_by c.args.telling (answer (asking directory who) (resource_of c.args.subject.now unseen) (asked_name asked)) c.status_of.result c.in_default.not-Every
    (c.status_of.ensures directory who None unseen users (shown_none asked.row) ∙ ap (λ (b : Answer). b.status) (answered_is directory who asked c.args.subject.now unseen c.requires))
