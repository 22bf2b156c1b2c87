use Rattle.std.specs.Prelude.{codes}
use Rattle.cal_model.specs.Properties.PropertyValues.{grantee}
use Rattle.dav_write.proofs.Appending.{then_more, on_ok_then}
use Rattle.dav_props.proofs.access.push_ace_front.Goals as goal

pub returns-clause-text : goal.returns-clause-text
returns-clause-text g c =
    on_ok_then c.extend_from_slice-2.result
    (λ written.
    then_more c.args.out.now (codes "<D:ace><D:principal>") _ c.in_ok-extend_from_slice.ensures.ok
    (then_more _ (grantee (g.V.View.directory c.args.seen.now.view.now) c.args.who) (codes "</D:principal>") c.in_ok-push_grantee.ensures.text written))
    c.extend_from_slice-2.ensures.ok
