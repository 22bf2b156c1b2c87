use Rattle.std.proofs.Common.{sym}
use Rattle.dav_props.specs.Rows.{asked_name}
use Rattle.dav_props.proofs.StatusLemmas.{status_by}
use Rattle.dav_props.proofs.answers.status_of.Goals as goal

pub returns-then-is_there : goal.returns-then-is_there
returns-then-is_there c =
    λ directory who shown unseen users here.
    let columns = c.columns_of-columns.ensures (asked_name c.args.asked.now) in
    status_by directory who shown unseen c.args.asked.now c.args.subject.now users here _ _ _ _ _ columns (c.is_on-on.ensures unseen) (sym (c.held_on.ensures.seen unseen)) c.has_all-held.ensures c.is_there.ensures c.if-not-on.false c.if-not-held.false c.if-is_there.true
