use Rattle.std.proofs.Common.{Ok, Err, sym, ap, ◌∙◌, arith}
use Rattle.cal_base.specs.Lines.ContentLines.{pieces}
use Rattle.cal_base.specs.Texts.Octets.{space}
use Rattle.privileges.proofs.NamedGroups.{with_named-found, with_named-lost}
use Rattle.privileges.proofs.reading.add_group.Goals as goal

pub returns-in_ok-add_group-in-Some-clause-users : goal.returns-in_ok-add_group-in-Some-clause-users
returns-in_ok-add_group-in-Some-clause-users c =
    with_named-found c.args.users.now c.args.place c.args.name.now (pieces space c.args.members.now) c.in-Some.members c.len-count.ensures.told c.len-count.ensures.few
    (omega (arith, c.groups.ensures.count)) (sym c.is_taken.ensures ∙ c.if-is_taken.false) (sym c.in-Some.ensures)
    ∙ ap Ok (sym c.in_ok-add_group-in-Some.ensures.ok)

pub returns-in-None-clause-fault : goal.returns-in-None-clause-fault
returns-in-None-clause-fault c = λ at is.
    with_named-lost c.args.users.now c.args.place c.args.name.now (pieces space c.args.members.now) c.len-count.ensures.few (sym c.in-None.ensures) ∙ ap Err cc
