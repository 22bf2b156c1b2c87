use Rattle.std.proofs.Common.{◌∙◌, sym, ap, Result, Ok, Err}
use Rattle.cal_base.specs.Lines.ContentLines.{pieces}
use Rattle.cal_base.specs.Texts.Octets.{line_feed}
use Rattle.privileges.specs.LineReading.{read_on}
use Rattle.privileges.proofs.ReadingInOrder.{users_of-read_on}
use Rattle.privileges.proofs.reading.read_users.Goals as goal

pub returns-in-Ok-clause-users : goal.returns-in-Ok-clause-users
returns-in-Ok-clause-users c =
    sym (users_of-read_on c.args.octets.now)
    ∙ ap (λ users. read_on users 0 (pieces line_feed c.args.octets.now)) (sym c.new-users.ensures)
    ∙ c.in-Ok.ensures.users

-- a result whose value counts for nothing
abbrev without_value : {T E : Type 0} → Result T E → Result (Unit {0}) E
without_value (Ok value) = Ok tt
without_value (Err fault) = Err fault

pub returns-in-Err-clause-fault : goal.returns-in-Err-clause-fault
returns-in-Err-clause-fault c place is =
    sym (users_of-read_on c.args.octets.now)
    ∙ ap (λ users. read_on users 0 (pieces line_feed c.args.octets.now)) (sym c.new-users.ensures)
    ∙ c.in-Err.ensures.fault place (ap without_value is)
