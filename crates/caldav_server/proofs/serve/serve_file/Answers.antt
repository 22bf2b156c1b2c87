use Rattle.std.proofs.Common.{◌∙◌, ap, Err}
use Rattle.caldav_server.proofs.serve.serve_file.Goals as goal

pub returns-in-Err-Line-clause-users_refused : goal.returns-in-Err-Line-clause-users_refused
returns-in-Err-Line-clause-users_refused g c = λ status.
    rw c.in-Err-Line.field-0-is (c.take_users.ensures.refused c.in-Err-Line.place (c.in-Err-Line.is ∙ ap (λ why. Err why) c.in-Err-Line.field-0-is))
