use Rattle.std.proofs.Common.{◌∙◌, ap, subst, Err, IfSome}
use Rattle.cal_script.specs.UsersTaken.{IsRefusedAt}
use Rattle.cal_script.proofs.command.run_script.Goals as goal

pub returns-in-Err-Line-clause-users_refused : goal.returns-in-Err-Line-clause-users_refused
returns-in-Err-Line-clause-users_refused g c = λ status.
    let refused = c.take_users.ensures.refused c.in-Err-Line.place (c.in-Err-Line.is ∙ ap (λ why. Err why) c.in-Err-Line.field-0-is) in
    rw c.in-Err-Line.field-0-is (subst (λ o. IfSome o (λ path. IfSome (g.F.Files.content c.args.files.now path) (λ octets. IsRefusedAt octets c.in-Err-Line.place))) c.in-Some.ensures
    (subst (λ path. IfSome (g.F.Files.content c.args.files.now path) (λ octets. IsRefusedAt octets c.in-Err-Line.place)) c.as_str.ensures refused))
