use Rattle.std.proofs.Common.{◌≡◌, rules, true}
use Rattle.cal_model.specs.Serving.Outcomes.{is_reading}
use Rattle.cal_book.proofs.looking.look_for.Goals as goal

pub returns-in-Ok-clause-at : goal.returns-in-Ok-clause-at
returns-in-Ok-clause-at c spare =
    let reading : is_reading c.args.event.now.request.method ≡ true = search rules in
    c.in-Ok.ensures.at spare c.args.event.now reading
