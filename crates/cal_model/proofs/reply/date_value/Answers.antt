use Rattle.std.proofs.Common.{arith, ◌≡◌, ◌∙◌, unsigned_abs}
use Rattle.std.proofs.lemmas.Int.{ints}
use Rattle.httpdate.specs.Date.{unix_secs}
use Rattle.cal_model.proofs.Replies.DateLemmas.{date_text_is_moment}
use Rattle.cal_model.proofs.reply.date_value.Goals as goal

pub returns-in-Ok : goal.returns-in-Ok
returns-in-Ok c =
    let d = c.in-Ok.date in
    let secs : unix_secs d ≡ unsigned_abs c.args.moment = omega (arith, ints, c.in-Ok.ensures.value) in
    c.to_bytes.ensures ∙ date_text_is_moment d _ secs
