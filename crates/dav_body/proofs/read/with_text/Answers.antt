use Rattle.dav_body.specs.Kept.{kept_of}
use Rattle.dav_body.proofs.read.with_text.Goals as goal

pub returns-in-Ok-None-clause-stop : goal.returns-in-Ok-None-clause-stop
returns-in-Ok-None-clause-stop c texts = c.without_markup.ensures (kept_of c.args.progress) texts

pub returns-in-Some-clause-stop : goal.returns-in-Some-clause-stop
returns-in-Some-clause-stop c texts =
    c.in-Some.ensures.stop c.args.end (kept_of c.args.progress) (kept_of c.in_ok-after-in-Ok-Some.after) _ (rw c.in-Ok-Some.field-0-is at c.in-Ok-Some.ensures) c.in_ok-after-in-Ok-Some.ensures.step texts
