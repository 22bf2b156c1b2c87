use Rattle.std.proofs.Common.{Some, None, inl, inr, refl}
use Rattle.cal_script.proofs.SlotLemmas.{next_is, taken}
use Rattle.cal_script.proofs.slots.claimed.Goals as goal

pub returns-in-Ok-Some-clause-turn : goal.returns-in-Ok-Some-clause-turn
returns-in-Ok-Some-clause-turn g c =
    let next = next_is (g.B.Desk.book c.args.desk.now).work c.in-Ok-Some.field-0 (Some c.in-Ok-Some.claim) c.in-Ok-Some.field-0-is c.in-Ok-Some.ensures.pair in
    inl (taken _ _ c.in-Ok-Some.field-0 c.in-Ok-Some.claim c.in-Ok-Some.field-0-is next c.in-Ok-Some.ensures.of_book (rw next at c.in-Ok-Some.ensures.work))

pub returns-in-Ok-None-clause-turn : goal.returns-in-Ok-None-clause-turn
returns-in-Ok-None-clause-turn g c =
    let next = next_is (g.B.Desk.book c.args.desk.now).work c.in-Ok-None.field-0 None c.in-Ok-None.field-0-is c.in-Ok-None.ensures.pair in
    inr (refl, rw next at c.in-Ok-None.ensures.work)
