use Rattle.std.proofs.Common.{sym, subst}
use Rattle.std.specs.Prelude.{IfSome}
use Rattle.cal_model.specs.declared.stored.Stored.{Stored}
use Rattle.cal_model.specs.History.KeptChanges.{IsAtPlace}
use Rattle.collections.proofs.home.take_object.Goals as goal

pub returns-in-Some-clause-place : goal.returns-in-Some-clause-place
returns-in-Some-clause-place c number home =
    let placed = home.placed c.args.calendar.now c.in-Some.kept.now (sym c.in-Some.ensures.value) in
    subst (λ n. IfSome c.take.result (λ (stored : Stored). IsAtPlace n c.args.calendar.now c.args.name.now stored.path)) placed.0
    (subst (λ name. IfSome c.take.result (λ (stored : Stored). IsAtPlace c.in-Some.kept.now.home name c.args.name.now stored.path)) placed.1 c.take.ensures.place)
