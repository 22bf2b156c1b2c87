use Rattle.std.proofs.Common.{sym}
use Rattle.std.proofs.lemmas.Result.{on_ok_weaker, on_err_weaker}
use Rattle.collections.specs.Homes.{with_grants}
use Rattle.collections.proofs.ShownLemmas.{in_calendars_some, in_calendars_none, same_calendars}
use Rattle.collections.proofs.shown_calendars.set_grants.Goals as goal

pub returns-in-Some-clause-ok : goal.returns-in-Some-clause-ok
returns-in-Some-clause-ok c =
    on_ok_weaker c.set_grants.result (λ e. in_calendars_some c.args.calendars.now c.args.name.now (with_grants c.args.grants.now) c.in-Some.calendar.now c.set_grants.new.self (sym c.in-Some.ensures.value) e) c.set_grants.ensures.ok

pub returns-in-Some-clause-err : goal.returns-in-Some-clause-err
returns-in-Some-clause-err c = on_err_weaker c.set_grants.result (λ e. same_calendars c.args.calendars.now c.args.name.now c.in-Some.calendar.now c.set_grants.new.self (sym c.in-Some.ensures.value) e) c.set_grants.ensures.err

pub returns-in-None-clause-ok : goal.returns-in-None-clause-ok
returns-in-None-clause-ok c = in_calendars_none c.args.calendars.now c.args.name.now (with_grants c.args.grants.now) (sym c.in-None.ensures.value)
