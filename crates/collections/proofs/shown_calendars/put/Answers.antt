use Rattle.std.proofs.Common.{◌≡◌, ◌∙◌, Some, refl, sym, ap}
use Rattle.std.proofs.lemmas.Result.{on_ok_weaker, on_err_weaker}
use Rattle.cal_base.specs.Lists.NameMap.{value_at}
use Rattle.cal_model.specs.declared.stored.Stored.{Stored}
use Rattle.collections.specs.Following.{in_calendars}
use Rattle.collections.specs.Homes.{with_object}
use Rattle.collections.proofs.ShownLemmas.{in_calendars_some, in_calendars_none, same_calendars}
use Rattle.collections.proofs.shown_calendars.put.Goals as goal

pub put-requires : goal.put-requires
put-requires c =
    let there : value_at c.args.calendars.now c.args.stored.now.path.calendar ≡ Some c.in-Some.calendar.now =
    sym (c.in-Some.ensures.value ∙ ap (value_at c.args.calendars.now) (c.as_slice.ensures ∙ ap (λ (s : Stored). s.path.calendar) c.deref.ensures)) in
    let placed = c.requires.calendars c.args.stored.now.path.calendar c.in-Some.calendar.now there in
    record { place = record { home_is = sym placed.0; calendar_is = sym placed.1; object_is = refl } }

pub returns-in-Some-clause-ok : goal.returns-in-Some-clause-ok
returns-in-Some-clause-ok c =
    let named = c.as_slice.ensures ∙ ap (λ (s : Stored). s.path.calendar) c.deref.ensures in
    let change = with_object c.args.stored.now.path.object (record { octets = c.args.stored.now.octets; origin = c.args.origin }) in
    on_ok_weaker c.put.result
    (λ e. in_calendars_some c.args.calendars.now c.as_slice.result.now change c.in-Some.calendar.now c.put.new.self (sym c.in-Some.ensures.value) e ∙ ap (λ name. in_calendars name change c.args.calendars.now) named)
    c.put.ensures.ok

pub returns-in-Some-clause-err : goal.returns-in-Some-clause-err
returns-in-Some-clause-err c =
    on_err_weaker c.put.result (λ e. same_calendars c.args.calendars.now c.as_slice.result.now c.in-Some.calendar.now c.put.new.self (sym c.in-Some.ensures.value) e) c.put.ensures.err

pub returns-in-None-clause-ok : goal.returns-in-None-clause-ok
returns-in-None-clause-ok c =
    let named = c.as_slice.ensures ∙ ap (λ (s : Stored). s.path.calendar) c.deref.ensures in
    let change = with_object c.args.stored.now.path.object (record { octets = c.args.stored.now.octets; origin = c.args.origin }) in
    in_calendars_none c.args.calendars.now c.as_slice.result.now change (sym c.in-None.ensures.value) ∙ ap (λ name. in_calendars name change c.args.calendars.now) named
