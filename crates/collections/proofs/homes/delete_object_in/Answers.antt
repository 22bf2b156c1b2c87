use Rattle.std.proofs.Common.{◌≡◌, ◌∙◌, Some, sym, ap}
use Rattle.std.specs.Prelude.{slice_get, slice_set, option_map, option_and_then}
use Rattle.cal_base.specs.Lists.NameMap.{value_at}
use Rattle.collections.specs.KeptCalendars.{KeptObject, KeptCalendar}
use Rattle.collections.specs.Homes.{in_calendar, without_object}
use Rattle.collections.proofs.HomesLemmas.{in_home_some, home_lent, home_not_lent, calendar_none}
use Rattle.collections.proofs.homes.delete_object_in.Goals as goal

pub returns-in-Some-clause-place : goal.returns-in-Some-clause-place
returns-in-Some-clause-place c =
    let there : slice_get c.args.homes.now.items c.args.home ≡ Some c.in-Some.home.now = home_lent c.args.homes.now.items c.args.home c.in-Some.home.now c.in-Some.ensures.item.3.0 c.in-Some.ensures.value in
    c.take_object.ensures.place c.args.home (c.requires.homes c.args.home c.in-Some.home.now there)

pub returns-in-Some-clause-rest : goal.returns-in-Some-clause-rest
returns-in-Some-clause-rest c =
    let there : slice_get c.args.homes.now.items c.args.home ≡ Some c.in-Some.home.now = home_lent c.args.homes.now.items c.args.home c.in-Some.home.now c.in-Some.ensures.item.3.0 c.in-Some.ensures.value in
    ap (slice_set c.args.homes.now.items c.args.home) c.take_object.ensures.rest
    ∙ sym (in_home_some c.args.homes.now.items c.args.home (in_calendar c.args.calendar.now (without_object c.args.name.now)) c.in-Some.home.now there)

pub returns-in-None-clause-octets : goal.returns-in-None-clause-octets
returns-in-None-clause-octets c =
    let gone = home_not_lent c.args.homes.now.items c.args.home (sym c.in-None.ensures.item.0) in
    sym (ap (λ found. option_map (λ (object : KeptObject). object.octets) (option_and_then (λ (kept : KeptCalendar). value_at kept.objects c.args.name.now) found)) (calendar_none c.args.homes.now.items c.args.home c.args.calendar.now gone))
