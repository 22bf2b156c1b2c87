use Rattle.std.proofs.Common.{◌∙◌, ℕ, List, ap, sym, subst}
use Rattle.std.specs.Prelude.{option_map}
use Rattle.cal_model.specs.declared.stored.Stored.{Stored}
use Rattle.collections.specs.KeptCalendars.{KeptCalendar, calendar_of}
use Rattle.collections.specs.UidHolders.{with_uid, IsAloneWith}
use Rattle.collections.proofs.CalendarLemmas.{holder_of_uid, alone_with, copied, octets_in_order}
use Rattle.collections.proofs.calendar.CalendarStore.uid_holder.Goals as goal

pub returns-clause-object : goal.returns-clause-object
returns-clause-object c =
    let shown : Stored → List ℕ × List ℕ = λ (s : Stored). (s.path.object, s.octets) in
    copied shown c.get.result
    ∙ (ap (option_map shown) c.get.ensures
    ∙ (sym (holder_of_uid c.self.inside.by_name c.self.inside.by_uid c.self.invariant.indexed c.args.uid.now (octets_in_order c.self.inside.by_name c.self.invariant.indexed.names_in_order))
    ∙ ap (λ (k : KeptCalendar). with_uid (calendar_of k).objects c.args.uid.now) c.self.view_is))

pub returns-clause-alone : goal.returns-clause-alone
returns-clause-alone c =
    subst (λ (k : KeptCalendar). IsAloneWith (calendar_of k).objects c.args.uid.now) c.self.view_is (alone_with c.self.inside.by_name c.self.inside.by_uid c.self.invariant.indexed c.args.uid.now)
