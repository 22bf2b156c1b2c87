use Rattle.std.proofs.Common.{◌≡◌, ◌∙◌, Some, None, sym, ap, subst}
use Rattle.std.specs.Prelude.{slice_get, option_and_then}
use Rattle.cal_base.specs.Lists.NameMap.{next_above}
use Rattle.collections.specs.declared.home.KeptHome.{KeptHome}
use Rattle.collections.specs.Kept.{Kept}
use Rattle.collections.specs.Stores.{IsStore}
use Rattle.collections.proofs.LookLemmas.{next_calendar_some, next_calendar_none}
use Rattle.collections.proofs.shown_state.ShownState.calendar_after.Goals as goal

pub returns-in-Some : goal.returns-in-Some
returns-in-Some c =
    let store = subst IsStore c.self.view_is c.self.invariant in
    let at : option_and_then (λ (h : KeptHome). next_above h.calendars c.args.name.now) (slice_get c.args.self.now.homes c.args.home) ≡ Some (c.in-Some.name.now, c.in-Some.calendar.now) =
    sym (c.in-Some.ensures ∙ ap (λ homes. option_and_then (λ (h : KeptHome). next_above h.calendars c.args.name.now) (slice_get homes c.args.home)) (c.deref.ensures ∙ ap (λ (k : Kept). k.homes) c.self.view_is)) in
    ap (λ shown. Some (c.in-Some.name.now, shown)) c.data.ensures ∙ next_calendar_some c.args.self.now store c.args.home c.args.name.now c.in-Some.name.now c.in-Some.calendar.now at

pub returns-in-None : goal.returns-in-None
returns-in-None c =
    let store = subst IsStore c.self.view_is c.self.invariant in
    let at : option_and_then (λ (h : KeptHome). next_above h.calendars c.args.name.now) (slice_get c.args.self.now.homes c.args.home) ≡ None =
    sym (c.in-None.ensures ∙ ap (λ homes. option_and_then (λ (h : KeptHome). next_above h.calendars c.args.name.now) (slice_get homes c.args.home)) (c.deref.ensures ∙ ap (λ (k : Kept). k.homes) c.self.view_is)) in
    next_calendar_none c.args.self.now store c.args.home c.args.name.now at
