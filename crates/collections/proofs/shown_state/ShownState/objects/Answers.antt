use Rattle.std.proofs.Common.{◌≡◌, ◌∙◌, Some, None, sym, ap, subst, map}
use Rattle.object_walk.specs.WalkedObjects.{AreInCalendar, HaveOriginsOf, named_octets}
use Rattle.collections.specs.Kept.{Kept, kept_calendar, origins_of}
use Rattle.collections.specs.Stores.{IsStore}
use Rattle.collections.proofs.LookLemmas.{kept_placed, objects_some, objects_none, origin_some}
use Rattle.collections.proofs.WalkLemmas.{octets_walked, origins_walked}
use Rattle.collections.proofs.shown_state.ShownState.objects.Goals as goal

pub returns-in-Some : goal.returns-in-Some
returns-in-Some c =
    let store = subst IsStore c.self.view_is c.self.invariant in
    let calendar = c.in-Some.calendar.now in
    let at : kept_calendar c.args.self.now.homes c.args.home c.args.calendar.now ≡ Some calendar = sym (c.in-Some.ensures ∙ ap (λ homes. kept_calendar homes c.args.home c.args.calendar.now) (c.deref.ensures ∙ ap (λ (k : Kept). k.homes) c.self.view_is)) in
    let placed = kept_placed c.args.self.now.homes c.args.home c.args.calendar.now calendar store.homes at in
    record {
      octets = octets_walked c.objects.result calendar.objects c.objects.ensures.objects ∙ objects_some c.args.self.now store c.args.home c.args.calendar.now calendar at;
      origins = origins_walked calendar (origins_of c.args.self.now c.args.home c.args.calendar.now) (λ name. origin_some c.args.self.now store c.args.home c.args.calendar.now name calendar at) c.objects.result c.objects.ensures.there;
      places = subst (λ home. AreInCalendar home c.args.calendar.now c.objects.result) placed.0 (subst (λ name. AreInCalendar calendar.home name c.objects.result) placed.1 c.objects.ensures.places);
      sound = store.sound;
    }

pub returns-in-None : goal.returns-in-None
returns-in-None c =
    let store = subst IsStore c.self.view_is c.self.invariant in
    let at : kept_calendar c.args.self.now.homes c.args.home c.args.calendar.now ≡ None = sym (c.in-None.ensures ∙ ap (λ homes. kept_calendar homes c.args.home c.args.calendar.now) (c.deref.ensures ∙ ap (λ (k : Kept). k.homes) c.self.view_is)) in
    record {
      octets = ap (map named_octets) c.empty.ensures ∙ objects_none c.args.self.now store c.args.home c.args.calendar.now at;
      origins = subst (HaveOriginsOf (origins_of c.args.self.now c.args.home c.args.calendar.now)) (sym c.empty.ensures) tt;
      places = subst (AreInCalendar c.args.home c.args.calendar.now) (sym c.empty.ensures) tt;
      sound = store.sound;
    }
