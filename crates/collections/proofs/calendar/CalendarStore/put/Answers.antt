use Rattle.std.proofs.Common.{◌≡◌, ◌∙◌, None, ap, sym, subst}
use Rattle.std.proofs.lemmas.Result.{on_ok_weaker}
use Rattle.object_walk.specs.declared.entry.ObjectEntry.{ObjectEntry}
use Rattle.collections.specs.KeptCalendars.{KeptCalendar, calendar_of}
use Rattle.cal_model.specs.Refusals.Preconditions.{holder}
use Rattle.collections.proofs.CalendarLemmas.{alone_from_free, placed_after_put, put_shown}
use Rattle.collections.proofs.calendar.CalendarStore.put.Goals as goal

pub put_object-requires-clause-alone : goal.put_object-requires-clause-alone
put_object-requires-clause-alone c =
    alone_from_free c.self.inside.by_name c.self.invariant.indexed.names_in_order c.args.stored.now
    (subst (λ (k : KeptCalendar). holder (calendar_of k).objects c.args.stored.now.path.object c.args.stored.now.octets ≡ None) (sym c.self.view_is) c.requires.alone)

pub invariant_of-self : goal.invariant_of-self
invariant_of-self c = record {
  zone = c.self.invariant.zone;
  set = c.self.invariant.set;
  in_order = c.self.invariant.in_order;
  indexed = c.put_object.ensures.indexed;
  placed =
      placed_after_put c.self.inside.kept.owner c.self.inside.name c.self.inside.by_name c.put_object.new.by_name (record { stored = c.args.stored.now; origin = c.args.origin }) c.put_object.result c.put_object.ensures.ok c.put_object.ensures.err c.self.invariant.placed
      (c.requires.place.home_is ∙ sym (ap (λ (k : KeptCalendar). k.home) c.self.view_is)) (c.requires.place.calendar_is ∙ sym (ap (λ (k : KeptCalendar). k.name) c.self.view_is));
}

pub returns-clause-ok : goal.returns-clause-ok
returns-clause-ok c =
    let entry : ObjectEntry = record { stored = c.args.stored.now; origin = c.args.origin } in
    on_ok_weaker c.put_object.result (put_shown c.self.inside.name c.self.inside.kept c.self.inside.by_name c.put_object.new.by_name c.args.self.now c.self.view_is c.args.stored.now.path.object entry) c.put_object.ensures.ok
