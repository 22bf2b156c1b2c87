use Rattle.std.proofs.Common.{◌≡◌, ◌∙◌, Some, ap}
use Rattle.std.specs.Prelude.{option_map}
use Rattle.cal_base.specs.Lists.NameMap.{value_at}
use Rattle.cal_model.specs.declared.stored.Stored.{Stored}
use Rattle.cal_model.specs.History.KeptChanges.{IsAtPlace}
use Rattle.collections.specs.KeptCalendars.{KeptObject}
use Rattle.collections.proofs.CalendarLemmas.{without_index, place_shown, object_shown, placed_left, taken_shown, octets_taken, place_taken, there_or_not}
use Rattle.collections.proofs.calendar.CalendarStore.take.Goals as goal

pub invariant_of-self : goal.invariant_of-self
invariant_of-self c = record {
  zone = c.self.invariant.zone;
  set = c.self.invariant.set;
  in_order = c.self.invariant.in_order;
  indexed = c.take_object.ensures.indexed;
  placed = rw c.take_object.ensures.rest (placed_left c.self.inside.kept.owner c.self.inside.name c.self.inside.by_name c.args.name.now c.self.invariant.indexed.names_in_order c.self.invariant.placed);
}

pub returns-clause-octets : goal.returns-clause-octets
returns-clause-octets c =
    ap (option_map (λ (stored : Stored). stored.octets)) c.take_object.ensures.object
    ∙ (octets_taken (value_at c.self.inside.by_name c.args.name.now)
    ∙ ap (option_map (λ (object : KeptObject). object.octets)) (object_shown c.self.inside.name c.self.inside.kept c.self.inside.by_name (without_index c.self.invariant) c.args.self.now c.self.view_is c.args.name.now))

pub returns-clause-place : goal.returns-clause-place
returns-clause-place c =
    rw c.take_object.ensures.object
    (place_taken (value_at c.self.inside.by_name c.args.name.now) (λ entry. value_at c.self.inside.by_name c.args.name.now ≡ Some entry) (λ (stored : Stored). IsAtPlace c.args.self.now.home c.args.self.now.name c.args.name.now stored.path)
    (λ entry at. place_shown c.self.inside.name c.self.inside.kept c.self.inside.by_name (without_index c.self.invariant) c.args.self.now c.self.view_is c.args.name.now entry at)
    (there_or_not (value_at c.self.inside.by_name c.args.name.now)))

pub returns-clause-rest : goal.returns-clause-rest
returns-clause-rest c =
    taken_shown c.self.inside.name c.self.inside.kept c.self.inside.by_name c.take_object.new.by_name c.args.self.now c.self.view_is c.args.name.now c.take_object.ensures.rest
