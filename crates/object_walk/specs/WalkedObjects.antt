-- The objects of a calendar with their origins, one after another.
-- Given: some of them, or a state. Gives: their names and octets; which objects a state has in a calendar; and that the origins and the places are the right ones.
use Rattle.std.specs.Prelude.{◌≡◌, ℕ, List, flat_map, option_to_list, Option, Some}
use Rattle.std.specs.Borrow.{Bor}
use Rattle.std.specs.List.{AllByRecursion}
use Rattle.cal_base.specs.Lists.NameMap.{Named}
use Rattle.cal_model.specs.declared.stored.Stored.{Stored}
use Rattle.cal_model.specs.History.KeptChanges.{IsAtPlace}
use Rattle.cal_model.specs.State.ServerState.{Calendar, ServerState, calendar_at}
use Rattle.object_walk.specs.declared.entry.ObjectEntry.{ObjectEntry}

-- an object that is lent, with its origin
abbrev pub lent : Bor Stored × ℕ → ObjectEntry
lent pair = record { stored = pair.0.now; origin = pair.1 }

-- the name of an object, and its octets
abbrev pub named_octets : ObjectEntry → List ℕ × List ℕ
named_octets entry = (entry.stored.path.object, entry.stored.octets)

-- the objects of a calendar, by their names; none where it is not there
abbrev pub objects_at : ServerState → ℕ → List ℕ → Named (List ℕ)
objects_at state home calendar = flat_map (λ (c : Calendar). c.objects) (option_to_list (calendar_at state home calendar))

-- each has the origin that its name has
abbrev pub HaveOriginsOf : (List ℕ → Option ℕ) → List ObjectEntry → Type 0
HaveOriginsOf origin_of = AllByRecursion (λ (entry : ObjectEntry). origin_of entry.stored.path.object ≡ Some entry.origin)

-- each stands in the calendar, at its own name
abbrev pub AreInCalendar : ℕ → List ℕ → List ObjectEntry → Type 0
AreInCalendar home calendar = AllByRecursion (λ (entry : ObjectEntry). IsAtPlace home calendar entry.stored.path.object entry.stored.path)
