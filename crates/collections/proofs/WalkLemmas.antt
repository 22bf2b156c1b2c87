-- The objects of a calendar that is kept, one after another: what is shown of them is the calendar's objects, and each is found by its own name, at its place.
use Rattle.std.proofs.Common.{◌≡◌, ℕ, List, [], ◌∷◌, map, Some, refl, sym, ap, ◌∙◌}
use Rattle.std.specs.Prelude.{Option, option_map}
use Rattle.std.specs.List.{AllByRecursion}
use Rattle.std.specs.Map.{keys_of, values_of}
use Rattle.std.proofs.lemmas.Cmp.{nat_list_cmp_total, eq_by_cmp_equiv}
use Rattle.std.proofs.lemmas.List.Elements.{recursion_from_All}
use Rattle.std.proofs.lemmas.Map.Keys.{IsDistinct-from_sorted}
use Rattle.std.proofs.lemmas.Map.Views.{lookup-from_Contains}
use Rattle.cal_base.specs.Lists.NameMap.{Named, name_order, IsInOrder, value_at}
use Rattle.cal_model.specs.declared.store.CalendarData.{CalendarData}
use Rattle.cal_model.specs.History.KeptChanges.{IsAtPlace}
use Rattle.cal_model.proofs.Words.ListTests.{each_of}
use Rattle.object_walk.specs.declared.entry.ObjectEntry.{ObjectEntry}
use Rattle.object_walk.specs.WalkedObjects.{AreInCalendar, HaveOriginsOf, named_octets}
use Rattle.collections.specs.Calendars.{kept_entry, shown_object, kept_with, IsShownCalendar}
use Rattle.collections.specs.KeptCalendars.{KeptObject, KeptCalendar, each_value}
use Rattle.collections.proofs.CalendarLemmas.{place_shown, object_shown}

-- each pair is found by its name
abbrev IsFound : Named ObjectEntry → List ℕ × ObjectEntry → Type 0
IsFound by_name pair = value_at by_name pair.0 ≡ Some pair.1

all_found : (by_name : Named ObjectEntry) → IsInOrder by_name → AllByRecursion (IsFound by_name) by_name
all_found by_name in_order =
    recursion_from_All (IsFound by_name) by_name (each_of (IsFound by_name) by_name
    (λ pair among. lookup-from_Contains (eq_by_cmp_equiv nat_list_cmp_total) pair.0 pair.1 by_name (IsDistinct-from_sorted name_order (keys_of by_name) in_order) among))

-- from pairs to their values
all_values : (P : ObjectEntry → Type 0) (Q : List ℕ × ObjectEntry → Type 0) → ((pair : List ℕ × ObjectEntry) → Q pair → P pair.1) → (pairs : Named ObjectEntry) → AllByRecursion Q pairs → AllByRecursion P (values_of pairs)
all_values P Q f [] all = tt
all_values P Q f (pair ∷ pairs) all = (f pair all.0, all_values P Q f pairs all.1)

values_shown : (Q : List ℕ × ObjectEntry → Type 0) → ((pair : List ℕ × ObjectEntry) → Q pair → pair.1.stored.path.object ≡ pair.0)
    → (pairs : Named ObjectEntry) → AllByRecursion Q pairs → map shown_object (values_of pairs) ≡ each_value kept_entry pairs
values_shown Q f [] all = refl
values_shown Q f (pair ∷ pairs) all = λ i. (f pair all.0 i, kept_entry pair.1) ∷ values_shown Q f pairs all.1 i

module _ (name : List ℕ) (kept : CalendarData) (by_name : Named ObjectEntry) (calendar : IsShownCalendar name kept by_name) (shown : KeptCalendar) (is : kept_with name kept by_name ≡ shown) where
  found : AllByRecursion (IsFound by_name) by_name
  found = all_found by_name calendar.names_in_order

  pub objects_shown : map shown_object (values_of by_name) ≡ shown.objects
  objects_shown = values_shown (IsFound by_name) (λ pair at. calendar.named pair.0 pair.1 at) by_name found ∙ ap (λ (k : KeptCalendar). k.objects) is

  pub objects_there : AllByRecursion (λ (entry : ObjectEntry). value_at shown.objects entry.stored.path.object ≡ Some (kept_entry entry)) (values_of by_name)
  objects_there = all_values (λ (entry : ObjectEntry). value_at shown.objects entry.stored.path.object ≡ Some (kept_entry entry)) (IsFound by_name)
      (λ pair at.
      sym (object_shown name kept by_name calendar shown is pair.1.stored.path.object)
      ∙ ap (option_map kept_entry) (ap (value_at by_name) (calendar.named pair.0 pair.1 at) ∙ at)) by_name found

  pub objects_placed : AreInCalendar shown.home shown.name (values_of by_name)
  objects_placed = all_values (λ (entry : ObjectEntry). IsAtPlace shown.home shown.name entry.stored.path.object entry.stored.path) (IsFound by_name)
      (λ pair at.
      let place = place_shown name kept by_name calendar shown is pair.0 pair.1 at in
      record { home_is = place.home_is; calendar_is = place.calendar_is; object_is = refl }) by_name found

-- The objects of a calendar of a store

abbrev octets_of : List ℕ × KeptObject → List ℕ × List ℕ
octets_of pair = (pair.0, pair.1.octets)

pub octets_walked : (entries : List ObjectEntry) (objects : Named KeptObject) → map shown_object entries ≡ objects → map named_octets entries ≡ each_value (λ (object : KeptObject). object.octets) objects
octets_walked entries objects is = twice entries ∙ ap (map octets_of) is where
  twice : (left : List ObjectEntry) → map named_octets left ≡ map octets_of (map shown_object left)
  twice [] = refl
  twice (entry ∷ left) = ap (λ rest. named_octets entry ∷ rest) (twice left)

pub origins_walked : (c : KeptCalendar) (origin_of : List ℕ → Option ℕ) → ((name : List ℕ) → option_map (λ (object : KeptObject). object.origin) (value_at c.objects name) ≡ origin_of name)
    → (entries : List ObjectEntry) → AllByRecursion (λ (entry : ObjectEntry). value_at c.objects entry.stored.path.object ≡ Some (kept_entry entry)) entries → HaveOriginsOf origin_of entries
origins_walked c origin_of known [] all = tt
origins_walked c origin_of known (entry ∷ entries) all =
    (sym (known entry.stored.path.object) ∙ ap (option_map (λ (object : KeptObject). object.origin)) all.0, origins_walked c origin_of known entries all.1)
