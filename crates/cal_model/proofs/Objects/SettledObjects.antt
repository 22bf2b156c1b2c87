-- What is known of an object as its lines say it is known of it once it is settled which components move later instances.
use Rattle.std.proofs.Common.{◌≡◌, ℕ, suc, ◌+◌, ◌<◌, List, [], ◌∷◌, length, map, refl, ap, arith, inl, inr}
use Rattle.std.specs.Prelude.{All, filter, not, Option}
use Rattle.std.proofs.lemmas.Bool.{cases_Bool}
use Rattle.std.proofs.lemmas.List.Elements.{All-map, All-weaker}
use Rattle.cal_moment.specs.declared.stamp.Stamp.{Stamp}
use Rattle.cal_model.specs.declared.object.Component.{Component}
use Rattle.cal_model.specs.declared.object.Object.{Object}
use Rattle.cal_model.specs.Instances.Rows.{Numbered, numbered_from, has_id, ids_start}
use Rattle.cal_model.specs.Objects.ObjectFacts.{IsChild, IsReadComponent, IsReadObject}
use Rattle.cal_model.specs.Objects.ObjectReading.{settled, settled_component}

component_settled : (object : Object) (component : Component) → IsReadComponent object component → IsReadComponent (settled object) (settled_component (ids_start object) component)
component_settled object component is = record {
  one_kind = is.one_kind;
  child = let child = is.child in record { node = child.node; found = child.found; of_kind = child.of_kind };
  few_rules = is.few_rules;
  usable_rules = is.usable_rules;
  known_zones = is.known_zones;
  served = is.served;
  short_extent = is.short_extent;
  forward_extent = is.forward_extent;
  short_periods = is.short_periods;
  timed_periods = is.timed_periods;
  short_busy = is.short_busy;
  alarms = is.alarms;
}

some_settled : (ids : Option Stamp) (components : List Component) → 0 < length components → 0 < length (map (settled_component ids) components)
some_settled ids [] some = some
some_settled ids (c ∷ cs) some = omega arith

masters_settled : (ids : Option Stamp) (n : ℕ) (components : List Component) →
    length (filter (λ (m : Numbered). not (has_id m)) (numbered_from n (map (settled_component ids) components))) ≡ length (filter (λ (m : Numbered). not (has_id m)) (numbered_from n components))
masters_settled ids n [] = refl
masters_settled ids n (c ∷ cs) = elim (cases_Bool (not (has_id (record { number = n; component = c })))) [
  | inl w ↦ rw w (ap suc (masters_settled ids (n + 1) cs))
  | inr w ↦ rw w (masters_settled ids (n + 1) cs)
]

pub IsReadObject-settled : (object : Object) → IsReadObject object → IsReadObject (settled object)
IsReadObject-settled object is = record {
  some = some_settled (ids_start object) object.components is.some;
  components = All-map (IsReadComponent (settled object)) (settled_component (ids_start object)) object.components
      (All-weaker (IsReadComponent object) (λ c. IsReadComponent (settled object) (settled_component (ids_start object) c)) (component_settled object) object.components is.components);
  zones = is.zones;
  one_master = let same = masters_settled (ids_start object) 0 object.components in rw same is.one_master;
  own_text = is.own_text;
}
