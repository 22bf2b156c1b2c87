use Rattle.std.proofs.Common.{[], sym, subst, ◌∙◌, length, rules, FitsSigned, w64, to_z-of_z}
use Rattle.std.proofs.lemmas.List.Elements.{All-cons, All-nil}
use Rattle.cal_model.specs.Instances.Starts.{own_start}
use Rattle.override_merge.specs.Conversions.{IsConvertible, IsConvertibleExtent, tables_of}
use Rattle.override_merge.proofs.StampLemmas.{own_start_convertible, convertible_some}
use Rattle.rrule_sets.specs.declared.governors.Governor.{Governor}
use Rattle.rrule_sets.specs.HeldGovernors.{IsMovable}
use Rattle.rrule_sets.proofs.DateStarts.{short_tables}
use Rattle.rrule_sets.proofs.GovernorLemmas.{meant_near}
use Rattle.rrule_sets.proofs.governors.governor_of.Goals as goal

pub governor_at-requires-clause-zone : goal.governor_at-requires-clause-zone
governor_at-requires-clause-zone c =
    let zones = length c.args.zones.now in
    (convertible_some zones (own_start c.args.component.now) c.in_ok-stamp.stamp (sym c.own_start.ensures ∙ c.in_ok-stamp.was) (own_start_convertible zones c.args.component.now c.requires.component)).zone

pub governor_at-requires-clause-near : goal.governor_at-requires-clause-near
governor_at-requires-clause-near c =
    let zones = length c.args.zones.now in
    (convertible_some zones (own_start c.args.component.now) c.in_ok-stamp.stamp (sym c.own_start.ensures ∙ c.in_ok-stamp.was) (own_start_convertible zones c.args.component.now c.requires.component)).near

pub governor_at-requires-clause-id : goal.governor_at-requires-clause-id
governor_at-requires-clause-id c =
    let zones = length c.args.zones.now in
    let its = convertible_some zones c.args.component.now.recurrence_id c.in_ok-name.name c.in_ok-name.was c.requires.component.id in
    let near = meant_near (tables_of c.args.zones.now) c.args.days.now (short_tables c.args.zones.now) c.requires.near c.in_ok-name.name c.args.ids its.near in
    let is = rw c.align.ensures.value at c.start_meant-id.ensures in
    let fits : FitsSigned w64 c.start_meant-id.result = search (rules, c.start_meant-id.type_inv) in
    simp to_z-of_z (rw is near)

pub returns-clause-movable : goal.returns-clause-movable
returns-clause-movable c =
    let zones = length c.args.zones.now in
    let value = c.governor_at.ensures.value in
    let its = convertible_some zones (own_start c.args.component.now) c.in_ok-stamp.stamp (sym c.own_start.ensures ∙ c.in_ok-stamp.was) (own_start_convertible zones c.args.component.now c.requires.component) in
    let is : IsMovable zones c.governor_at.result = record {
      stamp = subst (λ (g : Governor). IsConvertible zones g.stamp) (sym value) its;
      extent = subst (λ (g : Governor). IsConvertibleExtent zones g.extent) (sym value) c.requires.component.extent;
      moved = c.governor_at.ensures.moved;
    } in
    All-cons (IsMovable zones) c.governor_at.result [] is (All-nil (IsMovable zones))
