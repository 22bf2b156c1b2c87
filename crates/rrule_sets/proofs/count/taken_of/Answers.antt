use Rattle.std.proofs.Common.{length}
use Rattle.override_merge.proofs.MergeLemmas.{zones_count}
use Rattle.rrule_sets.specs.CountedRows.{IsTakenFrom}
use Rattle.rrule_sets.specs.declared.count.Taken.{Taken}
use Rattle.rrule_sets.proofs.CountLemmas.{master_expandable, master_zone, searchable}
use Rattle.rrule_sets.proofs.count.taken_of.Goals as goal

pub component_exceptions-requires-clause-stamp : goal.component_exceptions-requires-clause-stamp
component_exceptions-requires-clause-stamp g c =
    rw (zones_count c.args.zones.now c.args.object.now.zones c.requires.zones) (master_zone c.args.object.now c.args.component.now c.args.stamp c.requires.object.components c.requires.master c.requires.own)

pub component_exceptions-requires-clause-except : goal.component_exceptions-requires-clause-except
component_exceptions-requires-clause-except g c =
    rw (zones_count c.args.zones.now c.args.object.now.zones c.requires.zones) (master_expandable c.args.object.now c.args.component.now c.requires.object.components c.requires.master).except

pub names_of_overrides-requires-clause-ids : goal.names_of_overrides-requires-clause-ids
names_of_overrides-requires-clause-ids g c =
    rw (zones_count c.args.zones.now c.args.object.now.zones c.requires.zones) (master_zone c.args.object.now c.args.component.now c.args.stamp c.requires.object.components c.requires.master c.requires.own)

pub returns : goal.returns
returns g c =
    let object = c.args.object.now in
    let taken : Taken = record { excepted = c.in_ok-excepted.excepted; named = c.in_ok-named.named; governors = c.in_ok-governors.governors } in
    let is : IsTakenFrom object c.args.stamp c.args.component.now taken = record {
      excepted = rw c.requires.zones at c.in_ok-excepted.ensures;
      named = rw (c.requires.zones, c.as_slice.ensures) at c.in_ok-named.ensures;
      held = c.in_ok-governors.ensures.held;
    } in
    record {
      taken = is;
      searchable = searchable object c.args.stamp c.args.component.now (length c.args.zones.now) taken is c.in_ok-governors.ensures.movable;
    }
