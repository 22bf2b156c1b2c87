use Rattle.std.proofs.Common.{◌∙◌, List, subst, sym}
use Rattle.std.specs.Prelude.{IfOk}
use Rattle.cal_model.specs.Instances.Rows.{Governor, starts}
use Rattle.cal_model.specs.Recurrence.RecurrenceSet.{every_moment}
use Rattle.override_merge.proofs.MergeLemmas.{zones_count}
use Rattle.rrule_sets.specs.HeldGovernors.{HoldsGovernors, days_of_movers}
use Rattle.rrule_sets.proofs.CountLemmas.{master_expandable, master_zone}
use Rattle.rrule_sets.proofs.NamedDays.{first_rows_near, governors-first, holds_none}
use Rattle.rrule_sets.proofs.count.governors_of.Goals as goal

pub returns-then-not-has_future-clause-held : goal.returns-then-not-has_future-clause-held
returns-then-not-has_future-clause-held g c =
    let none = rw c.as_slice-components.ensures at (sym c.has_future.ensures ∙ c.if-not-has_future.true) in
    rw c.new.ensures (holds_none c.args.object.now c.args.stamp (starts every_moment c.args.object.now) none)

pub first_rows-requires-clause-component : goal.first_rows-requires-clause-component
first_rows-requires-clause-component g c =
    rw (zones_count c.args.zones.now c.args.object.now.zones c.requires.zones) (master_expandable c.args.object.now c.args.component.now c.requires.object.components c.requires.master)

pub first_rows-requires-clause-stamp : goal.first_rows-requires-clause-stamp
first_rows-requires-clause-stamp g c =
    rw (zones_count c.args.zones.now c.args.object.now.zones c.requires.zones) (master_zone c.args.object.now c.args.component.now c.args.stamp c.requires.object.components c.requires.master c.requires.own)

pub first_rows-requires-clause-components : goal.first_rows-requires-clause-components
first_rows-requires-clause-components g c =
    rw (c.as_slice-components.ensures, zones_count c.args.zones.now c.args.object.now.zones c.requires.zones) c.requires.object.rows.components

pub governors_beside-requires-clause-ids : goal.governors_beside-requires-clause-ids
governors_beside-requires-clause-ids g c =
    rw (zones_count c.args.zones.now c.args.object.now.zones c.requires.zones) (master_zone c.args.object.now c.args.component.now c.args.stamp c.requires.object.components c.requires.master c.requires.own)

pub governors_beside-requires-clause-near : goal.governors_beside-requires-clause-near
governors_beside-requires-clause-near g c =
    let object = c.args.object.now in
    let found = rw (c.requires.zones, c.as_slice-components.ensures) at c.in_ok-firsts.ensures in
    rw (c.as_slice.ensures, found) (first_rows_near object c.args.stamp c.args.component.now c.requires.object.read c.requires.master (days_of_movers object.zones c.args.stamp object.components))

pub returns-clause-held : goal.returns-clause-held
returns-clause-held g c =
    let object = c.args.object.now in
    let found = rw (c.requires.zones, c.as_slice-components.ensures) at c.in_ok-firsts.ensures in
    let rows = c.as_slice.ensures ∙ found in
    let told = rw rows at c.governors_beside.ensures.held in
    subst (λ (all : List Governor). IfOk c.governors_beside.result (HoldsGovernors object.zones all)) (governors-first object c.args.stamp c.args.component.now c.requires.master) told
