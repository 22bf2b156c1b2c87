use Rattle.std.proofs.Common.{◌∙◌, sym, length, rules, FitsSigned, w32, to_z-of_z}
use Rattle.std.specs.Prelude.{option_to_list}
use Rattle.cal_model.specs.Instances.Starts.{own_start}
use Rattle.override_merge.specs.Conversions.{tables_of}
use Rattle.override_merge.proofs.StampLemmas.{own_start_convertible, convertible_some}
use Rattle.rrule_sets.proofs.DateStarts.{short_tables}
use Rattle.rrule_sets.proofs.MovedLemmas.{ends-moved, has-moved, near_name}
use Rattle.rrule_sets.proofs.moved.moved_digits_of.Goals as goal

pub digits_of_name-requires-clause-stamp : goal.digits_of_name-requires-clause-stamp
digits_of_name-requires-clause-stamp c =
    let zones = length c.args.zones.now in
    convertible_some zones (own_start c.args.component.now) c.in_ok-stamp.stamp (sym c.own_start.ensures ∙ c.in_ok-stamp.was) (own_start_convertible zones c.args.component.now c.requires.component)

pub digits_of_name-requires-clause-name : goal.digits_of_name-requires-clause-name
digits_of_name-requires-clause-name c =
    let its = convertible_some (length c.args.zones.now) c.args.component.now.recurrence_id c.in_ok-name.name c.in_ok-name.was c.requires.component.id in
    rw c.align.ensures.value (near_name (tables_of c.args.zones.now) (short_tables c.args.zones.now) c.in_ok-name.name c.args.ids its.near)

pub returns-clause-moved : goal.returns-clause-moved
returns-clause-moved c =
    let fits : FitsSigned w32 c.args.window = search rules in
    let is = simp to_z-of_z at (rw c.align.ensures.value at c.digits_of_name.ensures) in
    has-moved (tables_of c.args.zones.now) c.args.ids c.args.window c.args.component.now c.in_ok-stamp.stamp c.in_ok-name.name (option_to_list c.digits_of_name.result) c.if-not-component.false (sym c.own_start.ensures ∙ c.in_ok-stamp.was) c.in_ok-name.was is

pub returns-clause-least : goal.returns-clause-least
returns-clause-least c =
    let fits : FitsSigned w32 c.args.window = search rules in
    let is = simp to_z-of_z at (rw c.align.ensures.value at c.digits_of_name.ensures) in
    ends-moved (tables_of c.args.zones.now) c.args.ids c.args.window c.args.component.now c.in_ok-stamp.stamp c.in_ok-name.name (option_to_list c.digits_of_name.result) c.if-not-component.false (sym c.own_start.ensures ∙ c.in_ok-stamp.was) c.in_ok-name.was is
