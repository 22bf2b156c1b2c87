-- The stamps beside which the ids of an object may be aligned, component by component.
use Rattle.std.specs.Prelude.{List, [], flat_map, option_to_list, is_some, if◌then◌else◌}
use Rattle.cal_moment.specs.declared.stamp.Stamp.{Stamp}
use Rattle.cal_model.specs.declared.object.Component.{Component}
use Rattle.cal_model.specs.Instances.Rows.{start_or_due}

-- that of a component that is no override
abbrev pub master_stamps_of : Component → List Stamp
master_stamps_of c = if is_some c.recurrence_id then [] else option_to_list (start_or_due c.kind c.start c.extent)

abbrev pub master_stamps : List Component → List Stamp
master_stamps components = flat_map master_stamps_of components

abbrev pub id_stamps : List Component → List Stamp
id_stamps components = flat_map (λ (c : Component). option_to_list c.recurrence_id) components
