-- The instances of an object that overlap the range of an expansion.
use Rattle.std.specs.Prelude.{List, flat_map}
use Rattle.cal_base.specs.declared.line.Node.{Node}
use Rattle.cal_model.specs.declared.row.Row.{Row}
use Rattle.cal_model.specs.Selections.Expansion.{instances_of_row, overlapping}
use Rattle.expand_limit.specs.declared.expand.Expansion.{Expansion}

abbrev pub instances_in : Expansion → List Row → List Node
instances_in expansion rows = flat_map (instances_of_row expansion.object.now) (overlapping expansion.object.now rows expansion.zone.now expansion.range)
