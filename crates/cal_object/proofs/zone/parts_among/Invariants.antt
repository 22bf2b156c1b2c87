use Rattle.std.proofs.Common.{◌≡◌, ◌++◌, length, filter, filter_map}
use Rattle.cal_base.specs.declared.line.Node.{Node}
use Rattle.cal_model.specs.Objects.ComponentLines.{lines_of}
use Rattle.cal_model.specs.Objects.ZoneReading as spec
use Rattle.cal_object.proofs.zone.parts_among.Given as goal

-- the parts so far, and those of the components to come, are all
abbrev pub invariant-nodes : goal.invariant-nodes
invariant-nodes l = l.parts ++ filter_map (λ (node : Node). spec.part_of_lines (lines_of node)) (filter spec.is_part l.rest) ≡ filter_map (λ (node : Node). spec.part_of_lines (lines_of node)) (filter spec.is_part l.nodes)

abbrev pub decreases-nodes : goal.decreases-nodes
decreases-nodes l = length l.rest
