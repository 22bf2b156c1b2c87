use Rattle.std.proofs.Common.{◌++◌, sym, ap, subst, ◌∙◌}
use Rattle.std.specs.Prelude.{All, flat_map}
use Rattle.cal_model.specs.Objects.ComponentLines.{name_of, lines_of, children_of}
use Rattle.cal_model.specs.Selections.Expansion.{expanded_children, instances_of_row, overlapping, plain_lines}
use Rattle.cal_model.specs.TimeZones.TableBounds.{IsTable}
use Rattle.ical_objects.proofs.Printed.{OnOk-then}
use Rattle.override_merge.specs.Conversions.{tables_of}
use Rattle.override_merge.proofs.ReadObjects.{HasConvertibleRows-read}
use Rattle.expand_limit.proofs.ShownParts.{body-text}
use Rattle.expand_limit.proofs.ShownTrees.{rows-at_hand}
use Rattle.expand_limit.proofs.calendar_data.write_instances.Goals as goal

pub local_times_of-requires : goal.local_times_of-requires
local_times_of-requires c = subst (All IsTable) (sym c.as_slice.ensures) (HasConvertibleRows-read c.args.object.now c.requires.read c.requires.few).zones

pub write_expanded-requires-clause-zones : goal.write_expanded-requires-clause-zones
write_expanded-requires-clause-zones c = sym (ap tables_of c.as_slice-2.ensures ∙ c.in_ok-zones.ensures ∙ c.as_slice.ensures)

pub write_expanded-requires-clause-components : goal.write_expanded-requires-clause-components
write_expanded-requires-clause-components c =
    rows-at_hand c.args.object.now c.as_slice-2.result.now (ap tables_of c.as_slice-2.ensures ∙ c.in_ok-zones.ensures ∙ c.as_slice.ensures) (HasConvertibleRows-read c.args.object.now c.requires.read c.requires.few).components

pub write_expanded-requires-clause-tree : goal.write_expanded-requires-clause-tree
write_expanded-requires-clause-tree c = (4, c.requires.tree)

pub returns : goal.returns
returns c = OnOk-then c.write_expanded.result (λ f levels picks fits keeps.
    let tree = c.args.object.now.tree in
    f levels picks fits keeps
    ∙ ap (λ text. c.args.out.now ++ text) (sym (body-text picks c.args.busy (name_of tree) (plain_lines (lines_of tree)) (expanded_children (flat_map (instances_of_row c.args.object.now) (overlapping c.args.object.now c.args.rows.now c.args.zone.now c.args.range)) (children_of tree))))) c.write_expanded.ensures
