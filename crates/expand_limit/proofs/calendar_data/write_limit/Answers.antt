use Rattle.std.proofs.Common.{sym, ap, subst, ◌∙◌}
use Rattle.std.specs.Prelude.{All}
use Rattle.cal_model.specs.TimeZones.TableBounds.{IsTable}
use Rattle.override_merge.specs.Conversions.{tables_of}
use Rattle.override_merge.proofs.ReadObjects.{HasConvertibleRows-read}
use Rattle.expand_limit.proofs.calendar_data.write_limit.Goals as goal

pub local_times_of-requires : goal.local_times_of-requires
local_times_of-requires c = subst (All IsTable) (sym c.as_slice.ensures) (HasConvertibleRows-read c.args.object.now c.requires.read c.requires.few).zones

pub write_limited-requires-clause-zones : goal.write_limited-requires-clause-zones
write_limited-requires-clause-zones c = sym (ap tables_of c.as_slice-2.ensures ∙ c.in_ok-zones.ensures ∙ c.as_slice.ensures)

pub write_limited-requires-clause-tree : goal.write_limited-requires-clause-tree
write_limited-requires-clause-tree c = (4, c.requires.tree)
