use Rattle.std.proofs.Common.{◌∙◌, sym, codes}
use Rattle.cal_object.proofs.MomentsRead.{stamp_has_moment}
use Rattle.cal_object.proofs.zone.part_of_lines.Goals as goal

pub local_digits-requires : goal.local_digits-requires
local_digits-requires c = stamp_has_moment c.args.zones.now (codes "DTSTART") c.args.lines.now c.in-Some-Some-Some.start (sym c.stamp_at-start.ensures ∙ c.in-Some-Some-Some.is-0)
