use Rattle.std.proofs.Common.{◌∙◌}
use Rattle.cal_object.proofs.MomentsRead.{stamps_have_moments, periods_start_at_moments}
use Rattle.cal_object.proofs.zone_dates.put_dates.Goals as goal

pub put_stamps-requires : goal.put_stamps-requires
put_stamps-requires c = stamps_have_moments c.args.zones.now c.args.line.now c.as_slice.result.now (c.as_slice.ensures ∙ c.in_ok-stamps.ensures)

pub put_starts-requires : goal.put_starts-requires
put_starts-requires c = periods_start_at_moments c.args.zones.now c.args.line.now c.as_slice-2.result.now (c.as_slice-2.ensures ∙ c.in_ok-periods.ensures)
