use Rattle.cal_model.proofs.TimeZones.NearTimes.{HasShortOffsets-table}
use Rattle.dav_reports.proofs.report.report_body.Goals as goal

pub query-requires-clause-short : goal.query-requires-clause-short
query-requires-clause-short g c = HasShortOffsets-table c.args.zone.now c.requires.zone

pub multiget-requires-clause-short : goal.multiget-requires-clause-short
multiget-requires-clause-short g c = HasShortOffsets-table c.args.zone.now c.requires.zone
