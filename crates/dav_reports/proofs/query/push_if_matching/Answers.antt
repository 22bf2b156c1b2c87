use Rattle.dav_reports.proofs.KeptObjects.{kept_zones}
use Rattle.dav_reports.proofs.query.push_if_matching.Goals as goal

pub matches-requires-clause-zones : goal.matches-requires-clause-zones
matches-requires-clause-zones g c = kept_zones c.args.stored.now.object c.requires.kept
