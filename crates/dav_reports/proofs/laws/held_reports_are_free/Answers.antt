use Rattle.dav_reports.proofs.HeldCosts.{held_reports_free}
use Rattle.dav_reports.proofs.laws.held_reports_are_free.Goals as goal

pub returns : goal.returns
returns c = held_reports_free
