use Rattle.dav_reports.proofs.QueryWalks.{too_long_whole}
use Rattle.dav_reports.proofs.query.finished.Goals as goal

pub returns-then-not-whole : goal.returns-then-not-whole
returns-then-not-whole c responses written = too_long_whole responses (rw c.if-not-whole.true at written)
