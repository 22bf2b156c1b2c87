use Rattle.cal_model.proofs.Serving.StatusLaws.{no_reply_wants_memory}
use Rattle.cal_book.proofs.CompletenessLaws.{reports_are_answered, readings_are_answered, changes_are_made}
use Rattle.cal_book.proofs.laws.requests_are_complete.Goals as goal

pub returns-clause-reported : goal.returns-clause-reported
returns-clause-reported c = reports_are_answered

pub returns-clause-answered : goal.returns-clause-answered
returns-clause-answered c = readings_are_answered

pub returns-clause-changed : goal.returns-clause-changed
returns-clause-changed c = changes_are_made

pub returns-clause-no_want : goal.returns-clause-no_want
returns-clause-no_want c = no_reply_wants_memory
