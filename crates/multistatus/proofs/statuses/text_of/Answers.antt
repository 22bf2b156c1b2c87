use Rattle.std.proofs.Common.{sym, ap, ◌∙◌}
use Rattle.std.specs.Fmt.{digits}
use Rattle.cal_model.specs.Replies.Statuses.{reason}
use Rattle.multistatus.specs.ReplyPieces.{number_of, status_element}
use Rattle.multistatus.proofs.statuses.text_of.Goals as goal

pub returns-in-Found : goal.returns-in-Found
unfolding reason digits
returns-in-Found c = c.as_slice.ensures ∙ ap (λ status. status_element (number_of status)) (sym c.in-Found.is)

pub returns-in-NotFound : goal.returns-in-NotFound
unfolding reason digits
returns-in-NotFound c = c.as_slice-in-NotFound.ensures ∙ ap (λ status. status_element (number_of status)) (sym c.in-NotFound.is)

pub returns-in-Forbidden : goal.returns-in-Forbidden
unfolding reason digits
returns-in-Forbidden c = c.as_slice-in-Forbidden.ensures ∙ ap (λ status. status_element (number_of status)) (sym c.in-Forbidden.is)

pub returns-in-FailedDependency : goal.returns-in-FailedDependency
unfolding reason digits
returns-in-FailedDependency c = c.as_slice-in-FailedDependency.ensures ∙ ap (λ status. status_element (number_of status)) (sym c.in-FailedDependency.is)
