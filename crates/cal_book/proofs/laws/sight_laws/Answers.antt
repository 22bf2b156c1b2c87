use Rattle.cal_model.proofs.Serving.FreeBusyLaws.{shown_runs_are_the_calendars}
use Rattle.cal_model.proofs.Sight.HiddenLaws.{hidden_is_absent}
use Rattle.cal_model.proofs.Sight.LookingAlikeLaws.{replies_are_alike, reading_changes_nothing}
use Rattle.cal_model.proofs.Sight.ViewLaws.{views_decide}
use Rattle.cal_book.proofs.laws.sight_laws.Goals as goal

pub returns-clause-alike : goal.returns-clause-alike
returns-clause-alike c = replies_are_alike

pub returns-clause-unchanged : goal.returns-clause-unchanged
returns-clause-unchanged c = reading_changes_nothing

pub returns-clause-views : goal.returns-clause-views
returns-clause-views c = views_decide

pub returns-clause-hidden : goal.returns-clause-hidden
returns-clause-hidden c = hidden_is_absent

pub returns-clause-busy : goal.returns-clause-busy
returns-clause-busy c = shown_runs_are_the_calendars
