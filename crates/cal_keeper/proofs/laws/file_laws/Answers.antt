use Rattle.cal_keeper.proofs.AcceptedForms.{accepted_has_form}
use Rattle.cal_keeper.proofs.DraftEntries.{drafts_are_no_journals, drafts_go_on, drafts_are_finished}
use Rattle.cal_keeper.proofs.EntryLaws.{form_is_bookable, sessions_are_alike, recorded_is_legal, recorded_leads_alike}
use Rattle.cal_keeper.proofs.ReadingLaws.{readings_are_exact, standing_files_are_read, crashes_are_recovered, failures_leave_files, histories_are_kept}
use Rattle.cal_keeper.proofs.laws.file_laws.Goals as goal

pub returns-clause-exact : goal.returns-clause-exact
returns-clause-exact c = readings_are_exact

pub returns-clause-standing : goal.returns-clause-standing
returns-clause-standing c = standing_files_are_read

pub returns-clause-recovered : goal.returns-clause-recovered
returns-clause-recovered c = crashes_are_recovered

pub returns-clause-reopened : goal.returns-clause-reopened
returns-clause-reopened c = failures_leave_files

pub returns-clause-histories : goal.returns-clause-histories
returns-clause-histories c = histories_are_kept

pub returns-clause-formed : goal.returns-clause-formed
returns-clause-formed c = accepted_has_form

pub returns-clause-bookable : goal.returns-clause-bookable
returns-clause-bookable c = form_is_bookable

pub returns-clause-sessions : goal.returns-clause-sessions
returns-clause-sessions c = sessions_are_alike

pub returns-clause-legal : goal.returns-clause-legal
returns-clause-legal c = recorded_is_legal

pub returns-clause-leads : goal.returns-clause-leads
returns-clause-leads c = recorded_leads_alike

pub returns-clause-unmarked : goal.returns-clause-unmarked
returns-clause-unmarked c = drafts_are_no_journals

pub returns-clause-going_on : goal.returns-clause-going_on
returns-clause-going_on c = drafts_go_on

pub returns-clause-finished : goal.returns-clause-finished
returns-clause-finished c = drafts_are_finished
