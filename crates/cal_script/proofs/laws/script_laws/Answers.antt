use Rattle.cal_model.proofs.Transcripts.ConnectionAnswerLaws.{streams_complete, completions_agree, completions_stay}
use Rattle.cal_model.proofs.Transcripts.FrameCuts.{cuts_agree}
use Rattle.cal_model.proofs.Transcripts.GrowingScripts.{scripts_go_on}
use Rattle.cal_script.proofs.laws.script_laws.Goals as goal

pub returns-clause-cuts : goal.returns-clause-cuts
returns-clause-cuts c = cuts_agree

pub returns-clause-complete : goal.returns-clause-complete
returns-clause-complete c = streams_complete

pub returns-clause-agree : goal.returns-clause-agree
returns-clause-agree c = completions_agree

pub returns-clause-stay : goal.returns-clause-stay
returns-clause-stay c = completions_stay

pub returns-clause-go_on : goal.returns-clause-go_on
returns-clause-go_on c = scripts_go_on
