use Rattle.cal_model.proofs.History.EntryLaws.{accepted_is_replayed, accepted_keeps_legal}
use Rattle.cal_model.proofs.History.JournalLaws.{accepted_has_its_effect, beginnings_are_legal}
use Rattle.cal_model.proofs.History.OriginLaws.{origins_follow}
use Rattle.cal_model.proofs.History.RightPieceLaws.{pieces_stay_right}
use Rattle.cal_model.proofs.State.SoundLaws.{states_stay_sound}
use Rattle.cal_book.proofs.laws.history_laws.Goals as goal

pub returns-clause-effect : goal.returns-clause-effect
returns-clause-effect c = accepted_has_its_effect

pub returns-clause-replayed : goal.returns-clause-replayed
returns-clause-replayed c = accepted_is_replayed

pub returns-clause-legal : goal.returns-clause-legal
returns-clause-legal c = accepted_keeps_legal

pub returns-clause-fronts : goal.returns-clause-fronts
returns-clause-fronts c = beginnings_are_legal

pub returns-clause-sound : goal.returns-clause-sound
returns-clause-sound c = states_stay_sound

pub returns-clause-pieces : goal.returns-clause-pieces
returns-clause-pieces c = pieces_stay_right

pub returns-clause-origins : goal.returns-clause-origins
returns-clause-origins c = origins_follow
