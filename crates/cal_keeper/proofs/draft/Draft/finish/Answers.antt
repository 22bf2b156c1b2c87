use Rattle.cal_keeper.proofs.DraftEntries.{finishes_told}
use Rattle.cal_keeper.proofs.draft.Draft.finish.Goals as goal

pub returns-in-Ok-clause-finished : goal.returns-in-Ok-clause-finished
returns-in-Ok-clause-finished g c = λ users. rw (← c.self.view_is) (finishes_told users c.self.inside.place _ _ _ c.in-Ok.ensures.seals)

pub returns-in-Err-clause-finished : goal.returns-in-Err-clause-finished
returns-in-Err-clause-finished g c = (λ users. rw (← c.self.view_is) (finishes_told users c.self.inside.place _ _ _ c.in-Err.ensures.seals), rw (← c.self.view_is) c.in-Err.ensures.failed)
