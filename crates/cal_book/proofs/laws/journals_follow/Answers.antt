use Rattle.cal_book.proofs.EventLemmas.{journals-follow}
use Rattle.cal_book.proofs.laws.journals_follow.Goals as goal

pub returns : goal.returns
returns c = journals-follow
