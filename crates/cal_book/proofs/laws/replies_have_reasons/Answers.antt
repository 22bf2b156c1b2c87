use Rattle.cal_book.proofs.ReasonLaws.{replies_have_reasons}
use Rattle.cal_book.proofs.laws.replies_have_reasons.Goals as goal

pub returns : goal.returns
returns c = replies_have_reasons
