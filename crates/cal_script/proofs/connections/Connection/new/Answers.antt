use Rattle.std.proofs.Common.{refl}
use Rattle.cal_script.proofs.ReadingLemmas.{rests_at_start}
use Rattle.cal_script.proofs.connections.Connection.new.Goals as goal

pub returns : goal.returns
returns c = rests_at_start _ refl refl c.new.ensures
