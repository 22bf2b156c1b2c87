use Rattle.std.proofs.Common.{refl}
use Rattle.cal_script.proofs.ReadingLemmas.{fed_open}
use Rattle.cal_script.proofs.connections.Connection.feed.Goals as goal

pub returns : goal.returns
returns c = λ stream given reading. fed_open stream c.args.piece.now given c.args.self.now _ c.if-self.false refl refl c.in_ok-feed.ensures.ok reading
