use Rattle.std.proofs.Common.{ap}
use Rattle.std.specs.Prelude.{◌==◌}
use Rattle.std.specs.Int.{bit_at}
use Rattle.cal_object.specs.Seen.{has_seen}
use Rattle.cal_object.proofs.seen_names.SeenNames.has.Goals as goal

pub returns : goal.returns
unfolding has_seen
returns c = ap (λ n. bit_at c.args.self.0 n == 1) c.number.ensures.value
