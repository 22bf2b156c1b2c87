use Rattle.std.proofs.Common.{refl, arith}
use Rattle.cal_model.proofs.Walks.DayCounts.{one_of_shorter}
use Rattle.cal_model.proofs.walk.places.most_days.Goals as goal

pub returns-in_default : goal.returns-in_default
returns-in_default c =
    record {
      most = one_of_shorter c.args.rule.now c.requires.coarse c.in_default.not-Weekly c.in_default.not-Monthly c.in_default.not-Yearly;
      hourly = λ e. refl;
      bound = omega arith;
    }
