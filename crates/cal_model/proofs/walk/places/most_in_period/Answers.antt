use Rattle.cal_model.proofs.Walks.PlaceLemmas.{most_of_period}
use Rattle.cal_model.proofs.walk.places.most_in_period.Goals as goal

pub returns : goal.returns
returns c =
    most_of_period c.args.rule.now c.values_of-minutes.result c.values_of-seconds.result c.values_of-minutes.ensures.most c.values_of-seconds.ensures.most c.values_of-minutes.ensures.some c.values_of-seconds.ensures.some
    c.requires.coarse c.most_days.result c.most_days.ensures.most c.most_days.ensures.hourly c.most_hours.result c.most_hours.ensures.hourly c.most_hours.ensures.longer c.most_hours.ensures.some
