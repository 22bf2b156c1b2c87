use Rattle.std.proofs.Common.{◌∷◌, ◌++◌, [], map, ap, ◌∙◌}
use Rattle.std.proofs.lemmas.List.Elements.{All-head, All-tail}
use Rattle.cal_model.specs.Values.StampTexts as texts
use Rattle.cal_object.specs.PartDates.{HasMoment}
use Rattle.cal_object.proofs.ListSteps.{gathered}
use Rattle.cal_object.proofs.zone_dates.put_stamps.Goals as goal

pub local_digits-requires : goal.local_digits-requires
local_digits-requires c =
    let e = c.in-Some.ensures.cases.0 in All-head HasMoment c.in-Some.stamp.now c.in-Some.behind.now (rw e at c.stamps.invariant.moments)

pub stamps-preserved : goal.stamps-preserved
stamps-preserved c =
    let e = c.in-Some.ensures.cases.0 in
    record {
      moments = All-tail HasMoment c.in-Some.stamp.now c.in-Some.behind.now (rw e at c.stamps.invariant.moments);
      all = gathered c.stamps.dates c.push.new.self (texts.local_digits c.in-Some.stamp.now ∷ []) (map texts.local_digits c.in-Some.behind.now)
          (c.args.dates.now ++ map texts.local_digits c.args.stamps.now)
          (c.in_ok-push.ensures.ok ∙ ap (λ d. c.stamps.dates ++ d ∷ []) c.local_digits.ensures) (rw e at c.stamps.invariant.all);
    }
