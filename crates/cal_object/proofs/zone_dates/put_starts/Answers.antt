use Rattle.std.proofs.Common.{◌∷◌, ◌++◌, [], map, ap, ◌∙◌}
use Rattle.std.proofs.lemmas.List.Elements.{All-head, All-tail}
use Rattle.cal_moment.specs.declared.stamp.Period.{Period}
use Rattle.cal_model.specs.Values.StampTexts as texts
use Rattle.cal_object.specs.PartDates.{StartsAtMoment}
use Rattle.cal_object.proofs.ListSteps.{gathered}
use Rattle.cal_object.proofs.zone_dates.put_starts.Goals as goal

pub local_digits-requires : goal.local_digits-requires
local_digits-requires c =
    let e = c.in-Some.ensures.cases.0 in All-head StartsAtMoment c.in-Some.period.now c.in-Some.behind.now (rw e at c.periods.invariant.moments)

pub periods-preserved : goal.periods-preserved
periods-preserved c =
    let e = c.in-Some.ensures.cases.0 in
    record {
      moments = All-tail StartsAtMoment c.in-Some.period.now c.in-Some.behind.now (rw e at c.periods.invariant.moments);
      all = gathered c.periods.dates c.push.new.self (texts.local_digits c.in-Some.period.now.start ∷ []) (map texts.local_digits (map (λ (period : Period). period.start) c.in-Some.behind.now))
          (c.args.dates.now ++ map texts.local_digits (map (λ (period : Period). period.start) c.args.periods.now))
          (c.in_ok-push.ensures.ok ∙ ap (λ d. c.periods.dates ++ d ∷ []) c.local_digits.ensures) (rw e at c.periods.invariant.all);
    }
