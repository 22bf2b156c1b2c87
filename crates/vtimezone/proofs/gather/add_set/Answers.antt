use Rattle.std.proofs.Common.{◌≡◌, ℕ, suc, ◌+◌, ◌∷◌, ◌++◌, [], length, ap, ◌∙◌, arith, rules, w32, ℤ, to_z, of_z}
use Rattle.std.specs.Prelude.{FitsSigned}
use Rattle.std.proofs.lemmas.Int.{to_z-of_z}
use Rattle.cal_model.specs.Recurrence.RecurrenceSet.{every_moment, later_moments, onset_reading}
use Rattle.cal_model.specs.Values.LocalTimes.{moment_of_local}
use Rattle.cal_model.specs.TimeZones.ZoneOnsets as zone
use Rattle.cal_model.specs.Walks.PickedRest.{still_given}
use Rattle.vtimezone.specs.Gathered as spec
use Rattle.vtimezone.proofs.GatherLemmas.{gathered_more, whole_set}
use Rattle.vtimezone.proofs.gather.add_set.Goals as goal

one_more : (left room n still : ℕ) → left + 1 ≡ room → still ≡ n → left + suc n ≡ room + still
one_more left room n still taken e = omega (arith, taken, e)

pub rule-init : goal.rule-init
rule-init g c =
    let part = c.args.part.now in
    let rule = c.args.rule.now in
    let start = moment_of_local part.start in
    let high = moment_of_local c.end_by-end.result in
    let fits : FitsSigned w32 part.from = search rules in
    let same : to_z w32 (of_z w32 part.from) ≡ part.from = to_z-of_z w32 part.from fits in
    let of : ℤ → _ = λ (from : ℤ). still_given rule start (onset_reading from) 31_622_400 high c.begin_walk-walk.result in
    let whole : of part.from ≡ later_moments rule start (onset_reading part.from) every_moment =
    c.begin_walk-walk.ensures.whole (onset_reading part.from) high ∙ whole_set rule start (onset_reading part.from) high (λ m lt until. c.end_by-end.ensures.none_after part.from m c.requires.part.from lt until) in
    let given : of (to_z w32 (of_z w32 part.from)) ≡ later_moments rule start (onset_reading part.from) every_moment = ap of same ∙ whole in
    record {
      picks = c.begin_walk-walk.ensures.walk _;
      all = gathered_more part (spec.changes_of c.args.changes.now) (spec.changes_of c.add_change.new.changes)
          (spec.changes_of c.args.changes.now ++ spec.changes_at part (zone.rule_moments every_moment part rule))
          (start ∷ []) (of (to_z w32 (of_z w32 part.from))) c.in_ok-add_change.ensures
          (ap (λ ms. spec.changes_of c.args.changes.now ++ spec.changes_at part (start ∷ ms)) given);
      room = one_more c.count.new.room c.args.room.now _ _ c.in_ok-count.ensures.room (ap length given);
    }
