use Rattle.std.proofs.Common.{ℕ, ◌*◌, ◌++◌, List, ℤ, ap, sym, refl, subst, ◌∙◌}
use Rattle.std.specs.Prelude.{IfOk, filter}
use Rattle.cal_model.specs.Instances.Alignment.{reading_of}
use Rattle.cal_model.specs.Recurrence.NextPassing.{end_day}
use Rattle.cal_model.specs.Recurrence.RecurrenceSet.{first_moment}
use Rattle.cal_model.specs.Values.LocalTimes.{moment_of_local}
use Rattle.cal_model.specs.Walks.KeptMoments.{starts_by}
use Rattle.cal_model.specs.Walks.PickedRest.{still_given}
use Rattle.override_merge.specs.Conversions.{tables_of}
use Rattle.rrule_sets.specs.CountedRows.{IsTrimmed, is_left}
use Rattle.rrule_sets.proofs.CountLemmas.{later_given}
use Rattle.rrule_sets.proofs.count.with_rule.Goals as goal

pub with_moments-requires-clause-walk : goal.with_moments-requires-clause-walk
with_moments-requires-clause-walk g c = λ dated. rw c.start_moment.ensures.value at (c.begin_walk-walk.ensures.walk dated)

pub returns : goal.returns
returns g c =
    let zones = tables_of c.args.zones.now in
    let reading = reading_of zones c.args.stamp in
    let start = moment_of_local c.start_moment.result in
    let value = c.start_moment.ensures.value in
    let later =
    ap (λ (m : ℕ). starts_by reading (still_given c.args.rule.now m reading first_moment (86_400 * end_day) c.begin_walk-walk.result)) (sym value)
    ∙ later_given zones c.args.stamp c.args.rule.now start reading (still_given c.args.rule.now start reading first_moment (86_400 * end_day) c.begin_walk-walk.result) value refl (c.begin_walk-walk.ensures.whole reading (86_400 * end_day)) in
    subst (λ (found : List ℤ). IfOk c.with_moments.result (IsTrimmed c.args.room (c.args.starts ++ filter (is_left zones c.args.stamp c.args.taken.now) found))) later c.with_moments.ensures
