use Rattle.std.proofs.Common.{◌≡◌, ◌<◌, sym, ◌∙◌, true}
use Rattle.std.proofs.lemmas.Bool.{ltb-true}
use Rattle.cal_model.specs.Values.LocalTimes.{moment_of_local}
use Rattle.cal_model.specs.Recurrence.RecurrenceSet.{until_passes}
use Rattle.cal_model.specs.Walks.Clocks.{reading_by}
use Rattle.cal_model.proofs.Walks.WantedLemmas.{wanted-tested}
use Rattle.cal_model.proofs.walk.rule_walk.is_given.Goals as goal

pub returns : goal.returns
returns c = λ rest.
    let after : moment_of_local c.args.start < moment_of_local c.args.m = ltb-true _ _ (sym c.is_before.ensures ∙ c.if-not-is_before.false) in
    let by : until_passes (reading_by c.args.clock.now) c.args.rule.now.until (moment_of_local c.args.m) ≡ true = sym c.until_passes.ensures ∙ c.if-not-until_passes.false in
    rw (c.less_one.ensures, c.is_in_range.ensures) (wanted-tested c.args.rule.now (moment_of_local c.args.start) (reading_by c.args.clock.now) (moment_of_local c.args.low) (moment_of_local c.args.high) c.args.left.now (moment_of_local c.args.m) rest after by c.requires.some_left)
