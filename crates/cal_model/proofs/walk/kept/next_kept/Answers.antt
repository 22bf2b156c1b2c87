use Rattle.std.proofs.Common.{◌≡◌, rules, true}
use Rattle.cal_model.specs.Words.Lists.{is_empty}
use Rattle.cal_model.specs.Values.LocalTimes.{moment_of_local}
use Rattle.cal_model.specs.Walks.Clocks.{reading_by}
use Rattle.cal_model.proofs.Walks.BeginLemmas.{plain_rest}
use Rattle.cal_model.proofs.walk.kept.next_kept.Goals as goal

pub returns-clause-next : goal.returns-clause-next
returns-clause-next g c =
    let picks = c.requires.picks in
    let none : is_empty c.args.rule.now.by_set_pos ≡ true = search rules in
    let old = plain_rest c.args.rule.now (moment_of_local c.args.start) (reading_by c.args.clock.now) c.args.picks.now none (picks.plain none) picks.given in
    let new = plain_rest c.args.rule.now (moment_of_local c.args.start) (reading_by c.args.clock.now) (record c.args.picks.now { cursor = c.next_plain-next.new.cursor }) none (picks.plain none) picks.given in
    rw (old, new) c.next_plain-next.ensures.next
