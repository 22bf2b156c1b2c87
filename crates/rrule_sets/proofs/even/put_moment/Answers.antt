use Rattle.std.proofs.Common.{◌≡◌, ◌+◌, ◌++◌, ◌∷◌, List, ℕ, Bool, sym, ap, ◌∙◌, arith, true, false}
use Rattle.std.specs.Prelude.{if◌then◌else◌}
use Rattle.cal_moment.specs.Calendar.{seconds_since_1970}
use Rattle.cal_model.specs.Values.LocalTimes.{moment_of_local}
use Rattle.cal_model.specs.Walks.Clocks.{reading_by}
use Rattle.cal_model.specs.Walks.KeptMoments.{found_from, one_less, starts_by, wanted}
use Rattle.cal_model.proofs.Walks.KeptLemmas.{seconds_of_written}
use Rattle.rrule_sets.proofs.EvenLemmas.{given_or_not, wanted_skipped, wanted_there}
use Rattle.rrule_sets.proofs.even.put_moment.Goals as goal

pub returns-in_ok-put_if : goal.returns-in_ok-put_if
returns-in_ok-put_if c =
    let start = moment_of_local c.args.start in
    let reading = reading_by c.args.clock.now in
    let low = moment_of_local c.args.low in
    let high = moment_of_local c.args.high in
    let m = moment_of_local c.args.m in
    let rest : List ℕ = wanted c.args.rule.now start reading low high (one_less c.args.left.now) (found_from c.args.rule.now start reading (m + 1)) in
    let whole : List ℕ = wanted c.args.rule.now start reading low high c.args.left.now (found_from c.args.rule.now start reading m) in
    let there : reading.exists (seconds_since_1970 m) ≡ true = ap (λ l. reading.exists l) (seconds_of_written c.args.m c.requires.m) ∙ (sym c.exists.ensures ∙ c.if-exists.true) in
    let is = wanted_there c.args.rule.now start reading low high c.args.left.now m c.requires.after c.requires.before c.requires.high c.requires.until c.requires.some_left c.requires.passing there
    ∙ ap (λ (b : Bool). if b then m ∷ rest else rest) (sym c.is_from.ensures) in
    rw c.less_one.ensures (given_or_not c.args.rule.now start reading low high c.is_from.result c.args.out.now c.put_if.new.out m rest whole c.in_ok-put_if.ensures is)

pub returns-else-exists : goal.returns-else-exists
returns-else-exists c =
    let start = moment_of_local c.args.start in
    let reading = reading_by c.args.clock.now in
    let low = moment_of_local c.args.low in
    let high = moment_of_local c.args.high in
    let m = moment_of_local c.args.m in
    let skipped : reading.exists (seconds_since_1970 m) ≡ false = ap (λ l. reading.exists l) (seconds_of_written c.args.m c.requires.m) ∙ (sym c.exists.ensures ∙ c.if-exists.false) in
    let before = c.requires.before in
    let end = c.requires.high in
    ap (λ (xs : List ℕ). c.args.out.now ++ starts_by reading xs) (wanted_skipped c.args.rule.now start reading low high c.args.left.now m (omega (arith, before, end)) c.requires.passing skipped)
