use Rattle.std.proofs.Common.{◌≡◌, ◌+◌, sym, ◌∙◌, arith, inl}
use Rattle.std.proofs.lemmas.Int.{ints}
use Rattle.std.proofs.lemmas.List.Elements.{All-nil}
use Rattle.cal_model.specs.Recurrence.RuleBounds.{IsWritten}
use Rattle.cal_model.specs.Values.LocalTimes.{moment_of_local}
use Rattle.cal_model.specs.Walks.Budgets.{last_period}
use Rattle.cal_model.proofs.Walks.BudgetLemmas.{budget_all}
use Rattle.cal_model.proofs.Walks.BeginLemmas.{wanted_of_kept}
use Rattle.cal_model.proofs.walk.rule_walk.begin_walk.Goals as goal

pub set_places_of-requires : goal.set_places_of-requires
set_places_of-requires c = c.requires.rule.places

pub returns-clause-walk : goal.returns-clause-walk
returns-clause-walk c = λ dated. record {
  cursor = record {
    written = c.begin.ensures.written;
    within = c.begin.ensures.within;
    before_end = λ taken. absurd cc;
    passing = λ taken. absurd cc;
  };
  given = omega arith;
  written = rw c.new-3.ensures (All-nil (λ l. IsWritten l));
  times = inl c.new.ensures;
  places = c.set_places_of.ensures;
  plain = λ none. c.new-3.ensures;
}

pub returns-clause-steps : goal.returns-clause-steps
returns-clause-steps c = λ dated high.
    let from = c.begin.ensures.written.from_first in
    let zero : moment_of_local c.begin.result + 0 ≡ moment_of_local c.begin.result = omega arith in
    rw zero (budget_all c.args.rule.now (moment_of_local c.args.start) dated (last_period c.args.rule.now high) (moment_of_local c.begin.result) (omega (arith, ints, from)) c.begin.ensures.within)

pub returns-clause-whole : goal.returns-clause-whole
returns-clause-whole c = λ reading high.
    rw (c.less_one.ensures, c.new-3.ensures) (sym (wanted_of_kept c.args.rule.now (moment_of_local c.args.start) reading (moment_of_local c.args.low) high ∙ c.begin.ensures.same reading high))
