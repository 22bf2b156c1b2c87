use Rattle.std.proofs.Common.{◌≡◌, ℕ, ◌+◌, ◌/◌, ◌^◌, ◌<◌, ◌≤◌, arith}
use Rattle.rrule_step.proofs.BitLemmas.{none_left, none_below, lowest_is}
use Rattle.rrule_step.proofs.set.Set.next.Goals as goal

pub returns-then-rest-eq0 : goal.returns-then-rest-eq0
returns-then-rest-eq0 c = none_left c.args.self c.args.from c.args.end c.if-rest-eq0.true

pub returns-then-number-end : goal.returns-then-number-end
returns-then-number-end c =
    let some = c.if-rest-eq0.false in
    let word : c.args.self.0 < 18446744073709551616 = omega arith in
    record {
      at_or_after = omega arith;
      below = omega arith;
      holds = lowest_is c.args.self c.args.from word (omega (arith, some));
      none_before = none_below c.args.self c.args.from word (omega (arith, some)) _ (omega arith);
    }

pub returns-else-number-end : goal.returns-else-number-end
returns-else-number-end c =
    let some = c.if-rest-eq0.false in
    let word : c.args.self.0 < 18446744073709551616 = omega arith in
    none_below c.args.self c.args.from word (omega (arith, some)) c.args.end (omega arith)
