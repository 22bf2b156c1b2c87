use Rattle.rrule_sets.proofs.SeveralLemmas.{joined_each, joined_first, joined_more}
use Rattle.rrule_sets.proofs.windows.joined_with.Goals as goal

pub widening-init : goal.widening-init
widening-init c = record { joined = joined_first c.args.first c.args.each.now }

pub widening-preserved : goal.widening-preserved
widening-preserved c =
    let first = c.in-Some.ensures.cases.0 in
    let so_far = rw first at c.widening.invariant.joined in
    record { joined = joined_more c.args.first c.args.each.now c.in-Some.needed.now c.in-Some.behind.now c.widening.range c.joined-range.result so_far c.joined-range.ensures.first c.joined-range.ensures.second c.joined-range.ensures.least }

pub returns-clause-first : goal.returns-clause-first
returns-clause-first c = c.widening.invariant.joined.has_first

pub returns-clause-each : goal.returns-clause-each
returns-clause-each c = joined_each c.args.first c.args.each.now c.widening.rest.now c.widening.range c.widening.invariant.joined c.in_default.ensures.cases

pub returns-clause-least : goal.returns-clause-least
returns-clause-least c = λ z first each. (c.widening.invariant.joined.least z first each).0
