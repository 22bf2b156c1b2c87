use Rattle.rrule_sets.proofs.EvenLemmas.{even_daily, even_weekly}
use Rattle.rrule_sets.proofs.even.days_apart.Goals as goal

pub returns-in-Daily-clause-even : goal.returns-in-Daily-clause-even
returns-in-Daily-clause-even c = even_daily c.args.rule.now (c.is_bare.ensures c.if-not-is_bare.false) c.requires c.in-Daily.is

pub returns-in-Weekly-clause-even : goal.returns-in-Weekly-clause-even
returns-in-Weekly-clause-even c = even_weekly c.args.rule.now (c.is_bare.ensures c.if-not-is_bare.false) c.requires c.in-Weekly.is
