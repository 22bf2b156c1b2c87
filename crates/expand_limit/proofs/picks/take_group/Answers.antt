use Rattle.std.proofs.Common.{ap, ◌∙◌}
use Rattle.cal_base.specs.Lists.NameMap.{value_at}
use Rattle.expand_limit.proofs.NamedValues.{value_at-without}
use Rattle.expand_limit.proofs.picks.take_group.Goals as goal

pub returns-in-Some-clause-others : goal.returns-in-Some-clause-others
returns-in-Some-clause-others c = λ other apart. ap (λ named. value_at named other) c.remove.ensures.rest ∙ value_at-without other c.args.name.now apart c.args.groups.now

pub returns-in-None-clause-others : goal.returns-in-None-clause-others
returns-in-None-clause-others c = λ other apart. ap (λ named. value_at named other) c.remove.ensures.rest ∙ value_at-without other c.args.name.now apart c.args.groups.now
