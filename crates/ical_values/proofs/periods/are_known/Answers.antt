use Rattle.std.proofs.Common.{ap, ◌∙◌}
use Rattle.std.specs.List.{list_all}
use Rattle.ical_values.proofs.PeriodLists.{period_known}
use Rattle.ical_values.proofs.periods.are_known.Goals as goal

pub returns : goal.returns
returns c = λ names same. c.have_zones_below.ensures ∙ ap (λ test. list_all test c.args.periods.now) (λ i period. period_known names c.args.zones period same i)
