use Rattle.std.proofs.Common.{ap, ◌∙◌}
use Rattle.std.specs.List.{list_all}
use Rattle.ical_values.proofs.ReadLines.{zone_known}
use Rattle.ical_values.proofs.stamps.are_known.Goals as goal

pub returns : goal.returns
returns c = λ names same. c.have_zones_below.ensures ∙ ap (λ test. list_all test c.args.stamps.now) (λ i stamp. zone_known names c.args.zones stamp same i)
