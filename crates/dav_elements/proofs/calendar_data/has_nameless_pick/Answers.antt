use Rattle.std.proofs.Common.{◌∙◌}
use Rattle.dav_elements.proofs.PickLemmas.{nameless_one}
use Rattle.dav_elements.proofs.calendar_data.has_nameless_pick.Goals as goal

pub returns-in-Some : goal.returns-in-Some
returns-in-Some c = c.is_nameless.ensures ∙ nameless_one c.args.element.now c.in-Some.pick.now c.in-Some.ensures
