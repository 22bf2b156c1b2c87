use Rattle.std.proofs.Common.{ℕ, IfErr, subst}
use Rattle.cal_moment.specs.BadPlace.{IsBadAt}
use Rattle.cal_model.specs.Values.BadValues.{Reads}
use Rattle.cal_model.specs.Values.RuleTexts.{place_number}
use Rattle.ical_values.proofs.rule_lists.PlaceFormItems.read.Goals as goal

pub returns-clause-bad : goal.returns-clause-bad
returns-clause-bad c = subst (λ (most : ℕ). IfErr c.read_place.result (λ fault. IsBadAt (Reads (place_number most)) c.args.text.now fault.place)) c.most_of.ensures.value c.read_place.ensures.bad
