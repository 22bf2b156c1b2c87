use Rattle.std.proofs.Common.{sym, subst}
use Rattle.cal_moment.specs.BadPlace.{IsBadAt}
use Rattle.cal_model.specs.Values.BadValues.{Reads}
use Rattle.cal_model.specs.Values.RuleTexts.{weekday_named}
use Rattle.ical_values.proofs.WordPlaces.{bad_weekday}
use Rattle.ical_values.proofs.rule_words.read_weekday.Goals as goal

pub returns-in-None-clause-bad : goal.returns-in-None-clause-bad
returns-in-None-clause-bad c = subst (IsBadAt (Reads weekday_named) c.args.text.now) (sym c.weekday_place.ensures) (bad_weekday c.args.text.now (sym c.in-None.ensures))
