use Rattle.std.proofs.Common.{sym}
use Rattle.cal_moment.specs.BadPlace.{IsBadAt}
use Rattle.ical_values.specs.RuleNames.{name_place}
use Rattle.ical_values.specs.RuleReading.{Fits}
use Rattle.ical_values.proofs.PartReading.{bad_without_name, fault_told}
use Rattle.ical_values.proofs.rule_reader.RuleReader.take_part.Goals as goal

pub returns-in-None-clause-bad : goal.returns-in-None-clause-bad
returns-in-None-clause-bad c = λ place is.
    let rule = c.args.self.now.rule in
    let names = c.args.self.now.names in
    let text = c.args.text.now in
    fault_told (IsBadAt (Fits rule names) text) c.bad_name.result (name_place rule names text) place c.bad_name.ensures is (bad_without_name rule names c.requires text (sym c.in-None.ensures.parts))
