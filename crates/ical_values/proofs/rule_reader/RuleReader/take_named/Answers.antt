use Rattle.std.proofs.Common.{sym, ◌∙◌}
use Rattle.cal_moment.specs.BadPlace.{IsBadAt}
use Rattle.ical_values.specs.RuleNames.{name_place}
use Rattle.ical_values.specs.RuleReading.{Fits}
use Rattle.ical_values.proofs.PartReading.{bad_not_free, fault_told}
use Rattle.ical_values.proofs.rule_reader.RuleReader.take_named.Goals as goal

pub returns-in-Some-2-clause-bad : goal.returns-in-Some-2-clause-bad
returns-in-Some-2-clause-bad c = λ place is.
    let rule = c.args.self.now.rule in
    let names = c.args.self.now.names in
    let text = c.args.text.now in
    let known = sym c.part_named.ensures ∙ c.in-Some.is in
    fault_told (IsBadAt (Fits rule names) text) c.bad_name.result (name_place rule names text) place c.bad_name.ensures is
    (bad_not_free rule names c.requires.allowed text c.args.name.now c.args.value.now c.requires.cuts c.in-Some.part known (sym c.is_free.ensures ∙ c.if-is_free.false))
