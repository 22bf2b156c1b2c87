use Rattle.std.proofs.Common.{true, is_some, sym, ap, ◌∙◌}
use Rattle.cal_base.specs.Lists.NameMap.{value_at, with_value}
use Rattle.cal_moment.specs.BadPlace.{IsBadAt}
use Rattle.ical_values.specs.RuleNames.{name_place}
use Rattle.ical_values.specs.RuleReading.{Fits}
use Rattle.ical_values.proofs.PartReading.{bad_not_own, bad_used, own_taken, fault_told}
use Rattle.ical_values.proofs.rule_reader.RuleReader.take_own.Goals as goal

pub returns-then-not-is_own-clause-bad : goal.returns-then-not-is_own-clause-bad
returns-then-not-is_own-clause-bad c = λ place is.
    let rule = c.args.self.now.rule in
    let names = c.args.self.now.names in
    let text = c.args.text.now in
    fault_told (IsBadAt (Fits rule names) text) c.bad_name.result (name_place rule names text) place c.bad_name.ensures is
    (bad_not_own rule names c.requires.allowed text c.args.name.now c.requires.cuts.0 c.requires.cuts.1 c.requires.unknown (sym c.is_own.ensures ∙ c.if-not-is_own.true))

pub returns-then-has_come-clause-bad : goal.returns-then-has_come-clause-bad
returns-then-has_come-clause-bad c = λ place is.
    let rule = c.args.self.now.rule in
    let names = c.args.self.now.names in
    let text = c.args.text.now in
    let upper = c.as_slice.ensures ∙ c.in_ok-upper.ensures in
    fault_told (IsBadAt (Fits rule names) text) c.bad_name-then-has_come.result (name_place rule names text) place c.bad_name-then-has_come.ensures is
    (bad_used rule names c.requires.allowed text c.args.name.now c.requires.cuts.0 c.requires.cuts.1 (ap (λ t. is_some (value_at names t)) (sym upper) ∙ (sym c.has_come.ensures ∙ c.if-has_come.true)))

pub returns-clause-ok : goal.returns-clause-ok
returns-clause-ok c =
    let rule = c.args.self.now.rule in
    let names = c.args.self.now.names in
    let upper = c.as_slice.ensures ∙ c.in_ok-upper.ensures in
    own_taken rule names c.requires.allowed c.args.text.now c.args.name.now c.requires.cuts.0 c.requires.cuts.1 c.insert.new.self (sym c.is_own.ensures ∙ c.if-not-is_own.false)
    (ap (λ t. is_some (value_at names t)) (sym upper) ∙ (sym c.has_come.ensures ∙ c.if-has_come.false))
    (c.in_ok-insert.ensures.ok ∙ ap (λ n. with_value names n true) c.in_ok-upper.ensures)
