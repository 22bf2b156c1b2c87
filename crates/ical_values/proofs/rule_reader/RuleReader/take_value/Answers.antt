use Rattle.std.proofs.Common.{◌≡◌, ◌∷◌, ◌+◌, ◌-◌, Some, Err, length, true, ap, subst, ◌∙◌, arith}
use Rattle.std.proofs.lemmas.List.{length-append}
use Rattle.cal_base.specs.Lists.NameMap.{with_value}
use Rattle.cal_moment.specs.BadPlace.{IsBadAt}
use Rattle.cal_model.specs.declared.rule.Rule.{Rule}
use Rattle.cal_model.specs.Values.BadValues.{Reads}
use Rattle.cal_model.proofs.Values.CutLemmas.{cut-some}
use Rattle.ical_values.specs.RuleBeside.{value_beside}
use Rattle.ical_values.specs.RuleParts.{put}
use Rattle.ical_values.specs.RuleReading.{Fits}
use Rattle.ical_values.proofs.PartReading.{value_taken, value_bad}
use Rattle.ical_values.proofs.ReadTexts.{place_told}
use Rattle.ical_values.proofs.rule_reader.RuleReader.take_value.Goals as goal

pub overflow_sub-result : goal.overflow_sub-result
overflow_sub-result c =
    let name = c.args.name.now in
    let value = c.args.value.now in
    omega (arith, ap length (cut-some 61 c.args.text.now (name, value) c.requires.cuts), length-append name (61 ∷ value))

pub returns-in-Ok-clause-ok : goal.returns-in-Ok-clause-ok
returns-in-Ok-clause-ok c =
    let rule = c.args.self.now.rule in
    let names = c.args.self.now.names in
    let v = c.in-Ok.value in
    let same = c.add_name.ensures.rule in
    value_taken rule names c.requires.allowed c.args.text.now c.args.name.now c.args.value.now c.requires.cuts c.args.part c.requires.named c.requires.free v c.put.new.rule c.add_name.new.self.names
    (subst (λ (r : Rule). value_beside r c.args.part c.args.value.now ≡ Some v) same c.in-Ok.ensures.ok)
    (c.put.ensures ∙ ap (put v) same)
    (c.in_ok-add_name.ensures.names ∙ ap (λ n. with_value names n true) c.name_of.ensures)

pub returns-in-Err-Bad-clause-bad : goal.returns-in-Err-Bad-clause-bad
returns-in-Err-Bad-clause-bad c = λ place is.
    let rule = c.args.self.now.rule in
    let names = c.args.self.now.names in
    let text = c.args.text.now in
    let value = c.args.value.now in
    let own = c.in-Err-Bad.place in
    let bad = c.in-Err-Bad.ensures.bad own (ap (λ e. Err e) c.in-Err-Bad.field-0-is) in
    place_told (IsBadAt (Fits rule names) text) (length text - length value + own) place is
    (value_bad rule names c.requires.allowed text c.args.name.now value c.requires.cuts c.args.part c.requires.named c.requires.free own
    (subst (λ (r : Rule). IsBadAt (Reads (value_beside r c.args.part)) value own) c.add_name.ensures.rule bad))
