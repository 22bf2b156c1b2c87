use Rattle.std.proofs.Common.{Some, None, option_map, sym, ap, ◌∙◌}
use Rattle.cal_model.specs.Values.BadValues.{Reads}
use Rattle.cal_model.specs.Values.RuleTexts.{until_of}
use Rattle.cal_model.proofs.Values.BadValueLaws.{bad_by_same}
use Rattle.ical_values.specs.declared.stamps.StampForm.TheVariants.{DateOrTime}
use Rattle.ical_values.specs.Forms.{stamp_by}
use Rattle.ical_values.specs.UntilForms.{until_at}
use Rattle.ical_values.proofs.ReadTexts.{bad_map}
use Rattle.ical_values.proofs.UntilReading.{until_is}
use Rattle.ical_values.proofs.rule_until.read_until.Goals as goal

pub returns-in-Ok-clause-ok : goal.returns-in-Ok-clause-ok
returns-in-Ok-clause-ok c =
    until_is c.args.text.now ∙ (ap (option_map until_at) c.in-Ok.ensures.ok ∙ ap (λ until. Some until) (sym c.until_at.ensures))

pub returns-in-Err-clause-bad : goal.returns-in-Err-clause-bad
returns-in-Err-clause-bad c =
    let read = stamp_by (DateOrTime None) in
    bad_by_same (Reads (λ t. option_map until_at (read t))) (Reads until_of) (λ t is. (is.0, until_is t ∙ is.1)) (λ t is. (is.0, sym (until_is t) ∙ is.1)) c.args.text.now c.in-Err.fault.place
    (bad_map until_at read c.args.text.now c.in-Err.fault.place c.in-Err.ensures.bad)
