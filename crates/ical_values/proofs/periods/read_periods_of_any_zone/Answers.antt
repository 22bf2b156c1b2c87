use Rattle.std.proofs.Common.{◌≡◌, Some, List, option_map, sym, ◌∙◌}
use Rattle.cal_moment.specs.declared.stamp.Period.{Period}
use Rattle.cal_model.specs.Values.BadValues.{periods_by_value}
use Rattle.cal_model.specs.Values.RuleTexts.{list_of}
use Rattle.cal_model.specs.Values.StampTexts.{periods_in_grammar}
use Rattle.ical_values.specs.Forms.{alone, period_by}
use Rattle.ical_values.proofs.PeriodLists.{periods_lack_commas}
use Rattle.ical_values.proofs.ReadLines.{bad_by_values, no_value, ok_by, periods_listed, periods_alone}
use Rattle.ical_values.proofs.ReadTexts.{bad_map}
use Rattle.ical_values.proofs.periods.read_periods_of_any_zone.Goals as goal

pub read_list-requires : goal.read_list-requires
read_list-requires c = periods_lack_commas c.period_form-form.result

pub returns-then-is_list-clause-ok : goal.returns-then-is_list-clause-ok
returns-then-is_list-clause-ok c =
    let zones = c.args.zones.now in
    let line = c.args.line.now in
    let read = period_by c.period_form-form.result in
    let same = periods_listed zones line read c.period_form-form.ensures (sym c.is_list.ensures ∙ c.if-is_list.true) in
    ok_by (λ (periods : List Period). list_of read line.value ≡ Some periods) (λ (periods : List Period). periods_in_grammar zones line ≡ Some periods) c.read_list.result (λ periods is. sym (same line.value) ∙ is) (rw c.as_slice.ensures at c.read_list.ensures.ok)

pub returns-then-is_list-clause-bad : goal.returns-then-is_list-clause-bad
returns-then-is_list-clause-bad c = λ place is.
    let zones = c.args.zones.now in
    let line = c.args.line.now in
    let read = period_by c.period_form-form.result in
    let same = periods_listed zones line read c.period_form-form.ensures (sym c.is_list.ensures ∙ c.if-is_list.true) in
    bad_by_values (list_of read) (periods_by_value zones line) same line.value place (rw c.as_slice.ensures at (c.read_list.ensures.bad place is))

pub returns-else-is_list-clause-ok : goal.returns-else-is_list-clause-ok
returns-else-is_list-clause-ok c =
    let zones = c.args.zones.now in
    let line = c.args.line.now in
    let read = period_by c.period_form-form.result in
    let same = periods_alone zones line read c.period_form-form.ensures (sym c.is_list.ensures ∙ c.if-is_list.false) in
    ok_by (λ (periods : List Period). option_map alone (read line.value) ≡ Some periods) (λ (periods : List Period). periods_in_grammar zones line ≡ Some periods) c.read_alone.result (λ periods is. sym (same line.value) ∙ is) (rw c.as_slice-else-is_list.ensures at c.read_alone.ensures.ok)

pub returns-else-is_list-clause-bad : goal.returns-else-is_list-clause-bad
returns-else-is_list-clause-bad c = λ place is.
    let zones = c.args.zones.now in
    let line = c.args.line.now in
    let read = period_by c.period_form-form.result in
    let same = periods_alone zones line read c.period_form-form.ensures (sym c.is_list.ensures ∙ c.if-is_list.false) in
    bad_by_values (λ text. option_map alone (read text)) (periods_by_value zones line) same line.value place (bad_map alone read line.value place (rw c.as_slice-else-is_list.ensures at (c.read_alone.ensures.bad place is)))

pub returns-then-is_list-clause-outside : goal.returns-then-is_list-clause-outside
returns-then-is_list-clause-outside c = λ place is.
    let zones = c.args.zones.now in
    let line = c.args.line.now in
    let read = period_by c.period_form-form.result in
    let same = periods_listed zones line read c.period_form-form.ensures (sym c.is_list.ensures ∙ c.if-is_list.true) in
    no_value (periods_by_value zones line) line.value (bad_by_values (list_of read) (periods_by_value zones line) same line.value place (rw c.as_slice.ensures at (c.read_list.ensures.bad place is))).outside

pub returns-else-is_list-clause-outside : goal.returns-else-is_list-clause-outside
returns-else-is_list-clause-outside c = λ place is.
    let zones = c.args.zones.now in
    let line = c.args.line.now in
    let read = period_by c.period_form-form.result in
    let same = periods_alone zones line read c.period_form-form.ensures (sym c.is_list.ensures ∙ c.if-is_list.false) in
    no_value (periods_by_value zones line) line.value (bad_by_values (λ text. option_map alone (read text)) (periods_by_value zones line) same line.value place (bad_map alone read line.value place (rw c.as_slice-else-is_list.ensures at (c.read_alone.ensures.bad place is)))).outside
