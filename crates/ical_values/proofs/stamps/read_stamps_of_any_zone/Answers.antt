use Rattle.std.proofs.Common.{◌≡◌, Some, List, option_map, sym, ◌∙◌}
use Rattle.cal_moment.specs.declared.stamp.Stamp.{Stamp}
use Rattle.cal_model.specs.Values.BadValues.{stamps_by_value}
use Rattle.cal_model.specs.Values.RuleTexts.{list_of}
use Rattle.cal_model.specs.Values.StampTexts.{stamps_in_grammar}
use Rattle.ical_values.specs.Forms.{alone, stamp_by}
use Rattle.ical_values.proofs.FormPlaces.{stamps_lack_commas}
use Rattle.ical_values.proofs.ReadLines.{bad_by_values, no_value, ok_by, stamps_listed, stamps_alone}
use Rattle.ical_values.proofs.ReadTexts.{bad_map}
use Rattle.ical_values.proofs.stamps.read_stamps_of_any_zone.Goals as goal

pub read_list-requires : goal.read_list-requires
read_list-requires c = stamps_lack_commas c.stamp_form-form.result

pub returns-then-is_list-clause-ok : goal.returns-then-is_list-clause-ok
returns-then-is_list-clause-ok c =
    let zones = c.args.zones.now in
    let line = c.args.line.now in
    let read = stamp_by c.stamp_form-form.result in
    let same = stamps_listed zones line read c.stamp_form-form.ensures (sym c.is_list.ensures ∙ c.if-is_list.true) in
    ok_by (λ (stamps : List Stamp). list_of read line.value ≡ Some stamps) (λ (stamps : List Stamp). stamps_in_grammar zones line ≡ Some stamps) c.read_list.result (λ stamps is. sym (same line.value) ∙ is) (rw c.as_slice.ensures at c.read_list.ensures.ok)

pub returns-then-is_list-clause-bad : goal.returns-then-is_list-clause-bad
returns-then-is_list-clause-bad c = λ place is.
    let zones = c.args.zones.now in
    let line = c.args.line.now in
    let read = stamp_by c.stamp_form-form.result in
    let same = stamps_listed zones line read c.stamp_form-form.ensures (sym c.is_list.ensures ∙ c.if-is_list.true) in
    bad_by_values (list_of read) (stamps_by_value zones line) same line.value place (rw c.as_slice.ensures at (c.read_list.ensures.bad place is))

pub returns-else-is_list-clause-ok : goal.returns-else-is_list-clause-ok
returns-else-is_list-clause-ok c =
    let zones = c.args.zones.now in
    let line = c.args.line.now in
    let read = stamp_by c.stamp_form-form.result in
    let same = stamps_alone zones line read c.stamp_form-form.ensures (sym c.is_list.ensures ∙ c.if-is_list.false) in
    ok_by (λ (stamps : List Stamp). option_map alone (read line.value) ≡ Some stamps) (λ (stamps : List Stamp). stamps_in_grammar zones line ≡ Some stamps) c.read_alone.result (λ stamps is. sym (same line.value) ∙ is) (rw c.as_slice-else-is_list.ensures at c.read_alone.ensures.ok)

pub returns-else-is_list-clause-bad : goal.returns-else-is_list-clause-bad
returns-else-is_list-clause-bad c = λ place is.
    let zones = c.args.zones.now in
    let line = c.args.line.now in
    let read = stamp_by c.stamp_form-form.result in
    let same = stamps_alone zones line read c.stamp_form-form.ensures (sym c.is_list.ensures ∙ c.if-is_list.false) in
    bad_by_values (λ text. option_map alone (read text)) (stamps_by_value zones line) same line.value place (bad_map alone read line.value place (rw c.as_slice-else-is_list.ensures at (c.read_alone.ensures.bad place is)))

pub returns-then-is_list-clause-outside : goal.returns-then-is_list-clause-outside
returns-then-is_list-clause-outside c = λ place is.
    let zones = c.args.zones.now in
    let line = c.args.line.now in
    let read = stamp_by c.stamp_form-form.result in
    let same = stamps_listed zones line read c.stamp_form-form.ensures (sym c.is_list.ensures ∙ c.if-is_list.true) in
    no_value (stamps_by_value zones line) line.value (bad_by_values (list_of read) (stamps_by_value zones line) same line.value place (rw c.as_slice.ensures at (c.read_list.ensures.bad place is))).outside

pub returns-else-is_list-clause-outside : goal.returns-else-is_list-clause-outside
returns-else-is_list-clause-outside c = λ place is.
    let zones = c.args.zones.now in
    let line = c.args.line.now in
    let read = stamp_by c.stamp_form-form.result in
    let same = stamps_alone zones line read c.stamp_form-form.ensures (sym c.is_list.ensures ∙ c.if-is_list.false) in
    no_value (stamps_by_value zones line) line.value (bad_by_values (λ text. option_map alone (read text)) (stamps_by_value zones line) same line.value place (bad_map alone read line.value place (rw c.as_slice-else-is_list.ensures at (c.read_alone.ensures.bad place is)))).outside
