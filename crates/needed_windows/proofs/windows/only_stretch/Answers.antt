use Rattle.std.proofs.Common.{◌≡◌, [], length, sym, ap, ◌∙◌}
use Rattle.std.specs.Prelude.{is_some}
use Rattle.std.specs.List.{list_any}
use Rattle.std.proofs.lemmas.Bool.{eqb-true}
use Rattle.std.proofs.lemmas.List.{nil_from_length}
use Rattle.cal_model.specs.declared.object.Component.{Component}
use Rattle.cal_model.specs.Instances.Rows.{overrides}
use Rattle.needed_windows.specs.Stretches.{window_of_place}
use Rattle.needed_windows.proofs.WindowsFound.{counts_one, no_overrides}
use Rattle.needed_windows.proofs.windows.only_stretch.Goals as goal

pub returns-clause-windows : goal.returns-clause-windows
returns-clause-windows c = λ place below.
    let none : overrides c.args.object.now ≡ [] =
    no_overrides c.args.object.now (sym (ap (list_any (λ (x : Component). is_some x.recurrence_id)) c.as_slice.ensures) ∙ sym c.has_override.ensures ∙ c.if-has_override.false) in
    let more = c.in_ok-range.more.now in
    let last : more ≡ [] = nil_from_length more (eqb-true (length more) 0 (sym c.is_empty.ensures ∙ c.if-not-is_empty.false)) in
    rw c.margin.ensures.value at (c.widened.ensures.windows place below)
    ∙ counts_one c.args.object.now c.args.ranges.now c.in_ok-range.more.now c.in_ok-range.range.now (window_of_place place) c.in_ok-range.ensures.cases.0 last none
