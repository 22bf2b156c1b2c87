use Rattle.std.proofs.Common.{ap, sym, ◌∙◌, subst, List, ℕ, Err, Option}
use Rattle.std.specs.Prelude.{All, IfSome, option_map, option_and_then}
use Rattle.cal_base.specs.Lines.ComponentTrees.{first}
use Rattle.cal_moment.specs.declared.stamp.Stamp.{Stamp}
use Rattle.cal_model.specs.Filters.DateProperties.{DateReading, as_floating, local_stamp}
use Rattle.cal_model.specs.Values.BadValues.{stamps_by_value}
use Rattle.cal_model.specs.Values.StampTexts.{stamps_in_grammar}
use Rattle.filter_eval.specs.Instants.{IsDated}
use Rattle.filter_eval.proofs.ReadStamps.{all_dated, floating_dated}
use Rattle.filter_eval.proofs.UnreadTexts.{not_read}
use Rattle.filter_eval.proofs.dates.Dates.local_stamp.Goals as goal

pub first_as_floating-requires : goal.first_as_floating-requires
first_as_floating-requires c = subst (All IsDated) (sym c.as_slice.ensures) (all_dated c.self.inside.names c.args.line.now c.in-Ok.stamps c.in-Ok.ensures.ok)

pub returns-in-Ok-clause-dated : goal.returns-in-Ok-clause-dated
returns-in-Ok-clause-dated c =
    subst (λ (o : Option Stamp). IfSome o IsDated) (sym (c.first_as_floating.ensures ∙ ap (λ (ss : List Stamp). option_map as_floating (first ss)) c.as_slice.ensures))
    (floating_dated c.self.inside.names c.args.line.now c.in-Ok.stamps c.in-Ok.ensures.ok)

pub returns-in-Err-Bad-clause-stamp : goal.returns-in-Err-Bad-clause-stamp
returns-in-Err-Bad-clause-stamp c =
    let none = not_read (stamps_by_value c.self.inside.names c.args.line.now) c.args.line.now.value c.in-Err-Bad.field-0-0 (c.in-Err-Bad.ensures.bad c.in-Err-Bad.field-0-0 (ap Err c.in-Err-Bad.field-0-is)) in
    ap (λ (o : Option (List Stamp)). option_map as_floating (option_and_then first o)) (sym none)
    ∙ (ap (λ (names : List (List ℕ)). option_map as_floating (option_and_then first (stamps_in_grammar names c.args.line.now))) c.self.invariant.0
    ∙ ap (λ (reading : DateReading). local_stamp reading c.args.line.now) c.self.view_is)
