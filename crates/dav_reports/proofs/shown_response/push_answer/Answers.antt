use Rattle.std.proofs.Common.{◌++◌, sym, ap, ◌∙◌, None}
use Rattle.std.specs.Prelude.{Some}
use Rattle.cal_model.specs.Properties.PropertyTable.{Answer}
use Rattle.cal_model.specs.Properties.PropertyReplies.{property_element}
use Rattle.dav_write.proofs.Appending.{on_ok_then}
use Rattle.multistatus.proofs.TagLemmas.{ends_front}
use Rattle.dav_reports.proofs.ShownLemmas.{seen_answered, data_answered, if_ok_then}
use Rattle.dav_reports.proofs.shown_response.push_answer.Goals as goal

pub returns-then-is_calendar_data-clause-status : goal.returns-then-is_calendar_data-clause-status
returns-then-is_calendar_data-clause-status g c shown resource is =
    ap (λ (a : Answer). a.status) (data_answered is c.args.name.now (sym c.is_calendar_data.ensures ∙ c.if-is_calendar_data.true))

pub returns-then-is_calendar_data-clause-element : goal.returns-then-is_calendar_data-clause-element
returns-then-is_calendar_data-clause-element g c shown resource is =
    c.in_ok-push_text_property.ensures.element ∙ ap (λ (a : Answer). c.args.out.now ++ property_element a) (data_answered is c.args.name.now (sym c.is_calendar_data.ensures ∙ c.if-is_calendar_data.true))

pub returns-clause-status : goal.returns-clause-status
returns-clause-status g c = if_ok_then c.answer.result (λ status known shown resource is. known (Some shown) ∙ ap (λ (a : Answer). a.status) (seen_answered is c.args.name.now)) c.answer.ensures.status

pub returns-clause-element : goal.returns-clause-element
returns-clause-element g c =
    on_ok_then c.answer.result (λ known shown resource is. known (Some shown) ∙ ap (λ (a : Answer). c.args.out.now ++ property_element a) (seen_answered is c.args.name.now)) c.answer.ensures.element

pub returns-clause-front : goal.returns-clause-front
returns-clause-front g c = ends_front c.answer.result _ _ _ (on_ok_then c.answer.result (λ known. known None) c.answer.ensures.element) c.answer.ensures.err
