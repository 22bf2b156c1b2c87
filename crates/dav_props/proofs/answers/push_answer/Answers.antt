use Rattle.std.proofs.Common.{◌++◌, ℕ, List, Option, sym, ap, ◌∙◌}
use Rattle.dav_write.proofs.Appending.{on_ok_then}
use Rattle.cal_model.specs.Properties.PropertyTable.{Answer, without_value}
use Rattle.cal_model.specs.declared.property.PropName.{PropName}
use Rattle.cal_model.specs.Properties.PropertyReplies.{property_element}
use Rattle.dav_props.proofs.RowLemmas.{shown_anywhere}
use Rattle.dav_props.proofs.SeenLemmas.{seen_is, nothing_is, if_ok_then}
use Rattle.dav_props.proofs.answers.push_answer.Goals as goal

pub returns-in-Some : goal.returns-in-Some
returns-in-Some g c =
    let directory = g.V.View.directory c.args.seen.now.view.now in
    let state = g.V.View.state c.args.seen.now.view.now in
    let who = c.args.seen.now.who in
    let name = c.args.name.now in
    let asked = c.asked_for-asked.result in
    let found = c.in-Some.ensures.some in
    let is = λ (shown : Option (List ℕ → List ℕ)). seen_is directory state who c.args.path.now name asked c.in-Some.subject found.unseen shown found.is c.asked_for-asked.ensures.name c.asked_for-asked.ensures.row in
    let here = λ (shown : Option (List ℕ → List ℕ)). shown_anywhere asked.row name shown c.asked_for-asked.ensures.own c.requires.not_data in
    record {
      status = if_ok_then c.push_property.result (λ status told shown. told shown found.unseen (here shown) ∙ ap (λ (a : Answer). a.status) (sym (is shown))) c.push_property.ensures.status;
      element = on_ok_then c.push_property.result (λ told shown. told shown found.unseen (here shown) ∙ ap (λ (a : Answer). c.args.out.now ++ property_element a) (sym (is shown))) c.push_property.ensures.element;
      front = c.push_property.ensures.front;
    }

pub returns-in-None : goal.returns-in-None
returns-in-None g c =
    let directory = g.V.View.directory c.args.seen.now.view.now in
    let state = g.V.View.state c.args.seen.now.view.now in
    let none = λ (shown : Option (List ℕ → List ℕ)). nothing_is directory state c.args.seen.now.who c.args.path.now c.args.name.now shown c.in-None.ensures.none in
    record {
      status = if_ok_then c.push_absent.result (λ status told shown. told ∙ ap (λ (a : Answer). a.status) (sym (none shown))) c.push_absent.ensures.status;
      element =
          on_ok_then c.push_absent.result
          (λ told shown. told ∙ ap (λ (n : PropName). c.args.out.now ++ property_element (without_value n 404)) c.asked_for-asked.ensures.name ∙ ap (λ (a : Answer). c.args.out.now ++ property_element a) (sym (none shown)))
          c.push_absent.ensures.element;
      front = c.push_absent.ensures.front;
    }
