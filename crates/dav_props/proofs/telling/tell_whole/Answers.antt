use Rattle.std.proofs.Common.{List, ℕ, [], ◌∷◌, ◌++◌, None, sym, ap, subst, ◌∙◌}
use Rattle.cal_model.specs.Properties.PropertyReplies.{property_element}
use Rattle.cal_model.specs.Properties.PropertyTable.{Answer, answer}
use Rattle.multistatus.specs.Answered.{IsAnswered}
use Rattle.dav_props.specs.declared.telling.Telling.TheVariants.{Every}
use Rattle.dav_props.specs.Finding.{Tells, asking}
use Rattle.dav_props.specs.Rows.{asked_name}
use Rattle.dav_props.specs.Subjects.{Unseen, resource_of}
use Rattle.dav_props.proofs.TellingLemmas.{answered_is, appended_at, on_ok_each, on_ok_told, shown_none}
use Rattle.dav_props.proofs.telling.tell_whole.Goals as goal

pub returns : goal.returns
returns g c =
    let directory = g.V.View.directory c.args.seen.now.view.now in
    let who = c.args.seen.now.who in
    let asked = c.args.asked.now in
    on_ok_each (λ (unseen : Unseen). Tells (asking directory who) (resource_of c.args.subject.now unseen) Every (asked_name asked ∷ []) c.args.response.now c.args.out.now c.take_in.new.self c.take_in.new.out) c.take_in.result
    (λ unseen.
    let a = answer (asking directory who) (resource_of c.args.subject.now unseen) (asked_name asked) in
    let same = answered_is directory who asked c.args.subject.now unseen c.requires.found in
    let here = appended_at c.args.out.now c.push_property.new.out (property_element a) c.len-place.result c.len-place.ensures
    (c.in_ok-status.ensures.element None unseen (shown_none asked.row) ∙ ap (λ (b : Answer). c.args.out.now ++ property_element b) same) in
    on_ok_told c.take_in.result c.args.response.now c.args.out.now c.take_in.new.self c.take_in.new.out (a ∷ [])
    (λ front href before so_far. c.take_in.ensures.answered front href before a (subst (λ (written : List ℕ). IsAnswered front href before c.args.response.now written) (sym here.0) so_far) here.1
    (c.in_ok-status.ensures.status None unseen (shown_none asked.row) ∙ ap (λ (b : Answer). b.status) same)))
