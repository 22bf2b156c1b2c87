use Rattle.std.proofs.Common.{◌++◌, length, sym, ap, ◌∙◌}
use Rattle.std.specs.Prelude.{codes}
use Rattle.dav_write.proofs.Appending.{on_ok_then}
use Rattle.cal_model.specs.Properties.PropertyTable.{Answer}
use Rattle.cal_model.specs.Properties.PropertyReplies.{property_element}
use Rattle.multistatus.specs.PropertyTags.{opened}
use Rattle.dav_props.specs.Contents.{shown_content}
use Rattle.dav_props.specs.Rows.{asked_name}
use Rattle.dav_props.proofs.StatusLemmas.{is_on_at, is_held_at, value_at, content_is, answer_whole}
use Rattle.multistatus.proofs.TagLemmas.{closed_is, within, kept_front, front_stays, opened_behind}
use Rattle.dav_props.proofs.answers.push_whole.Goals as goal

pub push_close-requires : goal.push_close-requires
push_close-requires g c = within _ _ _ _ _ c.len-place.ensures c.in_ok-push.ensures.ok c.in_ok-push_content.ensures.text

pub returns-clause-element : goal.returns-clause-element
returns-clause-element g c =
    let directory = g.V.View.directory c.args.seen.now.view.now in
    let who = c.args.seen.now.who in
    let asked = c.args.asked.now in
    let seen = c.args.subject.now in
    let old = c.args.out.now in
    let content = shown_content directory who asked.row (asked_name asked) seen in
    on_ok_then c.push_close.result
    (λ written shown unseen here fine.
    written
    ∙ closed_is old asked.space.now asked.name.now content _ _ (c.len-place.ensures ∙ ap length c.in_ok-push_open.ensures.text)
    (c.in_ok-push_content.ensures.text ∙ ap (λ text. text ++ content) (c.in_ok-push.ensures.ok ∙ ap (λ text. text ++ codes ">") c.in_ok-push_open.ensures.text))
    ∙ ap (λ (a : Answer). old ++ property_element a)
    (sym (answer_whole (asked_name asked) (is_on_at directory who shown unseen asked.row (asked_name asked) seen) (is_held_at directory who shown unseen asked.row (asked_name asked) seen)
    (value_at directory who shown unseen asked.row (asked_name asked) seen) content (λ found. content_is directory who shown unseen asked.row (asked_name asked) seen found c.requires.users here) fine)))
    c.push_close.ensures.text

pub returns-clause-front : goal.returns-clause-front
returns-clause-front g c =
    let asked = c.args.asked.now in
    let content = shown_content (g.V.View.directory c.args.seen.now.view.now) c.args.seen.now.who asked.row (asked_name asked) c.args.subject.now in
    kept_front c.args.out.now _ _ _ (opened_behind c.args.out.now (opened asked.space.now asked.name.now) _ _ c.in_ok-push_open.ensures.text c.len-place.ensures) c.push_close.ensures.front
    (front_stays c.args.out.now (opened asked.space.now asked.name.now) (codes ">") content _
    (c.in_ok-push_content.ensures.text ∙ ap (λ text. text ++ content) (c.in_ok-push.ensures.ok ∙ ap (λ text. text ++ codes ">") c.in_ok-push_open.ensures.text)))
