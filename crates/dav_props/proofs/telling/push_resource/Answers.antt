use Rattle.std.proofs.Common.{◌≡◌, ℕ, List, ◌++◌, refl, sym, ap, ◌∙◌}
use Rattle.dav_write.proofs.Appending.{on_ok_then}
use Rattle.cal_model.specs.declared.property.Props.{Props}
use Rattle.cal_model.specs.declared.property.Props.TheVariants.{All as AllProps, Names as AllNames, None as NoProps, Some as SomeProps}
use Rattle.cal_model.specs.Properties.PropertyReplies.{answers, propstats, resource_response, status_response}
use Rattle.cal_model.specs.Replies.Hrefs.{href as href_of}
use Rattle.cal_model.specs.Replies.XmlText.{response}
use Rattle.cal_model.specs.Sight.Resources.{Resource, Asker, path_of_resource}
use Rattle.dav_props.specs.Finding.{asking}
use Rattle.dav_props.specs.Subjects.{resource_of}
use Rattle.dav_props.proofs.telling.push_resource.Goals as goal

-- with properties
response_is : (asker : Asker) (props : Props) (resource : Resource) → (props ≡ NoProps → ⊥) → response (href_of (path_of_resource resource)) (propstats (answers asker resource props)) ≡ resource_response asker props resource
response_is asker AllProps resource some = refl
response_is asker AllNames resource some = refl
response_is asker NoProps resource some = absurd (some refl)
response_is asker (SomeProps names) resource some = refl

pub returns-in-None : goal.returns-in-None
returns-in-None g c =
    on_ok_then c.push_status_response.result
    (λ written unseen at. written ∙ ap (λ (href : List ℕ). c.args.out.now ++ status_response href 200) at
    ∙ ap (λ (props : Props). c.args.out.now ++ resource_response (asking (g.V.View.directory c.args.seen.now.view.now) c.args.seen.now.who) props (resource_of c.args.subject.now unseen)) (sym c.in-None.is))
    c.push_status_response.ensures.text

pub returns-in_default : goal.returns-in_default
returns-in_default g c =
    let asker = asking (g.V.View.directory c.args.seen.now.view.now) c.args.seen.now.who in
    on_ok_then c.push_properties.result
    (λ written unseen at.
    let resource = resource_of c.args.subject.now unseen in
    written unseen ∙ ap (λ (href : List ℕ). c.args.out.now ++ response href (propstats (answers asker resource c.args.props.now))) at
    ∙ ap (λ text. c.args.out.now ++ text) (response_is asker c.args.props.now resource c.in_default.not-None))
    c.push_properties.ensures
