use Rattle.std.proofs.Common.{◌≡◌, ◌+◌, [], ◌∷◌, ◌++◌, take, sym, ap, ◌∙◌, arith}
use Rattle.std.proofs.lemmas.List.{take_more}
use Rattle.std.proofs.lemmas.List.{take_all}
use Rattle.cal_model.specs.declared.property.PropName.{PropName}
use Rattle.dav_props.specs.declared.telling.Telling.TheVariants.{Every}
use Rattle.dav_props.specs.Finding.{asking}
use Rattle.dav_props.specs.Rows.{asked_name}
use Rattle.dav_props.specs.Subjects.{resource_of}
use Rattle.dav_props.proofs.TellingLemmas.{tells_more, tells_as}
use Rattle.dav_props.proofs.telling.tell_named.Goals as goal

pub names-preserved : goal.names-preserved
names-preserved g c unseen =
    let asker = asking (g.V.View.directory c.args.seen.now.view.now) c.args.seen.now.who in
    let resource = resource_of c.args.subject.now unseen in
    let item = c.name-item.result in
    let before = take c.names.name-index c.args.named.now in
    let asked = asked_name c.asked_for-asked.result in
    let next : before ++ asked ∷ [] ≡ take (c.names.name-index + 1) c.args.named.now =
    ap (λ (n : PropName). before ++ n ∷ []) (c.asked_for-asked.ensures.name ∙ c.name-item.is) ∙ sym (take_more c.args.named.now c.names.name-index item c.names-test.true) in
    tells_as asker resource Every (before ++ asked ∷ []) (take (c.names.name-index + 1) c.args.named.now) c.args.response.now c.args.out.now c.tell.new.response c.tell.new.out next
    (tells_more asker resource Every before (asked ∷ []) c.args.response.now c.args.out.now c.names.response c.names.out c.tell.new.response c.tell.new.out (c.names.invariant unseen) (c.in_ok-tell.ensures unseen))

pub returns : goal.returns
returns g c unseen =
    tells_as (asking (g.V.View.directory c.args.seen.now.view.now) c.args.seen.now.who) (resource_of c.args.subject.now unseen) Every (take c.names.name-index c.args.named.now) c.args.named.now c.args.response.now c.args.out.now c.names.response c.names.out
    (take_all c.names.name-index c.args.named.now (omega arith)) (c.names.invariant unseen)
