use Rattle.std.proofs.Common.{◌+◌, List, [], ◌∷◌, ◌++◌, take, ap, arith}
use Rattle.std.proofs.lemmas.List.{take_all}
use Rattle.cal_model.specs.declared.property.PropSet.{PropSet}
use Rattle.cal_model.specs.Properties.PropertyTable.{text_names}
use Rattle.dav_props.specs.Finding.{asking}
use Rattle.dav_props.specs.Subjects.{resource_of, texts_of}
use Rattle.dav_props.proofs.TellingLemmas.{tells_more, tells_as, texts_more}
use Rattle.dav_props.proofs.telling.tell_texts.Goals as goal

pub texts-preserved : goal.texts-preserved
texts-preserved g c unseen =
    let asker = asking (g.V.View.directory c.args.seen.now.view.now) c.args.seen.now.who in
    let resource = resource_of c.args.subject.now unseen in
    let set = c.set-item.result in
    let all = c.args.texts.now in
    let before = text_names (texts_of (take c.texts.set-index all)) in
    let one = text_names (texts_of (set ∷ [])) in
    tells_as asker resource c.args.telling (before ++ one) (text_names (texts_of (take (c.texts.set-index + 1) all))) c.args.response.now c.args.out.now c.tell_text.new.response c.tell_text.new.out
    (texts_more all c.texts.set-index set c.texts-test.true c.set-item.is)
    (tells_more asker resource c.args.telling before one c.args.response.now c.args.out.now c.texts.response c.texts.out c.tell_text.new.response c.tell_text.new.out (c.texts.invariant unseen) (c.in_ok-tell_text.ensures unseen))

pub returns : goal.returns
returns g c unseen =
    tells_as (asking (g.V.View.directory c.args.seen.now.view.now) c.args.seen.now.who) (resource_of c.args.subject.now unseen) c.args.telling (text_names (texts_of (take c.texts.set-index c.args.texts.now))) (text_names (texts_of c.args.texts.now))
    c.args.response.now c.args.out.now c.texts.response c.texts.out
    (ap (λ (sets : List PropSet). text_names (texts_of sets)) (take_all c.texts.set-index c.args.texts.now (omega arith))) (c.texts.invariant unseen)
