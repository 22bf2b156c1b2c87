use Rattle.std.proofs.Common.{[], ◌∷◌, sym}
use Rattle.dav_write.proofs.Appending.{on_ok_then}
use Rattle.cal_model.specs.Properties.PropertyTable.{text_names}
use Rattle.dav_props.specs.Finding.{asking}
use Rattle.dav_props.specs.Rows.{asked_name}
use Rattle.dav_props.specs.Subjects.{resource_of, texts_of}
use Rattle.dav_props.proofs.TellingLemmas.{text_listed, tells_as}
use Rattle.dav_props.proofs.telling.tell_text.Goals as goal

pub returns : goal.returns
returns g c =
    let asked = asked_name c.asked_for-asked.result in
    let set = c.args.set.now in
    on_ok_then c.tell.result
    (λ tells unseen.
    tells_as (asking (g.V.View.directory c.args.seen.now.view.now) c.args.seen.now.who) (resource_of c.args.subject.now unseen) c.args.telling (asked ∷ []) (text_names (texts_of (set ∷ [])))
    c.args.response.now c.args.out.now c.tell.new.response c.tell.new.out
    (text_listed set asked c.asked_for-asked.ensures.name (sym c.if-not-is_text.ensures)) (tells unseen))
    c.tell.ensures
