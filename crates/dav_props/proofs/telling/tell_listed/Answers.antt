use Rattle.std.proofs.Common.{◌++◌, map, sym}
use Rattle.std.specs.Prelude.{filter}
use Rattle.dav_write.proofs.Appending.{on_ok_then}
use Rattle.cal_model.specs.Properties.PropertyTable.{text_names, names_where}
use Rattle.dav_props.specs.Finding.{asking, lists}
use Rattle.dav_props.specs.Rows.{listed_rows, name_of, property_of}
use Rattle.dav_props.specs.Subjects.{resource_of, texts_of}
use Rattle.dav_props.proofs.TellingLemmas.{listed_names, tells_as, tells_more}
use Rattle.dav_props.proofs.telling.tell_listed.Goals as goal

pub returns : goal.returns
returns g c =
    let telling = c.args.telling in
    let named = map name_of (filter (λ row. lists telling (property_of row (name_of row)).listed) listed_rows) in
    let texts = text_names (texts_of c.texts_on.result.now) in
    on_ok_then c.tell_texts.result
    (λ tells unseen.
    let asker = asking (g.V.View.directory c.args.seen.now.view.now) c.args.seen.now.who in
    let resource = resource_of c.args.subject.now unseen in
    tells_as asker resource telling (named ++ texts) (names_where (lists telling) resource) c.args.response.now c.args.out.now c.tell_texts.new.response c.tell_texts.new.out
    (λ i. sym (listed_names (lists telling)) i ++ text_names (sym (c.texts_on.ensures unseen) i))
    (tells_more asker resource telling named texts c.args.response.now c.args.out.now c.tell_rows.new.response c.tell_rows.new.out c.tell_texts.new.response c.tell_texts.new.out
    (c.in_ok-tell_rows.ensures unseen) (tells unseen)))
    c.tell_texts.ensures
