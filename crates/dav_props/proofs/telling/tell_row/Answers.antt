use Rattle.std.proofs.Common.{◌≡◌, [], ◌∷◌, map, true, sym}
use Rattle.std.specs.Prelude.{filter}
use Rattle.dav_write.proofs.Appending.{on_ok_then}
use Rattle.dav_props.specs.Finding.{asking, lists}
use Rattle.dav_props.specs.Rows.{asked_name, name_of, property_of}
use Rattle.dav_props.specs.Subjects.{resource_of}
use Rattle.dav_props.proofs.TellingLemmas.{found_row, row_listed, tells_as}
use Rattle.dav_props.proofs.telling.tell_row.Goals as goal

pub tell-requires-clause-found : goal.tell-requires-clause-found
tell-requires-clause-found g c = found_row c.asked_row-asked.result c.args.row c.asked_row-asked.ensures.name c.asked_row-asked.ensures.row

pub returns : goal.returns
returns g c =
    let asked = asked_name c.asked_row-asked.result in
    let listed : lists c.args.telling (property_of c.args.row (name_of c.args.row)).listed ≡ true = sym (c.if-not-is_listed.ensures (name_of c.args.row)) in
    on_ok_then c.tell.result
    (λ tells unseen.
    tells_as (asking (g.V.View.directory c.args.seen.now.view.now) c.args.seen.now.who) (resource_of c.args.subject.now unseen) c.args.telling (asked ∷ []) (map name_of (filter (λ row. lists c.args.telling (property_of row (name_of row)).listed) (c.args.row ∷ [])))
    c.args.response.now c.args.out.now c.tell.new.response c.tell.new.out
    (row_listed (λ row. lists c.args.telling (property_of row (name_of row)).listed) c.args.row asked c.asked_row-asked.ensures.name listed) (tells unseen))
    c.tell.ensures
