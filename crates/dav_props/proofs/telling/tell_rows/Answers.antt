use Rattle.std.proofs.Common.{◌+◌, List, [], ◌∷◌, ◌++◌, get_or, map, take, ap, arith}
use Rattle.std.specs.Prelude.{filter}
use Rattle.std.proofs.lemmas.List.{take_all}
use Rattle.dav_props.specs.declared.rows.Row.{Row}
use Rattle.dav_props.specs.declared.rows.Row.TheVariants as rows
use Rattle.dav_props.specs.Finding.{asking, lists}
use Rattle.dav_props.specs.Rows.{name_of, property_of}
use Rattle.dav_props.specs.Subjects.{resource_of}
use Rattle.dav_props.proofs.TellingLemmas.{rows_more, tells_more, tells_as}
use Rattle.dav_props.proofs.telling.tell_rows.Goals as goal

pub rows-preserved : goal.rows-preserved
rows-preserved g c unseen =
    let asker = asking (g.V.View.directory c.args.seen.now.view.now) c.args.seen.now.who in
    let resource = resource_of c.args.subject.now unseen in
    let all = c.args.rows.now in
    let named = λ (some : List Row). map name_of (filter (λ row. lists c.args.telling (property_of row (name_of row)).listed) some) in
    let before = named (take c.rows.row-index all) in
    let one = named (get_or all c.rows.row-index rows.ResourceType ∷ []) in
    tells_as asker resource c.args.telling (before ++ one) (named (take (c.rows.row-index + 1) all)) c.args.response.now c.args.out.now c.tell_row.new.response c.tell_row.new.out
    (rows_more (λ row. lists c.args.telling (property_of row (name_of row)).listed) all c.rows.row-index rows.ResourceType c.rows-test.true)
    (tells_more asker resource c.args.telling before one c.args.response.now c.args.out.now c.rows.response c.rows.out c.tell_row.new.response c.tell_row.new.out (c.rows.invariant unseen) (c.in_ok-tell_row.ensures unseen))

pub returns : goal.returns
returns g c unseen =
    let named = λ (some : List Row). map name_of (filter (λ row. lists c.args.telling (property_of row (name_of row)).listed) some) in
    tells_as (asking (g.V.View.directory c.args.seen.now.view.now) c.args.seen.now.who) (resource_of c.args.subject.now unseen) c.args.telling (named (take c.rows.row-index c.args.rows.now)) (named c.args.rows.now)
    c.args.response.now c.args.out.now c.rows.response c.rows.out
    (ap named (take_all c.rows.row-index c.args.rows.now (omega arith))) (c.rows.invariant unseen)
