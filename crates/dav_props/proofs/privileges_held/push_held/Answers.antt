use Rattle.std.specs.Prelude.{codes}
use Rattle.dav_write.proofs.Appending.{then_more, on_ok_then}
use Rattle.cal_model.specs.Properties.PropertyValues.{bit_elements}
use Rattle.dav_props.specs.Contents.{piece_where}
use Rattle.dav_props.proofs.privileges_held.push_held.Goals as goal

pub returns-clause-text : goal.returns-clause-text
returns-clause-text c =
    let set = c.args.set in
    on_ok_then c.push_if_all-2.result
    (λ written.
    then_more c.args.out.now (bit_elements set) _ c.in_ok-push_privileges.ensures.text
    (then_more _ (piece_where set 60 (codes "<D:privilege><D:write/></D:privilege>")) (piece_where set 511 (codes "<D:privilege><D:all/></D:privilege>")) c.in_ok-push_if_all.ensures.text written))
    c.push_if_all-2.ensures.text
