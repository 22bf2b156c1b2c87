use Rattle.std.proofs.Common.{◌++◌, ap, ◌∙◌}
use Rattle.std.specs.Prelude.{codes}
use Rattle.dav_write.proofs.Appending.{then_more, on_ok_then}
use Rattle.dav_props.specs.Contents.{piece_where}
use Rattle.dav_props.proofs.PieceLemmas.{kinds_are}
use Rattle.dav_props.proofs.contents.push_kinds.Goals as goal

pub returns-clause-text : goal.returns-clause-text
returns-clause-text c =
    let kinds = c.args.kinds in
    on_ok_then c.push_if_all-4.result
    (λ written.
    then_more c.args.out.now (piece_where kinds 1 (codes "<C:comp name=\"VEVENT\"/>")) _ c.in_ok-push_if_all.ensures.text
    (then_more _ (piece_where kinds 2 (codes "<C:comp name=\"VTODO\"/>")) _ c.in_ok-push_if_all-2.ensures.text
    (then_more _ (piece_where kinds 4 (codes "<C:comp name=\"VJOURNAL\"/>")) (piece_where kinds 8 (codes "<C:comp name=\"VFREEBUSY\"/>")) c.in_ok-push_if_all-3.ensures.text written))
    ∙ ap (λ text. c.args.out.now ++ text) (kinds_are kinds))
    c.push_if_all-4.ensures.text
