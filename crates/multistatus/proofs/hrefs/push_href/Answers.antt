use Rattle.std.proofs.Common.{◌++◌, ap, ◌∙◌}
use Rattle.std.specs.Prelude.{codes}
use Rattle.cal_model.specs.Replies.Hrefs.{href}
use Rattle.dav_write.proofs.Appending.{then_more, on_ok_then}
use Rattle.multistatus.proofs.TagLemmas.{href_pieces}
use Rattle.multistatus.proofs.hrefs.push_href.Goals as goal

pub returns-clause-text : goal.returns-clause-text
returns-clause-text c =
    on_ok_then c.extend_from_slice-2.result
    (λ written.
    then_more c.args.out.now (codes "<D:href>") _ c.in_ok-extend_from_slice.ensures.ok (then_more _ (href c.args.path.now) (codes "</D:href>") c.in_ok-append_path.ensures.ok written)
    ∙ ap (λ text. c.args.out.now ++ text) (href_pieces c.args.path.now))
    c.extend_from_slice-2.ensures.ok
