use Rattle.std.proofs.Common.{◌++◌, codes, sym, ap, ◌∙◌}
use Rattle.cal_model.specs.Replies.Hrefs.{href}
use Rattle.dav_write.proofs.Appending.{on_ok_then}
use Rattle.dav_write.proofs.PathLemmas.{step}
use Rattle.dav_write.proofs.paths.push_path.Goals as goal

pub returns-in-Principal-clause-text : goal.returns-in-Principal-clause-text
returns-in-Principal-clause-text c =
    on_ok_then c.push_collection.result
    (λ written. written ∙ ap (λ user. c.args.out.now ++ step (codes "/principals/") user) c.as_slice.ensures ∙ sym (ap (λ path. c.args.out.now ++ href path) c.in-Principal.is))
    c.push_collection.ensures.text
