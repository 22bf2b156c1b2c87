use Rattle.std.proofs.Common.{◌++◌, ap, ◌∙◌}
use Rattle.dav_write.proofs.Appending.{on_ok_then}
use Rattle.dav_props.proofs.contents.push_moment.Goals as goal

pub returns-clause-text : goal.returns-clause-text
returns-clause-text c = on_ok_then c.extend_from_slice.result (λ written. written ∙ ap (λ text. c.args.out.now ++ text) (c.as_slice.ensures ∙ c.write_utc-text.ensures.text)) c.extend_from_slice.ensures.ok
