use Rattle.std.proofs.Common.{◌++◌, sym, ap, ◌∙◌}
use Rattle.cal_base.specs.Xml.CanonicalXml.{known_prefix}
use Rattle.dav_write.proofs.Appending.{on_ok_then}
use Rattle.dav_write.proofs.ElementLemmas.{written_attribute-known, written_attribute-other}
use Rattle.dav_write.proofs.tags.push_attribute.Goals as goal

pub returns-in-Some : goal.returns-in-Some
returns-in-Some c =
    on_ok_then c.push_known_attribute.result
    (λ written. written ∙ ap (λ text. c.args.out.now ++ text) (sym (written_attribute-known c.args.place c.args.attr.now c.in-Some.prefix.now (sym (c.in-Some.ensures ∙ ap known_prefix c.as_slice.ensures)))))
    c.push_known_attribute.ensures

pub returns-in-None : goal.returns-in-None
returns-in-None c =
    on_ok_then c.push_own_attribute.result
    (λ written. written ∙ ap (λ text. c.args.out.now ++ text) (sym (written_attribute-other c.args.place c.args.attr.now (sym (c.in-None.ensures ∙ ap known_prefix c.as_slice.ensures)))))
    c.push_own_attribute.ensures
