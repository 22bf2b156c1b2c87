use Rattle.std.proofs.Common.{◌++◌, codes, sym, ap, ◌∙◌, subst}
use Rattle.cal_base.specs.Xml.XmlBodies.{IsBody}
use Rattle.dav_write.proofs.ElementLemmas.{written_body-pieces}
use Rattle.dav_write.proofs.ReadBack.Law.{canonical_read_back, round_trip}
use Rattle.dav_write.proofs.elements.write_body.Goals as goal

pub returns-clause-read_back : goal.returns-clause-read_back
returns-clause-read_back c = λ spellable.
    let front = c.in_ok-extend_from_slice.ensures.ok ∙ ap (λ text. text ++ codes "<?xml version=\"1.0\" encoding=\"utf-8\"?>\n") c.new-out.ensures in
    subst (λ octets. IsBody octets c.args.element.now) (sym (written_body-pieces c.args.element.now _ c.push_root.new.out front c.in_ok-push_root.ensures)) (canonical_read_back c.args.element.now spellable)

pub returns-clause-written_again : goal.returns-clause-written_again
returns-clause-written_again c = λ body small is.
    let front = c.in_ok-extend_from_slice.ensures.ok ∙ ap (λ text. text ++ codes "<?xml version=\"1.0\" encoding=\"utf-8\"?>\n") c.new-out.ensures in
    subst (λ octets. IsBody octets c.args.element.now) (sym (written_body-pieces c.args.element.now _ c.push_root.new.out front c.in_ok-push_root.ensures)) (round_trip body c.args.element.now small is)
