use Rattle.std.proofs.Common.{List, map, true, sym, subst}
use Rattle.std.specs.Prelude.{IfErr}
use Rattle.cal_base.specs.Xml.XmlMarkup.{opening}
use Rattle.dav_body.specs.declared.markup.Markup.{Markup}
use Rattle.dav_body.specs.declared.open_elements.OpenElement.{OpenElement}
use Rattle.cal_base.specs.Xml.XmlFaults.{markup_fault}
use Rattle.dav_body.specs.Keeping.{inside, kept_around, kept_tags, is_rooted}
use Rattle.dav_body.specs.Faults.{IsWhyOf}
use Rattle.dav_body.specs.OpenParts.{open_part}
use Rattle.dav_body.specs.Shown.{shown}
use Rattle.dav_body.proofs.progress.within.Goals as goal

pub returns-in_ok-push-in-Opening-clause-stop : goal.returns-in_ok-push-in-Opening-clause-stop
returns-in_ok-push-in-Opening-clause-stop c =
    subst (λ (markup : Markup). IfErr c.opened.result (λ fault. IsWhyOf c.args.place (markup_fault (kept_tags (inside (open_part c.args.inner) (map open_part c.args.around))) true (shown markup)) fault)) (sym c.in-Opening.is)
    (subst (λ (around : List OpenElement). IfErr c.opened.result (λ fault. IsWhyOf c.args.place (markup_fault (kept_tags (kept_around (map open_part around))) (is_rooted (kept_around (map open_part around))) (opening c.in-Opening.tag)) fault)) c.in_ok-push-in-Opening.ensures.ok c.opened.ensures.stop)
