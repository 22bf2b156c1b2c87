-- A tag, by what it was resolved to.
use Rattle.std.proofs.Common.{◌≡◌, ℕ, true, false, List, [], map, Some, None, refl, sym, ap, subst, ◌∙◌}
use Rattle.std.specs.Prelude.{if◌then◌else◌}
use Rattle.cal_base.specs.Xml.XmlNames.{QName, is_same_name}
use Rattle.cal_base.specs.Xml.XmlMarkup.{Tag, opening, closing}
use Rattle.cal_base.specs.Xml.XmlFaults.{syntax, markup_fault}
use Rattle.dav_body.specs.declared.fault.Why.TheVariants.{Syntax}
use Rattle.dav_body.specs.declared.fault.Why.{Why}
use Rattle.dav_body.specs.declared.fault.BodyFault.TheVariants.{At}
use Rattle.dav_body.specs.declared.open_elements.OpenElement.{OpenElement}
use Rattle.dav_body.specs.declared.resolve.Resolved.TheVariants.{Fault, Open}
use Rattle.dav_body.specs.Reading.{OpenPart, whole}
use Rattle.dav_body.specs.Keeping.{Kept, inside, ended, kept_around, kept_tags, is_rooted, IsMarkupStep}
use Rattle.dav_body.specs.Kept.{IsResolved}
use Rattle.dav_body.specs.Faults.{why_told, IsWhyOf}
use Rattle.dav_body.specs.OpenParts.{open_part}
use Rattle.dav_body.proofs.KeptSteps.{step_opening, step_empty, stop_opening, step_closing}

pub opened_step : (around : List OpenElement) (tag : Tag) (inner : OpenElement) → tag.is_empty ≡ false → IsResolved around tag (Open inner) → IsMarkupStep (kept_around (map open_part around)) (opening tag) (inside (open_part inner) (map open_part around))
opened_step around tag inner not_empty is = subst (λ one. IsMarkupStep (kept_around (map open_part around)) (opening tag) (inside one (map open_part around))) (sym is.1) (step_opening (map open_part around) tag not_empty is.0)

pub empty_step : (around : List OpenElement) (tag : Tag) (inner : OpenElement) (after : Kept) → tag.is_empty ≡ true → IsResolved around tag (Open inner) → after ≡ ended (whole (open_part inner) []) (map open_part around) → IsMarkupStep (kept_around (map open_part around)) (opening tag) after
empty_step around tag inner after empty is now =
    subst (IsMarkupStep (kept_around (map open_part around)) (opening tag)) (sym (now ∙ ap (λ (one : OpenPart). ended (whole one []) (map open_part around)) is.1)) (step_empty (map open_part around) tag empty is.0)

pub opened_stop : (around : List OpenElement) (tag : Tag) (why : Why) (place : ℕ) → IsResolved around tag (Fault why) → IsWhyOf place (markup_fault (kept_tags (kept_around (map open_part around))) (is_rooted (kept_around (map open_part around))) (opening tag)) (At place why)
opened_stop around tag why place is = (refl, stop_opening (map open_part around) tag (why_told why) is)

pub closing_step : (inner : OpenElement) (around : List OpenElement) (name : QName) (after : Kept) → is_same_name inner.tag.name name ≡ true → after ≡ ended (whole (open_part inner) []) (map open_part around)
    → IsMarkupStep (inside (open_part inner) (map open_part around)) (closing name) after
closing_step inner around name after same now =
    subst (IsMarkupStep (inside (open_part inner) (map open_part around)) (closing name)) (sym now) (step_closing (open_part inner) (map open_part around) name same)

pub closing_stop : (inner : OpenElement) (around : List OpenElement) (name : QName) (place : ℕ) → is_same_name inner.tag.name name ≡ false
    → IsWhyOf place (markup_fault (kept_tags (inside (open_part inner) (map open_part around))) true (closing name)) (At place Syntax)
closing_stop inner around name place other = (refl, ap (λ b. if b then None else Some syntax) other)
