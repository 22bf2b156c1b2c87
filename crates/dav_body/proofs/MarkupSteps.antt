-- References within an element, and text outside the root.
use Rattle.std.proofs.Common.{◌≡◌, ℕ, Bool, true, false, List, [], ◌++◌, Some, None, refl, sym, ap}
use Rattle.std.specs.Prelude.{if◌then◌else◌, is_some, encode_utf8}
use Rattle.cal_base.specs.Xml.XmlNames.{are_blanks}
use Rattle.cal_base.specs.Xml.XmlMarkup.{reference, character, referenced}
use Rattle.cal_base.specs.Xml.XmlFaults.{syntax, entity, markup_fault}
use Rattle.dav_body.specs.declared.fault.Why.TheVariants.{Syntax, Entity}
use Rattle.dav_body.specs.declared.fault.BodyFault.TheVariants.{At}
use Rattle.dav_body.specs.Reading.{OpenPart}
use Rattle.dav_body.specs.Keeping.{inside, kept_tags, IsMarkupStep}
use Rattle.dav_body.specs.Faults.{IsWhyOf}
use Rattle.dav_body.proofs.KeptSteps.{step_reference}

pub reference_step : (inner : OpenPart) (around : List OpenPart) (name : List ℕ) (code : ℕ) → Some (encode_utf8 code) ≡ referenced name → IsMarkupStep (inside inner around) (reference name) (inside (record inner { text = inner.text ++ encode_utf8 code }) around)
reference_step inner around name code is = step_reference inner around name (encode_utf8 code) (sym is)

pub reference_stop : (inner : OpenPart) (around : List OpenPart) (name : List ℕ) (place : ℕ) → None ≡ referenced name → IsWhyOf place (markup_fault (kept_tags (inside inner around)) true (reference name)) (At place Entity)
reference_stop inner around name place none = (refl, ap (λ found. if is_some found then None else Some entity) (sym none))

pub stray_text : (rooted : Bool) (text : List ℕ) (place : ℕ) → are_blanks text ≡ false → IsWhyOf place (markup_fault [] rooted (character text)) (At place Syntax)
stray_text rooted text place other = (refl, ap (λ b. if b then None else Some syntax) other)
