-- A text more, by what the functions below answer.
use Rattle.std.proofs.Common.{◌≡◌, ℕ, List, ◌∷◌, Some, None, sym, ap, ◌∙◌}
use Rattle.cal_base.specs.Xml.XmlMarkup.{Markup, markup_of}
use Rattle.cal_base.specs.Xml.XmlFaults.{references_fault, no_markup_fault, fault_at, markup_fault}
use Rattle.dav_body.specs.declared.fault.Fault.{Fault}
use Rattle.dav_body.specs.declared.fault.BodyFault.{BodyFault}
use Rattle.dav_body.specs.declared.fault.BodyFault.TheVariants.{At, NoMemory}
use Rattle.dav_body.specs.Keeping.{Kept, kept_tags, is_rooted, fault_with, IsMarkupStep, IsStep}
use Rattle.dav_body.specs.Faults.{fault_told, why_told, IsFaultOf, IsWhyOf}
use Rattle.dav_body.proofs.KeptSteps.{step_of_markup, stop_of_markup, stop_of_reference, stop_of_no_markup}

pub text_without_markup : (end place : ℕ) (before : Kept) (text : List ℕ) (fault : Fault) → None ≡ markup_of text → fault_told fault ≡ no_markup_fault end place text
    → (texts : List (List ℕ)) → IsFaultOf (fault_with end before place (text ∷ texts)) (At fault.place fault.why)
text_without_markup end place before text fault none is texts = stop_of_no_markup end place before text (sym none) texts ∙ ap Some (sym is)

pub text_stopped : (end place : ℕ) (before : Kept) (text : List ℕ) (markup : Markup) (fault : BodyFault) → Some markup ≡ markup_of text → IsWhyOf place (markup_fault (kept_tags before) (is_rooted before) markup) fault
    → (texts : List (List ℕ)) → IsFaultOf (fault_with end before place (text ∷ texts)) fault
text_stopped end place before text markup (At at why) is told texts =
    stop_of_markup end place before text markup (why_told why) (sym is) told.1 texts ∙ ap (λ p. Some (fault_at p (why_told why))) (sym told.0)
text_stopped end place before text markup NoMemory is told texts = tt

pub text_with_bad_reference : (end place : ℕ) (before after : Kept) (text : List ℕ) (markup : Markup) (fault : Fault) → Some markup ≡ markup_of text → IsMarkupStep before markup after → Some (fault_told fault) ≡ references_fault place text
    → (texts : List (List ℕ)) → IsFaultOf (fault_with end before place (text ∷ texts)) (At fault.place fault.why)
text_with_bad_reference end place before after text markup fault is step found texts =
    stop_of_reference end place before after text markup (fault_told fault) (sym is) (sym found) step texts

pub text_stands : (end place : ℕ) (before after : Kept) (text : List ℕ) (markup : Markup) → Some markup ≡ markup_of text → IsMarkupStep before markup after → None ≡ references_fault place text → IsStep end place before text after
text_stands end place before after text markup is step none = step_of_markup end place before after text markup (sym is) (sym none) step
