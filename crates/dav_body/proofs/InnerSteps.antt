-- The references of a tag, one octet after another.
use Rattle.std.proofs.Common.{◌≡◌, ℕ, suc, ◌+◌, true, false, List, [], ◌∷◌, take, Option, Some, None, refl, sym, ap, ◌∙◌}
use Rattle.std.proofs.Math.Numerals.{suc-eq-add-one}
use Rattle.std.specs.Prelude.{if◌then◌else◌, option_map, ◌==◌}
use Rattle.cal_base.specs.Lines.ComponentTrees.{or_else}
use Rattle.cal_base.specs.Xml.XmlMarkup.{Markup, opening, closing, character, section, reference, skipped, markup_size, markup_of}
use Rattle.cal_base.specs.Xml.XmlFaults.{Why, cut_short, fault_at, reference_fault, inner_fault, first_inner, references_fault}
use Rattle.dav_body.specs.declared.fault.Fault.{Fault as FaultAt}
use Rattle.dav_body.specs.declared.fault.Why.{Why as ReadWhy}
use Rattle.dav_body.specs.Shown.{reference_name}
use Rattle.dav_body.specs.Faults.{why_told, fault_told}
use Rattle.dav_body.specs.Inner.{reference_why, cut_fault, octet_fault, cut_markup_fault}

-- of a text, by the markup that it begins with
abbrev pub fault_of_found : List ℕ → Option Markup → Option Why
fault_of_found first found = elim found [
  | None ↦ cut_fault first
  | Some (opening tag) ↦ None
  | Some (closing name) ↦ None
  | Some (character text) ↦ None
  | Some (section text) ↦ None
  | Some (reference name) ↦ reference_fault name
  | Some skipped ↦ None
]

pub inner_found : (text first : List ℕ) (found : Option Markup) → first ≡ take (markup_size text) text → found ≡ markup_of first → inner_fault text ≡ fault_of_found first found
inner_found text first found cut is =
    ap (λ one. fault_of_found one (markup_of one)) (sym cut) ∙ ap (fault_of_found first) (sym is)

pub inner_none : (text first : List ℕ) (why : Option Why) → first ≡ take (markup_size text) text → None ≡ markup_of first → why ≡ cut_fault first → why ≡ inner_fault text
inner_none text first why cut is told = told ∙ sym (inner_found text first None cut is)

fault_of_name : (first : List ℕ) (markup : Markup) → fault_of_found first (Some markup) ≡ reference_why (reference_name markup)
fault_of_name first (opening tag) = refl
fault_of_name first (closing name) = refl
fault_of_name first (character text) = refl
fault_of_name first (section text) = refl
fault_of_name first (reference name) = refl
fault_of_name first skipped = refl

pub inner_some : (text first : List ℕ) (markup : Markup) (why : Option Why) → first ≡ take (markup_size text) text → Some markup ≡ markup_of first → why ≡ reference_why (reference_name markup) → why ≡ inner_fault text
inner_some text first markup why cut is told = told ∙ sym (inner_found text first (Some markup) cut is ∙ fault_of_name first markup)

-- One octet more

pub inner_first : (place octet : ℕ) (text : List ℕ) → first_inner place (octet ∷ text) ≡ or_else (option_map (fault_at place) (octet_fault (octet ∷ text))) (first_inner (suc place) text)
inner_first place octet text =
    elim (octet == 38) as (λ b. or_else (if b then option_map (fault_at place) (inner_fault (octet ∷ text)) else None) (first_inner (suc place) text)
    ≡ or_else (option_map (fault_at place) (if b then inner_fault (octet ∷ text) else None)) (first_inner (suc place) text)) [ true ↦ refl | false ↦ refl ]

inner_told : (place octet : ℕ) (text : List ℕ) (why : Option Why) → why ≡ octet_fault (octet ∷ text) → first_inner place (octet ∷ text) ≡ or_else (option_map (fault_at place) why) (first_inner (suc place) text)
inner_told place octet text why is = inner_first place octet text ∙ ap (λ found. or_else (option_map (fault_at place) found) (first_inner (suc place) text)) (sym is)

pub inner_bad : (place : ℕ) (text : List ℕ) (why : ReadWhy) → Some (why_told why) ≡ octet_fault text → first_inner place text ≡ Some (fault_at place (why_told why))
inner_bad place [] why is = absurd cc
inner_bad place (octet ∷ text) why is = inner_told place octet text (Some (why_told why)) is

pub inner_good : (place octet : ℕ) (text : List ℕ) → None ≡ octet_fault (octet ∷ text) → first_inner (place + 1) text ≡ first_inner place (octet ∷ text)
inner_good place octet text is = ap (λ next. first_inner next text) (sym (suc-eq-add-one place)) ∙ sym (inner_told place octet text None is)

-- What is cut

pub cut_with : (end place : ℕ) (text : List ℕ) (fault : FaultAt) → Some (fault_told fault) ≡ references_fault place text → fault_told fault ≡ cut_markup_fault end place text
cut_with end place text fault is = ap (λ found. elim found [ None ↦ fault_at end cut_short | Some one ↦ one ]) is

pub cut_without : (end place : ℕ) (text : List ℕ) → None ≡ references_fault place text → cut_markup_fault end place text ≡ fault_at end cut_short
cut_without end place text is = ap (λ found. elim found [ None ↦ fault_at end cut_short | Some one ↦ one ]) (sym is)
