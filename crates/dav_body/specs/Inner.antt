-- References within a tag, part by part.
use Rattle.std.specs.Prelude.{ℕ, if◌then◌else◌, ◌==◌, List, [], ◌∷◌, Option, Some, None}
use Rattle.cal_base.specs.Xml.XmlMarkup.{can_go_on}
use Rattle.cal_base.specs.Xml.XmlFaults.{Why, syntax, cut_short, Fault, fault_at, reference_fault, inner_fault, references_fault}

-- of the name of a reference, if there is one
abbrev pub reference_why : Option (List ℕ) → Option Why
reference_why name = elim name [ None ↦ None | Some text ↦ reference_fault text ]

-- of what is no markup
abbrev pub cut_fault : List ℕ → Option Why
cut_fault text = if can_go_on text then None else Some syntax

-- of the first octet of a text
abbrev pub octet_fault : List ℕ → Option Why
octet_fault [] = None
octet_fault (octet ∷ text) = if octet == 38 then inner_fault (octet ∷ text) else None

-- of a markup that could go on
abbrev pub cut_markup_fault : ℕ → ℕ → List ℕ → Fault
cut_markup_fault end place text = elim (references_fault place text) [ None ↦ fault_at end cut_short | Some fault ↦ fault ]
