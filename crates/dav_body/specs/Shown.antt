-- A markup as it was read, as the definition has it.
use Rattle.std.specs.Prelude.{ℕ, List, Option, Some, None}
use Rattle.cal_base.specs.Xml.XmlMarkup.{Markup, opening, closing, character, section, reference, skipped}
use Rattle.dav_body.specs.declared.markup.Markup.{Markup as ReadMarkup}
use Rattle.dav_body.specs.declared.markup.Markup.TheVariants.{Opening, Closing, Character, Section, Reference, Skipped}

-- what stands between `&` and `;` of a reference
abbrev pub reference_name : Markup → Option (List ℕ)
reference_name (opening tag) = None
reference_name (closing name) = None
reference_name (character text) = None
reference_name (section text) = None
reference_name (reference name) = Some name
reference_name skipped = None

-- the markup that was read
abbrev pub shown : ReadMarkup → Markup
shown (Opening tag) = opening tag
shown (Closing name) = closing name
shown (Character text) = character text.now
shown (Section text) = section text.now
shown (Reference name) = reference name.now
shown Skipped = skipped
