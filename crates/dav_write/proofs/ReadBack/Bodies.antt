-- A written body is read from its declaration on.
use Rattle.std.proofs.Common.{◌≡◌, ℕ, false, List, [], ◌∷◌, ◌++◌, length, refl, sym, ap, ◌∙◌, subst}
use Rattle.std.specs.Prelude.{codes, filter_map, drop}
use Rattle.std.specs.Str.{is_utf8, chars}
use lib.Utf8.{encode}
use Rattle.cal_base.specs.declared.element.Element.{Element}
use Rattle.cal_base.specs.Xml.XmlMarkup.{character, markups, markup_of}
use Rattle.cal_base.specs.Xml.XmlScopes.{outer_scope}
use Rattle.cal_base.specs.Xml.XmlFaults.{fault_behind, first_fault}
use Rattle.cal_base.specs.Xml.XmlBodies.{said, with_part, levels_before, first_element, outermost, without_declaration, IsBody}
use Rattle.cal_base.specs.Xml.CanonicalXml.{written_body, written_element, prefixes}
use Rattle.cal_base.proofs.Xml.XmlMarkupLemmas.{markups-append}
use Rattle.dav_write.specs.Readable.{IsSpellable, WritingReads}
use Rattle.dav_write.proofs.ReadBack.Spelling.{IsMarkup, NoFault, levels_of}
use Rattle.dav_write.proofs.ReadBack.Steps.{sound_step, levels_step}
use Rattle.dav_write.proofs.ReadBack.Frame.{TextStep, TagStep, RootStep, SpellsElement, GrownOne, spells_root}

abbrev front : List ℕ
front = codes "<?xml version=\"1.0\" encoding=\"utf-8\"?>"

feed : (rest : List ℕ) → IsMarkup (10 ∷ []) (character (10 ∷ [])) rest
unfolding is_utf8 chars encode
feed rest = record { cut_off = markups-append 10 [] rest refl; is = refl; sound = λ place. refl }

front_cut : (rest : List ℕ) → markups (front ++ rest) ≡ front ∷ markups rest
front_cut rest = markups-append 60 (drop 1 front) rest refl

front_sound : (end : ℕ) (texts : List (List ℕ)) → fault_behind end 0 (front ∷ texts) ≡ first_fault end [] false (length front) texts
unfolding is_utf8 chars encode
front_sound end texts = refl

pub reads_body : (element : Element) → SpellsElement [] false (written_element element prefixes) element [] → IsBody (written_body element) element
reads_body element s = record {
  sound =
      ap (fault_behind (length (written_body element)) 0) (front_cut (10 ∷ text))
      ∙ front_sound (length (written_body element)) (markups (10 ∷ text))
      ∙ sound_step [] false (10 ∷ []) (character (10 ∷ [])) text (feed text) refl within (length (written_body element)) (length front);
  spelled =
      ap (λ texts. outermost (levels_before (filter_map markup_of (without_declaration texts)))) (front_cut (10 ∷ text))
      ∙ ap outermost (levels_step (10 ∷ []) (character (10 ∷ [])) text (feed text))
      ∙ ap (λ levels. outermost (with_part (λ scope. said (10 ∷ [])) levels)) (ap levels_of (sym (append_nothing text)) ∙ g.is)
      ∙ ap first_element g.first_is;
}
  where
    text : List ℕ
    text = written_element element prefixes

    append_nothing : (octets : List ℕ) → octets ++ [] ≡ octets
    append_nothing [] = refl
    append_nothing (octet ∷ octets) = ap (λ (more : List ℕ). octet ∷ more) (append_nothing octets)

    within : NoFault [] false text
    within = subst (NoFault [] false) (append_nothing text) (s.sound (λ end place. refl))

    g : GrownOne outer_scope element (λ scope. []) [] (levels_of (text ++ []))
    g = s.grows (λ scope. []) [] refl

pub writing_reads : TextStep → TagStep → RootStep → WritingReads
unfolding IsSpellable
writing_reads texts tags roots element readable = reads_body element (spells_root texts tags roots element readable [])
