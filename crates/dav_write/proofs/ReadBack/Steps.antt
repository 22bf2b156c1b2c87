-- One markup before a text: its faults and its levels.
use Rattle.std.proofs.Common.{◌≡◌, ℕ, ◌+◌, Bool, List, ◌∷◌, ◌++◌, length, Some, None, refl, ap, ◌∙◌}
use Rattle.std.specs.Prelude.{filter_map}
use Rattle.cal_base.specs.Xml.XmlMarkup.{Tag, Markup, markups, markup_of}
use Rattle.cal_base.specs.Xml.XmlFaults.{references_fault, markup_fault, tags_behind, rooted_behind, first_fault}
use Rattle.cal_base.specs.Xml.XmlBodies.{levels_before}
use Rattle.dav_write.proofs.ReadBack.Spelling.{IsMarkup, NoFault, levels_of}

faults_step : (end place : ℕ) (around : List Tag) (rooted : Bool) (text : List ℕ) (texts : List (List ℕ)) (markup : Markup) → markup_of text ≡ Some markup → markup_fault around rooted markup ≡ None → references_fault place text ≡ None
    → first_fault end (tags_behind around markup) (rooted_behind rooted markup) (place + length text) texts ≡ None → first_fault end around rooted place (text ∷ texts) ≡ None
faults_step end place around rooted text texts markup is stands inner more = rw (is, first_fault) (rw (stands) (rw inner more))

pub sound_step : (around : List Tag) (rooted : Bool) (text : List ℕ) (markup : Markup) (rest : List ℕ) → IsMarkup text markup rest → markup_fault around rooted markup ≡ None
    → NoFault (tags_behind around markup) (rooted_behind rooted markup) rest → NoFault around rooted (text ++ rest)
sound_step around rooted text markup rest m stands more end place =
    ap (first_fault end around rooted place) m.cut_off ∙ faults_step end place around rooted text (markups rest) markup m.is stands (m.sound place) (more end (place + length text))

pub levels_step : (text : List ℕ) (markup : Markup) (rest : List ℕ) → IsMarkup text markup rest → levels_of (text ++ rest) ≡ levels_before (markup ∷ filter_map markup_of (markups rest))
levels_step text markup rest m = ap (λ texts. levels_before (filter_map markup_of texts)) m.cut_off ∙ by_text m.is
  where
    by_text : markup_of text ≡ Some markup → levels_before (filter_map markup_of (text ∷ markups rest)) ≡ levels_before (markup ∷ filter_map markup_of (markups rest))
    by_text is = rw is refl
