-- One bad set or remove makes all bad.
use Rattle.std.proofs.Common.{◌≡◌, true, false, ◌||◌, List, [], ◌∷◌, sym, ◌∙◌, ⊎_elim}
use Rattle.std.specs.List.{list_any}
use Rattle.std.proofs.lemmas.Bool.{or_cases, or_left, or_right}
use Rattle.cal_base.specs.declared.element.Element.{Element}
use Rattle.cal_model.specs.Words.Lists.{is_empty}
use Rattle.cal_model.specs.Bodies.PropertyBodies.{lacks_prop, has_nameless, are_bad}
use Rattle.dav_elements.proofs.AnyLemmas.{or_false}
use Rattle.dav_elements.proofs.ListSteps.{Split, any_found}

pub bad_found : {before piece rest all : List Element} (one : Element) → Split before piece rest all → (one ∷ []) ≡ piece → are_bad (one ∷ []) ≡ true → true ≡ are_bad all
bad_found {before} {piece} {rest} {all} one split found bad =
    let without_prop = list_any lacks_prop all in
    let without_name = list_any has_nameless all in
    sym (⊎_elim
    (λ a. or_left (is_empty all || without_prop) without_name (or_right (is_empty all) without_prop (any_found lacks_prop one split found (sym (or_false (lacks_prop one)) ∙ a))))
    (λ b. or_right (is_empty all || without_prop) without_name (any_found has_nameless one split found (sym (or_false (has_nameless one)) ∙ b)))
    (or_cases (lacks_prop one || false) (has_nameless one || false) bad))
