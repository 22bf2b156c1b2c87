-- What is picked without a name, gone over from the outermost component on, against the test of all that is picked.
use Rattle.std.proofs.Common.{◌≡◌, ℕ, zero, suc, Bool, ◌||◌, [], ◌∷◌, ◌++◌, refl, sym, ap, ◌∙◌}
use Rattle.std.specs.Prelude.{flat_map, codes}
use Rattle.std.specs.List.{list_any}
use Rattle.std.proofs.lemmas.List.{append-nil}
use Rattle.std.proofs.lemmas.List.Folds.{list_any-append}
use Rattle.cal_base.specs.declared.element.Element.{Element}
use Rattle.cal_base.specs.Xml.XmlFaults.{greatest_depth}
use Rattle.cal_model.specs.Bodies.ElementParts.{lacks_name, each, only, nested_to, nested}
use Rattle.cal_model.specs.Bodies.DataElements.{has_nameless_pick}
use Rattle.cal_model.proofs.Words.ListTests.{any_agree_all}
use Rattle.dav_elements.specs.NamelessPicks.{is_nameless_to}
use Rattle.dav_elements.proofs.AnyLemmas.{any_flat, any_within}

-- a component without a name, or with such a property
abbrev is_nameless_here : Element → Bool
is_nameless_here pick = lacks_name pick || list_any lacks_name (each (codes "prop") pick)

nameless_deep : (depth : ℕ) (pick : Element) → is_nameless_to depth pick ≡ list_any is_nameless_here (nested_to depth (each (codes "comp")) pick)
nameless_deep zero pick = refl
nameless_deep (suc depth) pick =
    let inner = nested_to depth (each (codes "comp")) in
    ap (λ t. is_nameless_here pick || t) (
    any_agree_all (is_nameless_to depth) (λ x. list_any is_nameless_here (inner x)) (nameless_deep depth) (each (codes "comp") pick)
    ∙ sym (any_flat is_nameless_here inner (each (codes "comp") pick))
    )

nameless_all : (depth : ℕ) (pick : Element) →
    let picks = nested_to depth (each (codes "comp")) pick in is_nameless_to depth pick ≡ list_any lacks_name (picks ++ flat_map (each (codes "prop")) picks)
nameless_all depth pick =
    let picks = nested_to depth (each (codes "comp")) pick in
    nameless_deep depth pick ∙ any_within lacks_name lacks_name (each (codes "prop")) picks ∙ sym (list_any-append lacks_name picks (flat_map (each (codes "prop")) picks))

pub nameless_one : (element pick : Element) → (pick ∷ []) ≡ only (codes "comp") element → is_nameless_to greatest_depth pick ≡ has_nameless_pick element
nameless_one element pick one =
    nameless_all greatest_depth pick
    ∙ ap (λ those. list_any lacks_name (those ++ flat_map (each (codes "prop")) those)) (sym (append-nil (nested (each (codes "comp")) pick)))
    ∙ ap (λ those. list_any lacks_name (flat_map (nested (each (codes "comp"))) those ++ flat_map (each (codes "prop")) (flat_map (nested (each (codes "comp"))) those))) one
