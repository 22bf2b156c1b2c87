-- Lists that grow by what each of others gives.
use Rattle.std.proofs.Common.{◌≡◌, ℕ, true, false, List, [], ◌∷◌, ◌++◌, Option, Some, None, refl, sym, ap, ◌∙◌, append_assoc, append-nil}
use Rattle.std.specs.Prelude.{filter, filter_map, not, ◌&&◌, ◌||◌, is_none, cond}
use Rattle.std.specs.List.{list_any, cons_option}
use Rattle.cal_base.specs.declared.element.Attr.{Attr}
use Rattle.cal_base.specs.Xml.XmlMarkup.{WrittenAttribute}
use Rattle.cal_base.specs.Xml.XmlScopes.{Scope, is_declaration, is_no_declaration, declared_by, attribute_in, attribute_space}
use Rattle.dav_body.specs.Tags.{is_undeclared, any_undeclared, attrs_of}

-- One value, or none

module _ {X Y : Type 0} (give : X → Option Y) (one : X) (more : List X) where
  pub given_some : (value : Y) → Some value ≡ give one → filter_map give (one ∷ more) ≡ value ∷ filter_map give more
  given_some value is = ap (λ found. cons_option found (filter_map give more)) (sym is)

  pub given_none : None ≡ give one → filter_map give (one ∷ more) ≡ filter_map give more
  given_none is = ap (λ found. cons_option found (filter_map give more)) (sym is)

pub declared_some : (done : List (List ℕ × List ℕ)) (all : List (List ℕ × List ℕ)) (attribute : WrittenAttribute) (more : List WrittenAttribute) (binding : List ℕ × List ℕ) → Some binding ≡ declared_by attribute
    → done ++ filter_map declared_by (attribute ∷ more) ≡ all → (done ++ binding ∷ []) ++ filter_map declared_by more ≡ all
declared_some done all attribute more binding is before =
    append_assoc done (binding ∷ []) (filter_map declared_by more) ∙ sym (ap (λ rest. done ++ rest) (given_some declared_by attribute more binding is)) ∙ before

pub declared_none : (done : List (List ℕ × List ℕ)) (all : List (List ℕ × List ℕ)) (attribute : WrittenAttribute) (more : List WrittenAttribute) → None ≡ declared_by attribute
    → done ++ filter_map declared_by (attribute ∷ more) ≡ all → done ++ filter_map declared_by more ≡ all
declared_none done all attribute more is before = sym (ap (λ rest. done ++ rest) (given_none declared_by attribute more is)) ∙ before

-- Attributes, declarations left out

module _ (scope : Scope) (done : List Attr) (attribute : WrittenAttribute) where
  pub attrs_declaration : is_declaration attribute.name ≡ true → done ≡ done ++ attrs_of scope (attribute ∷ [])
  attrs_declaration is = sym (ap (λ b. done ++ filter_map (attribute_in scope) (cond (not b) (attribute ∷ []) [])) is ∙ append-nil done)

  no_declaration : is_declaration attribute.name ≡ false → attrs_of scope (attribute ∷ []) ≡ cons_option (attribute_in scope attribute) []
  no_declaration is = ap (λ b. filter_map (attribute_in scope) (cond (not b) (attribute ∷ []) [])) is

  pub attrs_some : (attr : Attr) → is_declaration attribute.name ≡ false → Some attr ≡ attribute_in scope attribute → done ++ attr ∷ [] ≡ done ++ attrs_of scope (attribute ∷ [])
  attrs_some attr is found = sym (ap (λ rest. done ++ rest) (no_declaration is ∙ ap (λ one. cons_option one []) (sym found)))

  pub attrs_none : is_declaration attribute.name ≡ false → None ≡ attribute_in scope attribute → done ≡ done ++ attrs_of scope (attribute ∷ [])
  attrs_none is found = sym (ap (λ rest. done ++ rest) (no_declaration is ∙ ap (λ one. cons_option one []) (sym found)) ∙ append-nil done)

attrs_cons : (scope : Scope) (attribute : WrittenAttribute) (more : List WrittenAttribute) → attrs_of scope (attribute ∷ more) ≡ attrs_of scope (attribute ∷ []) ++ attrs_of scope more
attrs_cons scope attribute more =
    elim (is_declaration attribute.name) as (λ b. filter_map (attribute_in scope) (cond (not b) (attribute ∷ filter is_no_declaration more) (filter is_no_declaration more)) ≡ filter_map (attribute_in scope) (cond (not b) (attribute ∷ []) []) ++ attrs_of scope more) [
      | true ↦ refl
      | false ↦ elim (attribute_in scope attribute) as (λ found. cons_option found (attrs_of scope more) ≡ cons_option found [] ++ attrs_of scope more) [ None ↦ refl | Some attr ↦ refl ]
    ]

pub attrs_step : (scope : Scope) (done after all : List Attr) (attribute : WrittenAttribute) (more : List WrittenAttribute) → after ≡ done ++ attrs_of scope (attribute ∷ []) → done ++ attrs_of scope (attribute ∷ more) ≡ all → after ++ attrs_of scope more ≡ all
attrs_step scope done after all attribute more now before =
    ap (λ front. front ++ attrs_of scope more) now
    ∙ append_assoc done (attrs_of scope (attribute ∷ [])) (attrs_of scope more)
    ∙ sym (ap (λ rest. done ++ rest) (attrs_cons scope attribute more))
    ∙ before

-- Undeclared prefixes

pub undeclared_cons : (scope : Scope) (attribute : WrittenAttribute) (more : List WrittenAttribute) → any_undeclared scope (attribute ∷ more) ≡ (is_undeclared scope attribute || any_undeclared scope more)
undeclared_cons scope attribute more =
    elim (is_declaration attribute.name) as (λ b. list_any (λ (one : WrittenAttribute). is_none (attribute_space scope one.name)) (cond (not b) (attribute ∷ filter is_no_declaration more) (filter is_no_declaration more))
    ≡ ((not b && is_none (attribute_space scope attribute.name)) || any_undeclared scope more)) [ true ↦ refl | false ↦ refl ]

pub undeclared_here : (scope : Scope) (attribute : WrittenAttribute) (more : List WrittenAttribute) → is_undeclared scope attribute ≡ true → any_undeclared scope (attribute ∷ more) ≡ true
undeclared_here scope attribute more is = undeclared_cons scope attribute more ∙ ap (λ b. b || any_undeclared scope more) is

pub undeclared_later : (scope : Scope) (attribute : WrittenAttribute) (more : List WrittenAttribute) → is_undeclared scope attribute ≡ false → any_undeclared scope (attribute ∷ more) ≡ any_undeclared scope more
undeclared_later scope attribute more is = undeclared_cons scope attribute more ∙ ap (λ b. b || any_undeclared scope more) is
