-- The element of a body, met from the front with the open elements: one markup more.
use Rattle.std.proofs.Common.{◌≡◌, ℕ, List, [], ◌∷◌, ◌++◌, map, flat_map, None, refl, sym, ap, ◌∙◌, append_assoc}
use Rattle.std.specs.Prelude.{true, false, if◌then◌else◌}
use Rattle.cal_base.specs.declared.element.Element.{Element}
use Rattle.cal_base.specs.declared.element.Item.{Item}
use Rattle.cal_base.specs.declared.element.Item.TheVariants.{Element as InnerElement}
use Rattle.cal_base.specs.Xml.XmlMarkup.{Tag}
use Rattle.cal_base.specs.Xml.XmlScopes.{declarations, outer_scope, scope_at}
use Rattle.cal_base.specs.Xml.XmlBodies.{Part, said, held, Level, text_items, items_behind, with_part, with_opening, with_tag, outermost}
use Rattle.dav_body.specs.Reading.{OpenPart, whole, scope_of, opened, with_child, finished, finished_behind}

finished-nil : (around : List OpenPart) → finished around [] ≡ None
finished-nil [] = refl
finished-nil (open_one ∷ around) = refl

-- text within an element
pub finished-said : (open_one : OpenPart) (around : List OpenPart) (text : List ℕ) (levels : List Level) → finished (open_one ∷ around) (with_part (λ scope. said text) levels) ≡ finished (record open_one { text = open_one.text ++ text } ∷ around) levels
finished-said open_one around text [] = refl
finished-said open_one around text (level ∷ levels) = refl

-- text outside the root
pub outermost-said : (text : List ℕ) (levels : List Level) → outermost (with_part (λ scope. said text) levels) ≡ outermost levels
outermost-said text [] = refl
outermost-said text (level ∷ levels) = refl

pub behind-said : (element : Element) (text : List ℕ) (levels : List Level) → outermost (with_part (λ scope. held element) (with_part (λ scope. said text) levels)) ≡ outermost (with_part (λ scope. held element) levels)
behind-said element text [] = refl
behind-said element text (level ∷ levels) = refl

-- an opening
pub finished-opening : (tag : Tag) (around : List OpenPart) (levels : List Level) → finished around (with_opening tag levels) ≡ finished (opened tag around ∷ around) levels
finished-opening tag around [] = finished-nil around
finished-opening tag around (level ∷ []) = refl
finished-opening tag [] (level ∷ next ∷ levels) = refl
finished-opening tag (outer ∷ around) (level ∷ next ∷ levels) = refl

-- one element more in an open one
whole-held : (outer : OpenPart) (element : Element) (rest : List Part) → whole outer (held element ∷ rest) ≡ whole (with_child outer element) rest
whole-held outer element rest =
    ap (λ (items : List Item). record { space = outer.space; name = outer.name; attrs = outer.attrs; items = items }) (
    sym (append_assoc (outer.items ++ text_items outer.text) (InnerElement element ∷ []) (items_behind [] rest) ∙ append_assoc outer.items (text_items outer.text) (InnerElement element ∷ items_behind [] rest))
    )

finished-held : (element : Element) (around : List OpenPart) (levels : List Level) → finished around (with_part (λ scope. held element) levels) ≡ finished_behind element around levels
finished-held element [] levels = refl
finished-held element (outer ∷ around) [] = refl
finished-held element (outer ∷ around) (level ∷ levels) =
    ap (λ (one : Element). finished around (with_part (λ scope. held one) levels)) (whole-held outer element (level (scope_of (outer ∷ around))))

-- the end of an element
pub finished-closing : (open_one : OpenPart) (around : List OpenPart) (levels : List Level) → finished (open_one ∷ around) ((λ scope. []) ∷ levels) ≡ finished_behind (whole open_one []) around levels
finished-closing open_one around levels = finished-held (whole open_one []) around levels

-- a tag, of an element that may be empty
pub finished-tag : (tag : Tag) (around : List OpenPart) (levels : List Level) → tag.is_empty ≡ false → finished around (with_tag tag levels) ≡ finished (opened tag around ∷ around) levels
finished-tag tag around levels not_empty =
    ap (λ b. finished around (with_opening tag (if b then (λ scope. []) ∷ levels else levels))) not_empty ∙ finished-opening tag around levels

pub finished-empty_tag : (tag : Tag) (around : List OpenPart) (levels : List Level) → tag.is_empty ≡ true → finished around (with_tag tag levels) ≡ finished_behind (whole (opened tag around) []) around levels
finished-empty_tag tag around levels empty =
    ap (λ b. finished around (with_opening tag (if b then (λ scope. []) ∷ levels else levels))) empty
    ∙ finished-opening tag around ((λ scope. []) ∷ levels)
    ∙ finished-closing (opened tag around) around levels

-- the scope of the open elements is that of their tags
pub scope_of-tags : (around : List OpenPart) → scope_of around ≡ flat_map declarations (map (λ (one : OpenPart). one.tag) around) ++ outer_scope
scope_of-tags [] = refl
scope_of-tags (open_one ∷ around) =
    ap (λ scope. declarations open_one.tag ++ scope) (scope_of-tags around)
    ∙ sym (append_assoc (declarations open_one.tag) (flat_map declarations (map (λ (one : OpenPart). one.tag) around)) outer_scope)

pub scope_at-open : (tag : Tag) (around : List OpenPart) → scope_at tag (map (λ (one : OpenPart). one.tag) around) ≡ declarations tag ++ scope_of around
scope_at-open tag around =
    append_assoc (declarations tag) (flat_map declarations (map (λ (one : OpenPart). one.tag) around)) outer_scope
    ∙ ap (λ scope. declarations tag ++ scope) (sym (scope_of-tags around))
