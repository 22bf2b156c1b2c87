-- Bodies of PROPFIND and PROPPATCH (RFC 4918, 9.1 and 9.2) and of MKCALENDAR (RFC 4791, 5.3.1).
use Rattle.std.specs.Prelude.{◌≡◌, refl, ℕ, true, false, List, [], ◌∷◌, Some, None, codes}
use denote.Hole.Carrier as H
use Rattle.cal_base.specs.declared.element.Element.{Element}
use Rattle.cal_base.specs.declared.element.Item.{Item}
use Rattle.cal_base.specs.declared.element.Item as I
use Rattle.cal_base.specs.declared.element.Item.TheBlock as B
use Rattle.cal_base.specs.declared.element.Item.TheVariants.{Text}
use Rattle.cal_model.specs.declared.property.PropName.{PropName}
use Rattle.cal_model.specs.declared.property.Props.TheVariants.{All as AllProps, Names as AllNames, Some as SomeProps}
use Rattle.cal_model.specs.declared.request.Content.TheVariants.{Find, Patch, Make, Bad}
use Rattle.cal_model.specs.Words.Namespaces.{dav, caldav}
use Rattle.cal_model.specs.Bodies.PropertyBodies.{find_content, patch_content, make_content}
use Rattle.cal_model.specs.Bodies.Refusals.{bad_request}
use Rattle.cal_examples.proofs.BodySamples.{dav_root, caldav_root, dav_item, caldav_item, other_item, named_item}

abbrev name_of : List ℕ → PropName
name_of name = record { space = dav; name = name }

-- a PROPPATCH with these items
abbrev update : List Item → Element
update items = dav_root (codes "propertyupdate") items

-- a set and a remove of these properties
abbrev set : List Item → Item
set properties = dav_item (codes "set") (dav_item (codes "prop") properties ∷ [])

abbrev remove : List Item → Item
remove properties = dav_item (codes "remove") (dav_item (codes "prop") properties ∷ [])

-- a property with a text
abbrev text_of : List ℕ → List ℕ → Item
text_of name text = dav_item name (Text text ∷ [])

-- the component set of these
abbrev component_set : List Item → Item
component_set items = caldav_item (codes "supported-calendar-component-set") [] items

abbrev set_name : PropName
set_name = record { space = caldav; name = codes "supported-calendar-component-set" }

-- PROPFIND (RFC 4918, 9.1)

-- in the order in which they are asked for
pub some_properties : find_content true (dav_root (codes "propfind") (dav_item (codes "prop") (dav_item (codes "a") [] ∷ dav_item (codes "b") [] ∷ dav_item (codes "a") [] ∷ []) ∷ [])) ≡ Find (SomeProps (name_of (codes "a") ∷ name_of (codes "b") ∷ name_of (codes "a") ∷ [])) true
unfolding I.out-Item I.roll-Item B.shown-the_row-Item-0 B.hidden-the_row-Item-0 B.shape-the_row-Item-0 H.out H.roll H.shown H.hidden
some_properties = refl

pub all_properties : find_content false (dav_root (codes "propfind") (dav_item (codes "allprop") [] ∷ dav_item (codes "prop") [] ∷ [])) ≡ Find AllProps false
unfolding I.out-Item I.roll-Item B.shown-the_row-Item-0 B.hidden-the_row-Item-0 B.shape-the_row-Item-0 H.out H.roll H.shown H.hidden
all_properties = refl

pub property_names : find_content false (dav_root (codes "propfind") (other_item (codes "x") [] ∷ dav_item (codes "propname") [] ∷ dav_item (codes "allprop") [] ∷ [])) ≡ Find AllNames false
unfolding I.out-Item I.roll-Item B.shown-the_row-Item-0 B.hidden-the_row-Item-0 B.shape-the_row-Item-0 H.out H.roll H.shown H.hidden
property_names = refl

pub no_property : find_content false (dav_root (codes "propfind") (dav_item (codes "prop") [] ∷ [])) ≡ Find (SomeProps []) false
unfolding I.out-Item I.roll-Item B.shown-the_row-Item-0 B.hidden-the_row-Item-0 B.shape-the_row-Item-0 H.out H.roll H.shown H.hidden
no_property = refl

pub nothing_asked_for : find_content false (dav_root (codes "propfind") []) ≡ Bad bad_request
unfolding I.out-Item I.roll-Item B.shown-the_row-Item-0 B.hidden-the_row-Item-0 B.shape-the_row-Item-0 H.out H.roll H.shown H.hidden
nothing_asked_for = refl

pub another_root : find_content false (dav_root (codes "propertyupdate") (dav_item (codes "allprop") [] ∷ [])) ≡ Bad bad_request
unfolding I.out-Item I.roll-Item B.shown-the_row-Item-0 B.hidden-the_row-Item-0 B.shape-the_row-Item-0 H.out H.roll H.shown H.hidden
another_root = refl

-- PROPPATCH (RFC 4918, 9.2)

-- values are not trimmed
pub settings_in_order : patch_content (update (remove (dav_item (codes "a") [] ∷ []) ∷ set (text_of (codes "b") (codes " x ") ∷ text_of (codes "a") (codes "y") ∷ []) ∷ [])) ≡ Patch (record { name = name_of (codes "a"); value = None } ∷ record { name = name_of (codes "b"); value = Some (codes " x ") } ∷ record { name = name_of (codes "a"); value = Some (codes "y") } ∷ [])
unfolding I.out-Item I.roll-Item B.shown-the_row-Item-0 B.hidden-the_row-Item-0 B.shape-the_row-Item-0 H.out H.roll H.shown H.hidden
settings_in_order = refl

pub empty_text : patch_content (update (set (dav_item (codes "a") [] ∷ []) ∷ [])) ≡ Patch (record { name = name_of (codes "a"); value = Some [] } ∷ [])
unfolding I.out-Item I.roll-Item B.shown-the_row-Item-0 B.hidden-the_row-Item-0 B.shape-the_row-Item-0 H.out H.roll H.shown H.hidden
empty_text = refl

-- one octet that no text has stands for what is not text alone
pub no_text : patch_content (update (set (dav_item (codes "a") (Text (codes "x") ∷ dav_item (codes "b") [] ∷ []) ∷ []) ∷ [])) ≡ Patch (record { name = name_of (codes "a"); value = Some (0 ∷ []) } ∷ [])
unfolding I.out-Item I.roll-Item B.shown-the_row-Item-0 B.hidden-the_row-Item-0 B.shape-the_row-Item-0 H.out H.roll H.shown H.hidden
no_text = refl

-- a removal has a name alone
pub content_of_removal : patch_content (update (remove (dav_item (codes "a") (dav_item (codes "b") [] ∷ []) ∷ []) ∷ [])) ≡ Patch (record { name = name_of (codes "a"); value = None } ∷ [])
unfolding I.out-Item I.roll-Item B.shown-the_row-Item-0 B.hidden-the_row-Item-0 B.shape-the_row-Item-0 H.out H.roll H.shown H.hidden
content_of_removal = refl

pub components : patch_content (update (set (component_set (named_item (codes "comp") (codes "vevent") [] ∷ named_item (codes "comp") (codes "VTODO") [] ∷ []) ∷ []) ∷ [])) ≡ Patch (record { name = set_name; value = Some (codes "VEVENT,VTODO") } ∷ [])
unfolding I.out-Item I.roll-Item B.shown-the_row-Item-0 B.hidden-the_row-Item-0 B.shape-the_row-Item-0 H.out H.roll H.shown H.hidden
components = refl

pub component_without_name : patch_content (update (set (component_set (caldav_item (codes "comp") [] [] ∷ []) ∷ []) ∷ [])) ≡ Bad bad_request
unfolding I.out-Item I.roll-Item B.shown-the_row-Item-0 B.hidden-the_row-Item-0 B.shape-the_row-Item-0 H.out H.roll H.shown H.hidden
component_without_name = refl

pub removed_component_without_name : patch_content (update (remove (component_set (caldav_item (codes "comp") [] [] ∷ []) ∷ []) ∷ [])) ≡ Patch (record { name = set_name; value = None } ∷ [])
unfolding I.out-Item I.roll-Item B.shown-the_row-Item-0 B.hidden-the_row-Item-0 B.shape-the_row-Item-0 H.out H.roll H.shown H.hidden
removed_component_without_name = refl

pub nothing_set : patch_content (update (set [] ∷ [])) ≡ Patch []
unfolding I.out-Item I.roll-Item B.shown-the_row-Item-0 B.hidden-the_row-Item-0 B.shape-the_row-Item-0 H.out H.roll H.shown H.hidden
nothing_set = refl

pub no_instruction : patch_content (update []) ≡ Bad bad_request
unfolding I.out-Item I.roll-Item B.shown-the_row-Item-0 B.hidden-the_row-Item-0 B.shape-the_row-Item-0 H.out H.roll H.shown H.hidden
no_instruction = refl

pub instruction_without_properties : patch_content (update (set [] ∷ dav_item (codes "remove") [] ∷ [])) ≡ Bad bad_request
unfolding I.out-Item I.roll-Item B.shown-the_row-Item-0 B.hidden-the_row-Item-0 B.shape-the_row-Item-0 H.out H.roll H.shown H.hidden
instruction_without_properties = refl

-- MKCALENDAR (RFC 4791, 5.3.1)

pub calendar_with_name : make_content (caldav_root (codes "mkcalendar") (set (text_of (codes "displayname") (codes "Work") ∷ []) ∷ [])) ≡ Make (record { name = name_of (codes "displayname"); value = Some (codes "Work") } ∷ [])
unfolding I.out-Item I.roll-Item B.shown-the_row-Item-0 B.hidden-the_row-Item-0 B.shape-the_row-Item-0 H.out H.roll H.shown H.hidden
calendar_with_name = refl

-- there is one set, so the first counts
pub second_set : make_content (caldav_root (codes "mkcalendar") (set [] ∷ set (text_of (codes "a") (codes "x") ∷ []) ∷ [])) ≡ Make []
unfolding I.out-Item I.roll-Item B.shown-the_row-Item-0 B.hidden-the_row-Item-0 B.shape-the_row-Item-0 H.out H.roll H.shown H.hidden
second_set = refl

pub calendar_without_set : make_content (caldav_root (codes "mkcalendar") (remove [] ∷ [])) ≡ Bad bad_request
unfolding I.out-Item I.roll-Item B.shown-the_row-Item-0 B.hidden-the_row-Item-0 B.shape-the_row-Item-0 H.out H.roll H.shown H.hidden
calendar_without_set = refl
