-- The bodies of PROPFIND and PROPPATCH (RFC 4918, 9.1 and 9.2, 14.19 to 14.26) and of MKCALENDAR (RFC 4791, 5.3.1 and 9.2).
-- Given: the root of a body, or no body. Gives: the properties that are asked for, or the settings in order; 400 where a part that is needed is missing. Which settings are allowed is not asked here.
use Rattle.std.specs.Prelude.{ℕ, Bool, not, ◌&&◌, ◌||◌, if◌then◌else◌, List, [], ◌∷◌, map, filter, flat_map, codes, Some, None}
use Rattle.std.specs.List.{list_any, join_with_byte}
use Rattle.cal_base.specs.Texts.Octets.{comma}
use Rattle.cal_base.specs.declared.element.Element.{Element}
use Rattle.cal_model.specs.declared.property.PropSet.{PropSet}
use Rattle.cal_model.specs.declared.property.Props.TheVariants.{All as AllProps}
use Rattle.cal_model.specs.declared.request.Content.{Content}
use Rattle.cal_model.specs.declared.request.Content.TheVariants.{Find, Patch, Make, Bad}
use Rattle.cal_model.specs.Words.Namespaces.{dav, caldav}
use Rattle.cal_model.specs.Words.Lists.{is_empty}
use Rattle.cal_model.specs.Bodies.Refusals.{bad_request}
use Rattle.cal_model.specs.Bodies.ElementParts.{children, has_name, named, first_named, own_text, lacks_name, name_of}
use Rattle.cal_model.specs.Bodies.AskedProperties.{property_name, asked_props, props_of}

-- PROPFIND: a root without any of allprop, propname and prop asks for nothing. Whether it looks at the members is said by Depth.

abbrev pub find_content : Bool → Element → Content
find_content deep root =
    if not (has_name dav (codes "propfind") root) || is_empty (asked_props root) then Bad bad_request else Find (props_of root) deep

-- without a body it asks for all
abbrev pub find_all : Bool → Content
find_all deep = Find AllProps deep

-- Settings

-- the value that stands for content that is not text alone: no text has it
abbrev pub no_text : List ℕ
no_text = 0 ∷ []

abbrev pub is_component_set : Element → Bool
is_component_set property = has_name caldav (codes "supported-calendar-component-set") property

abbrev pub components_of : Element → List Element
components_of property = named caldav (codes "comp") property

-- a property's value: its text; of the component set the names of its components, in upper case and with commas between them (RFC 4791, 5.2.3)
abbrev pub set_value : Element → List ℕ
set_value property =
    if is_component_set property then join_with_byte comma (map name_of (components_of property))
    else if is_empty (children property) then own_text property
    else no_text

abbrev pub setting : Element → PropSet
setting property = record { name = property_name property; value = Some (set_value property) }

abbrev pub removal : Element → PropSet
removal property = record { name = property_name property; value = None }

-- the properties of a set or a remove: those of its prop
abbrev pub properties_of : Element → List Element
properties_of instruction = flat_map children (first_named dav (codes "prop") instruction)

abbrev pub lacks_prop : Element → Bool
lacks_prop instruction = is_empty (first_named dav (codes "prop") instruction)

abbrev pub is_set : Element → Bool
is_set instruction = has_name dav (codes "set") instruction

abbrev pub settings_of : Element → List PropSet
settings_of instruction = map (if is_set instruction then setting else removal) (properties_of instruction)

-- a component without a name in a component set
abbrev pub has_nameless_component : Element → Bool
has_nameless_component property = is_component_set property && list_any lacks_name (components_of property)

abbrev pub has_nameless : Element → Bool
has_nameless instruction = is_set instruction && list_any has_nameless_component (properties_of instruction)

-- some set or remove, each with its prop, and names where they are needed
abbrev pub are_bad : List Element → Bool
are_bad instructions = is_empty instructions || list_any lacks_prop instructions || list_any has_nameless instructions

-- PROPPATCH: its sets and removes in order

abbrev pub is_instruction : Element → Bool
is_instruction element = has_name dav (codes "set") element || has_name dav (codes "remove") element

abbrev pub instructions : Element → List Element
instructions root = filter is_instruction (children root)

abbrev pub patch_content : Element → Content
patch_content root =
    if not (has_name dav (codes "propertyupdate") root) || are_bad (instructions root) then Bad bad_request
    else Patch (flat_map settings_of (instructions root))

-- MKCALENDAR: its one set

abbrev pub make_content : Element → Content
make_content root =
    let sets = first_named dav (codes "set") root in
    if not (has_name caldav (codes "mkcalendar") root) || are_bad sets then Bad bad_request else Make (flat_map settings_of sets)

-- without a body it sets nothing
abbrev pub make_plain : Content
make_plain = Make []
