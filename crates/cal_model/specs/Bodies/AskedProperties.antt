-- The properties that a PROPFIND or a report asks for (RFC 4918, 14.2, 14.18 and 14.20).
-- Given: the root of a body. Gives: what the first of allprop, propname and prop in it says.
use Rattle.std.specs.Prelude.{Bool, ◌||◌, if◌then◌else◌, List, [], ◌∷◌, map, filter, take, codes}
use Rattle.cal_base.specs.declared.element.Element.{Element}
use Rattle.cal_model.specs.declared.property.PropName.{PropName}
use Rattle.cal_model.specs.declared.property.Props.{Props}
use Rattle.cal_model.specs.declared.property.Props.TheVariants.{All as AllProps, Names as AllNames, None as NoProps, Some as SomeProps}
use Rattle.cal_model.specs.Words.Namespaces.{dav}
use Rattle.cal_model.specs.Bodies.ElementParts.{children, has_name}

-- The properties that are asked for (RFC 4918, 14.20): of allprop, propname and prop the first counts

abbrev pub property_name : Element → PropName
property_name element = record { space = element.space; name = element.name }

abbrev pub is_props : Element → Bool
is_props element = has_name dav (codes "allprop") element || has_name dav (codes "propname") element || has_name dav (codes "prop") element

abbrev pub asked_props : Element → List Element
asked_props root = take 1 (filter is_props (children root))

abbrev pub props_by : List Element → Props
props_by [] = NoProps
props_by (asked ∷ more) =
    if has_name dav (codes "allprop") asked then AllProps
    else if has_name dav (codes "propname") asked then AllNames
    else SomeProps (map property_name (children asked))

abbrev pub props_of : Element → Props
props_of root = props_by (asked_props root)
