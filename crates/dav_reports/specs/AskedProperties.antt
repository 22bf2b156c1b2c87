-- The names that a report asks of each object, and what is answered to each (RFC 4918, 9.1).
use Rattle.std.specs.Prelude.{Bool, ℕ, List, [], ◌∷◌, map, filter}
use Rattle.cal_model.specs.declared.property.PropName.{PropName}
use Rattle.cal_model.specs.declared.property.Props.{Props}
use Rattle.cal_model.specs.declared.property.Props.TheVariants.{All as AllProps, Names as AllNames, None as NoProps, Some as SomeProps}
use Rattle.cal_model.specs.Properties.PropertyReplies.{once, with_status}
use Rattle.cal_model.specs.Properties.PropertyTable.{Answer, Listing, Property, answer, properties, without_value, is_in_both, is_in_names}
use Rattle.cal_model.specs.Sight.Resources.{Resource, Asker}

-- the names that the table lists
abbrev pub names_listed : (Listing → Bool) → List PropName
names_listed is_listed = map (λ (p : Property). p.name) (filter (λ (p : Property). is_listed p.listed) properties)

-- the names that are looked at: an object has no texts
abbrev pub names_asked : Props → List PropName
names_asked AllProps = names_listed is_in_both
names_asked AllNames = names_listed is_in_names
names_asked NoProps = []
names_asked (SomeProps names) = once names

-- one that is there
abbrev pub if_there : Answer → List Answer
if_there a = with_status 200 (a ∷ [])

-- what is answered to one name
abbrev pub said_of : Props → Asker → Resource → PropName → List Answer
said_of AllProps asker resource name = if_there (answer asker resource name)
said_of AllNames asker resource name = map (λ (a : Answer). without_value a.name 200) (if_there (answer asker resource name))
said_of NoProps asker resource name = []
said_of (SomeProps names) asker resource name = answer asker resource name ∷ []

-- a name in a namespace
abbrev pub named_in : List ℕ → List ℕ → PropName
named_in space name = record { space = space; name = name }
