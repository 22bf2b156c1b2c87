-- The contents of properties, as they are written, where they are there (RFC 4918, 15; RFC 3744, 4 and 5; RFC 4791, 5.2 and 6.2.1; RFC 5397, 3).
-- Given: who asks, and a resource as the caller sees it. Which property has which content, and who may see it, is `PropertyTable`.
use Rattle.std.specs.Prelude.{ℕ, if◌then◌else◌, List, [], ◌∷◌, ◌++◌, length, filter, flat_map, Option, Some, None, option_map, option_and_then, codes}
use Rattle.std.specs.List.{range_with_len}
use Rattle.cal_base.specs.Xml.CanonicalXml.{attribute, element_with}
use Rattle.cal_model.specs.declared.path.Path.TheVariants.{Principal, Home}
use Rattle.cal_model.specs.declared.privilege.Grant.{Grant}
use Rattle.cal_model.specs.declared.privilege.Who.{Who}
use Rattle.cal_model.specs.declared.privilege.Who.TheVariants.{Everyone, Owner, Principal as ToPrincipal, Group as ToGroup}
use Rattle.cal_model.specs.declared.property.PropName.{PropName}
use Rattle.cal_model.specs.Words.Namespaces.{dav}
use Rattle.cal_model.specs.Access.Privileges.{privileges, has_all, all, write}
use Rattle.cal_model.specs.Replies.XmlText.{element, xml_text}
use Rattle.cal_model.specs.State.PropertyTexts.{text_at}
use Rattle.cal_model.specs.State.ServerState.{Directory, user_name, user_number, group_name, group_number, groups_of, is_member}
use Rattle.cal_model.specs.Sight.Views.{Sight, Contents}
use Rattle.cal_model.specs.Replies.ReplyElements.{privilege_element, href_element}
use Rattle.cal_model.specs.Sight.Resources.{Resource, held_of, Asker, root, principal, group, home, calendar, object}

-- the content of a property's element, where the property is there
abbrev pub Value : Type 0
Value = Asker → Resource → Option (List ℕ)

abbrev pub always : List ℕ → Value
always content asker resource = Some content

abbrev pub empty_named : List ℕ → List ℕ
empty_named name = element name []

-- RFC 4918, 15.9; RFC 3744, 4; RFC 4791, 4.2
abbrev pub resource_type : Value
resource_type asker (principal user) = Some (empty_named (codes "D:collection") ++ empty_named (codes "D:principal"))
resource_type asker (group name) = Some (empty_named (codes "D:collection") ++ empty_named (codes "D:principal"))
resource_type asker (calendar owner name sight) = Some (empty_named (codes "D:collection") ++ empty_named (codes "C:calendar"))
resource_type asker (object owner within name sight octets) = Some []
resource_type asker other = Some (empty_named (codes "D:collection"))

-- RFC 5397, 3
abbrev pub asking_principal : Value
asking_principal asker resource = Some (href_element (Principal (user_name asker.directory asker.who)))

-- the name of the user whose home a resource is in, or of the principal itself
abbrev pub owner_of : Resource → List ℕ
owner_of root = []
owner_of (principal user) = user
owner_of (group name) = name
owner_of (home owner) = owner
owner_of (calendar owner name sight) = owner
owner_of (object owner within name sight octets) = owner

-- RFC 3744, 5.1 and 4.2
abbrev pub principal_href : Value
principal_href asker resource = Some (href_element (Principal (owner_of resource)))

-- RFC 4791, 6.2.1
abbrev pub home_href : Value
home_href asker resource = Some (href_element (Home (owner_of resource)))

-- RFC 3744, 4.3: the members of a group, by their numbers
abbrev pub members_of : Directory → ℕ → List ℕ
members_of directory number =
    flat_map (λ user. href_element (Principal (user_name directory user))) (filter (is_member directory number) (range_with_len 0 (length directory.names)))

abbrev pub group_members : Value
group_members asker (group name) = option_map (members_of asker.directory) (group_number asker.directory name)
group_members asker other = None

-- RFC 3744, 4.4: the groups that a user is in, by their numbers; a group is in none
abbrev pub memberships_of : Directory → ℕ → List ℕ
memberships_of directory user = flat_map (λ number. href_element (Principal (group_name directory number))) (groups_of directory user)

abbrev pub group_memberships : Value
group_memberships asker (principal user) = option_map (memberships_of asker.directory) (user_number asker.directory user)
group_memberships asker (group name) = Some []
group_memberships asker other = None

-- each privilege whose bit is in a set
abbrev pub bit_elements : ℕ → List ℕ
bit_elements set = flat_map (λ (row : PropName × ℕ). privilege_element row.0) (filter (λ (row : PropName × ℕ). has_all set row.1) privileges)

abbrev pub aggregate_element : List ℕ → ℕ → ℕ → List ℕ
aggregate_element name bits set = if has_all set bits then privilege_element (record { space = dav; name = name }) else []

-- RFC 3744, 5.4: each privilege held, then write and all where they are held whole
abbrev pub held_elements : ℕ → List ℕ
held_elements set = bit_elements set ++ (aggregate_element (codes "write") write set ++ aggregate_element (codes "all") all set)

abbrev pub privileges_held_here : Value
privileges_held_here asker resource = Some (held_elements (held_of resource))

-- what was set on a calendar
abbrev pub set_text : PropName → Sight → Option (List ℕ)
set_text name sight = option_and_then (λ (contents : Contents). option_map xml_text (text_at contents.texts name)) sight.contents

abbrev pub text_value : PropName → Value
text_value name asker (calendar owner within sight) = set_text name sight
text_value name asker other = None

-- RFC 4918, 15.2: the name of a principal, or what was set on a calendar
abbrev pub display_value : PropName → Value
display_value name asker (principal user) = Some (xml_text user)
display_value name asker (group of) = Some (xml_text of)
display_value name asker other = text_value name asker other

-- of an object's octets
abbrev pub of_octets : (List ℕ → List ℕ) → Value
of_octets content asker (object owner within name sight octets) = Some (content octets)
of_octets content asker other = None

-- RFC 4791, 9.6: in a report alone
abbrev pub shown_data : Value
shown_data asker (object owner within name sight octets) = option_map (λ shown. xml_text (shown octets)) asker.shown
shown_data asker other = None

-- the names of the kinds, with their numbers
abbrev pub kind_names : List (List ℕ × ℕ)
kind_names = (codes "VEVENT", 1) ∷ (codes "VTODO", 2) ∷ (codes "VJOURNAL", 4) ∷ (codes "VFREEBUSY", 8) ∷ []

abbrev pub kinds_elements : ℕ → List ℕ
kinds_elements kinds =
    flat_map (λ (kind : List ℕ × ℕ). element_with (codes "C:comp") (attribute (codes "name") kind.0) []) (filter (λ (kind : List ℕ × ℕ). has_all kinds kind.1) kind_names)

-- RFC 4791, 5.2.3
abbrev pub kinds_value : Value
kinds_value asker (calendar owner name sight) = option_map (λ (contents : Contents). kinds_elements contents.kinds) sight.contents
kinds_value asker other = None

-- RFC 3744, 5.5
abbrev pub owner_element : List ℕ
owner_element = element (codes "D:property") (empty_named (codes "D:owner"))

abbrev pub grantee : Directory → Who → List ℕ
grantee directory Everyone = empty_named (codes "D:all")
grantee directory Owner = owner_element
grantee directory (ToPrincipal user) = href_element (Principal (user_name directory user))
grantee directory (ToGroup number) = href_element (Principal (group_name directory number))

abbrev pub ace : List ℕ → List ℕ → List ℕ → List ℕ
ace who granted protection =
    element (codes "D:ace") (element (codes "D:principal") who ++ (element (codes "D:grant") granted ++ protection))

abbrev pub grant_element : Directory → Grant → List ℕ
grant_element directory grant = ace (grantee directory grant.who) (bit_elements grant.held.0) []

abbrev pub owner_ace : List ℕ
owner_ace = ace owner_element (privilege_element (record { space = dav; name = codes "all" })) (empty_named (codes "D:protected"))

abbrev pub acl_elements : Directory → List Grant → List ℕ
acl_elements directory grants = owner_ace ++ flat_map (grant_element directory) grants

abbrev pub acl_value : Value
acl_value asker (calendar owner name sight) = option_map (acl_elements asker.directory) sight.grants
acl_value asker other = None

abbrev pub data_type : List ℕ
data_type = element_with (codes "C:calendar-data") (attribute (codes "content-type") (codes "text/calendar") ++ attribute (codes "version") (codes "2.0")) []

abbrev pub report_element : List ℕ → List ℕ
report_element name = element (codes "D:supported-report") (element (codes "D:report") (empty_named name))

abbrev pub report_elements : List ℕ
report_elements = flat_map report_element (codes "C:calendar-query" ∷ codes "C:calendar-multiget" ∷ codes "C:free-busy-query" ∷ [])
