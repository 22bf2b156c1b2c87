-- The content of a property of a resource as it is seen, by the code's names for both. Where the property is not there this says nothing of use; that it is the table's content elsewhere is proved.
use Rattle.std.specs.Prelude.{◌≡◌, ℕ, if◌then◌else◌, List, [], ◌++◌, flat_map, length, codes, decimal, unwrap_or, Option, Some, None}
use Rattle.cal_model.specs.declared.path.Path.TheVariants.{Principal, Home}
use Rattle.cal_model.specs.declared.property.PropName.{PropName}
use Rattle.cal_model.specs.Access.Privileges.{has_all}
use Rattle.cal_model.specs.Busy.FreeBusyText.{utc_text}
use Rattle.cal_model.specs.Words.Limits.{first_date, last_date}
use Rattle.cal_model.specs.Refusals.RequestLimits.{resource_limit, instances_limit}
use Rattle.cal_model.specs.Refusals.RefusalReplies.{privileges_of}
use Rattle.cal_model.specs.Replies.Etags.{etag_of, etag_text}
use Rattle.cal_model.specs.Replies.ReplyElements.{href_element}
use Rattle.cal_model.specs.Replies.XmlText.{xml_text}
use Rattle.cal_model.specs.State.PropertyTexts.{text_at}
use Rattle.cal_model.specs.State.ServerState.{Directory, user_name}
use Rattle.cal_model.specs.Properties.PropertyValues.{empty_named, members_of, memberships_of, held_elements, kinds_elements, acl_elements, data_type, report_elements}
use Rattle.dav_props.specs.declared.rows.Row.{Row}
use Rattle.dav_props.specs.declared.rows.Row.TheVariants as rows
use Rattle.dav_props.specs.declared.subjects.Subject.{Subject}
use Rattle.dav_props.specs.declared.subjects.Subject.TheVariants as subject
use Rattle.dav_props.specs.Subjects.{texts_of}

-- the name of the user whose home a resource is in, or of the principal itself
abbrev pub owner_named : Subject → List ℕ
owner_named subject.Root = []
owner_named (subject.Principal user number) = user.now
owner_named (subject.Group name number) = name.now
owner_named (subject.Home user) = user.now
owner_named (subject.Calendar user held kept) = user.now
owner_named (subject.Object user held stored) = user.now

abbrev pub all_privileges : ℕ
all_privileges = 511

abbrev pub held_at : Subject → ℕ
held_at subject.Root = all_privileges
held_at (subject.Principal user number) = all_privileges
held_at (subject.Group name number) = all_privileges
held_at (subject.Home user) = all_privileges
held_at (subject.Calendar user held kept) = held
held_at (subject.Object user held stored) = held

abbrev pub type_elements : Subject → List ℕ
type_elements (subject.Principal user number) = empty_named (codes "D:collection") ++ empty_named (codes "D:principal")
type_elements (subject.Group name number) = empty_named (codes "D:collection") ++ empty_named (codes "D:principal")
type_elements (subject.Calendar user held kept) = empty_named (codes "D:collection") ++ empty_named (codes "C:calendar")
type_elements (subject.Object user held stored) = []
type_elements other = empty_named (codes "D:collection")

-- what was set on a calendar
abbrev pub text_element : PropName → Subject → List ℕ
text_element name (subject.Calendar user held kept) = xml_text (unwrap_or (text_at (texts_of kept.now.texts) name) [])
text_element name other = []

abbrev pub display_element : PropName → Subject → List ℕ
display_element name (subject.Principal user number) = xml_text user.now
display_element name (subject.Group of number) = xml_text of.now
display_element name other = text_element name other

-- the members of a group, and the groups of a user
abbrev pub members_shown : Directory → Subject → List ℕ
members_shown directory (subject.Group name number) = members_of directory number
members_shown directory other = []

abbrev pub memberships_shown : Directory → Subject → List ℕ
memberships_shown directory (subject.Principal user (Some number)) = memberships_of directory number
memberships_shown directory other = []

-- what is said of an object's octets
abbrev pub said_of_octets : (List ℕ → List ℕ) → Subject → List ℕ
said_of_octets content (subject.Object user held stored) = content stored.now.octets
said_of_octets content other = []

abbrev pub kinds_shown : Subject → List ℕ
kinds_shown (subject.Calendar user held kept) = kinds_elements kept.now.kinds
kinds_shown other = []

abbrev pub acl_shown : Directory → Subject → List ℕ
acl_shown directory (subject.Calendar user held kept) = acl_elements directory kept.now.acl.grants
acl_shown directory other = []

abbrev pub shown_content : Directory → ℕ → Row → PropName → Subject → List ℕ
shown_content directory who rows.ResourceType name seen = type_elements seen
shown_content directory who rows.AskingPrincipal name seen = href_element (Principal (user_name directory who))
shown_content directory who rows.Owner name seen = href_element (Principal (owner_named seen))
shown_content directory who rows.HeldPrivileges name seen = held_elements (held_at seen)
shown_content directory who rows.DisplayName name seen = display_element name seen
shown_content directory who rows.PrincipalUrl name seen = href_element (Principal (owner_named seen))
shown_content directory who rows.CalendarHome name seen = href_element (Home (owner_named seen))
shown_content directory who rows.GroupMembers name seen = members_shown directory seen
shown_content directory who rows.GroupMemberships name seen = memberships_shown directory seen
shown_content directory who rows.Etag name seen = said_of_octets (λ octets. etag_text (etag_of octets)) seen
shown_content directory who rows.ContentType name seen = codes "text/calendar; charset=utf-8"
shown_content directory who rows.ContentLength name seen = said_of_octets (λ octets. decimal (length octets)) seen
shown_content directory who rows.CalendarData name seen = []
shown_content directory who rows.Description name seen = text_element name seen
shown_content directory who rows.Timezone name seen = text_element name seen
shown_content directory who rows.Kinds name seen = kinds_shown seen
shown_content directory who rows.DataType name seen = data_type
shown_content directory who rows.MaxSize name seen = decimal resource_limit
shown_content directory who rows.MinDate name seen = utc_text first_date
shown_content directory who rows.MaxDate name seen = utc_text last_date
shown_content directory who rows.MaxInstances name seen = decimal instances_limit
shown_content directory who rows.Reports name seen = report_elements
shown_content directory who rows.Acl name seen = acl_shown directory seen
shown_content directory who rows.Text name seen = text_element name seen

-- calendar-data is there in reports alone
abbrev pub IsShownHere : Row → Option (List ℕ → List ℕ) → Type 0
IsShownHere rows.CalendarData shown = shown ≡ None
IsShownHere other shown = Unit {0}

-- the elements of some bits, each where it is in a set
abbrev pub bit_piece : ℕ → ℕ → List ℕ
bit_piece set bit = if has_all set bit then privileges_of bit else []

abbrev pub bit_pieces : ℕ → List ℕ → List ℕ
bit_pieces set bits = flat_map (bit_piece set) bits

-- an element where its bit is in a set
abbrev pub piece_where : ℕ → ℕ → List ℕ → List ℕ
piece_where set bit element = if has_all set bit then element else []

-- what an ace has before what it grants
abbrev pub ace_front : List ℕ → List ℕ
ace_front who = codes "<D:ace><D:principal>" ++ (who ++ codes "</D:principal>")
