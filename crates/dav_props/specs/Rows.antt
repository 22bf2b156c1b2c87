-- What the code's names for properties, and for the columns of the table, stand for.
use Rattle.std.specs.Prelude.{◌≡◌, Bool, List, [], ◌∷◌, codes, decimal, length}
use Rattle.cal_model.specs.declared.property.PropName.{PropName}
use Rattle.cal_model.specs.Access.Privileges.{read, read_acl, read_held}
use Rattle.cal_model.specs.Sight.Resources.{Resource, any_resource, is_principal, is_user, is_group, is_calendar, is_object, is_named, is_owned}
use Rattle.cal_model.specs.Properties.PropertyTable as table
use Rattle.cal_model.specs.Properties.PropertyTable.{Property, in_dav, in_caldav, row, text_row, in_both, in_names, in_none, protected, text, zone, kinds}
use Rattle.cal_model.specs.Properties.PropertyValues.{always, resource_type, asking_principal, principal_href, home_href, group_members, group_memberships, privileges_held_here, text_value, display_value, of_octets, shown_data, kinds_value, acl_value, data_type, report_elements}
use Rattle.cal_model.specs.Replies.Etags.{etag_of, etag_text}
use Rattle.cal_model.specs.Refusals.RequestLimits.{resource_limit, instances_limit}
use Rattle.cal_model.specs.Busy.FreeBusyText.{utc_text}
use Rattle.cal_model.specs.Words.Limits.{first_date, last_date}
use Rattle.dav_props.specs.declared.rows.Row.{Row}
use Rattle.dav_props.specs.declared.rows.Row.TheVariants as rows
use Rattle.dav_props.specs.declared.rows.Place.{Place}
use Rattle.dav_props.specs.declared.rows.Place.TheVariants.{Anywhere, Owned, Principal, User, Group, Calendar, Named, Object}
use Rattle.dav_props.specs.declared.rows.Listing.{Listing}
use Rattle.dav_props.specs.declared.rows.Listing.TheVariants.{Both, Names, Neither}
use Rattle.dav_props.specs.declared.rows.Setting.{Setting}
use Rattle.dav_props.specs.declared.rows.Setting.TheVariants as settings
use Rattle.dav_props.specs.declared.rows.Columns.{Columns}
use Rattle.dav_props.specs.declared.rows.Asked.{Asked}

-- the name of a property that has a row of its own
abbrev pub name_of : Row → PropName
name_of rows.ResourceType = in_dav (codes "resourcetype")
name_of rows.AskingPrincipal = in_dav (codes "current-user-principal")
name_of rows.Owner = in_dav (codes "owner")
name_of rows.HeldPrivileges = in_dav (codes "current-user-privilege-set")
name_of rows.DisplayName = in_dav (codes "displayname")
name_of rows.PrincipalUrl = in_dav (codes "principal-URL")
name_of rows.CalendarHome = in_caldav (codes "calendar-home-set")
name_of rows.GroupMembers = in_dav (codes "group-member-set")
name_of rows.GroupMemberships = in_dav (codes "group-membership")
name_of rows.Etag = in_dav (codes "getetag")
name_of rows.ContentType = in_dav (codes "getcontenttype")
name_of rows.ContentLength = in_dav (codes "getcontentlength")
name_of rows.CalendarData = in_caldav (codes "calendar-data")
name_of rows.Description = in_caldav (codes "calendar-description")
name_of rows.Timezone = in_caldav (codes "calendar-timezone")
name_of rows.Kinds = in_caldav (codes "supported-calendar-component-set")
name_of rows.DataType = in_caldav (codes "supported-calendar-data")
name_of rows.MaxSize = in_caldav (codes "max-resource-size")
name_of rows.MinDate = in_caldav (codes "min-date-time")
name_of rows.MaxDate = in_caldav (codes "max-date-time")
name_of rows.MaxInstances = in_caldav (codes "max-instances")
name_of rows.Reports = in_dav (codes "supported-report-set")
name_of rows.Acl = in_dav (codes "acl")
name_of rows.Text = record { space = []; name = [] }

-- what the table says of it, under a name
abbrev pub property_of : Row → PropName → Property
property_of rows.ResourceType name = row name any_resource 0 in_both protected resource_type
property_of rows.AskingPrincipal name = row name any_resource 0 in_names protected asking_principal
property_of rows.Owner name = row name is_owned 0 in_names protected principal_href
property_of rows.HeldPrivileges name = row name is_calendar read_held in_names protected privileges_held_here
property_of rows.DisplayName name = row name is_named read in_both text (display_value name)
property_of rows.PrincipalUrl name = row name is_principal 0 in_names protected principal_href
property_of rows.CalendarHome name = row name is_user 0 in_names protected home_href
property_of rows.GroupMembers name = row name is_group 0 in_names protected group_members
property_of rows.GroupMemberships name = row name is_principal 0 in_names protected group_memberships
property_of rows.Etag name = row name is_object read in_both protected (of_octets (λ octets. etag_text (etag_of octets)))
property_of rows.ContentType name = row name is_object read in_both protected (of_octets (λ octets. codes "text/calendar; charset=utf-8"))
property_of rows.ContentLength name = row name is_object read in_both protected (of_octets (λ octets. decimal (length octets)))
property_of rows.CalendarData name = row name is_object read in_none protected shown_data
property_of rows.Description name = row name is_calendar read in_names text (text_value name)
property_of rows.Timezone name = row name is_calendar read in_names zone (text_value name)
property_of rows.Kinds name = row name is_calendar read in_names kinds kinds_value
property_of rows.DataType name = row name is_calendar read in_names protected (always data_type)
property_of rows.MaxSize name = row name is_calendar read in_names protected (always (decimal resource_limit))
property_of rows.MinDate name = row name is_calendar read in_names protected (always (utc_text first_date))
property_of rows.MaxDate name = row name is_calendar read in_names protected (always (utc_text last_date))
property_of rows.MaxInstances name = row name is_calendar read in_names protected (always (decimal instances_limit))
property_of rows.Reports name = row name is_calendar read in_names protected (always report_elements)
property_of rows.Acl name = row name is_calendar read_acl in_names protected acl_value
property_of rows.Text name = text_row name in_both text

-- the properties that have rows of their own, in their order
abbrev pub listed_rows : List Row
listed_rows =
    rows.ResourceType ∷ rows.AskingPrincipal ∷ rows.Owner ∷ rows.HeldPrivileges ∷ rows.DisplayName ∷ rows.PrincipalUrl ∷ rows.CalendarHome ∷ rows.GroupMembers ∷ rows.GroupMemberships
    ∷ rows.Etag ∷ rows.ContentType ∷ rows.ContentLength ∷ rows.CalendarData ∷ rows.Description ∷ rows.Timezone ∷ rows.Kinds ∷ rows.DataType ∷ rows.MaxSize ∷ rows.MinDate
    ∷ rows.MaxDate ∷ rows.MaxInstances ∷ rows.Reports ∷ rows.Acl ∷ []

-- Columns

abbrev pub is_on : Place → Resource → Bool
is_on Anywhere = any_resource
is_on Owned = is_owned
is_on Principal = is_principal
is_on User = is_user
is_on Group = is_group
is_on Calendar = is_calendar
is_on Named = is_named
is_on Object = is_object

abbrev pub listing_of : Listing → table.Listing
listing_of Both = in_both
listing_of Names = in_names
listing_of Neither = in_none

abbrev pub setting_of : Setting → table.Setting
setting_of settings.Protected = protected
setting_of settings.Text = text
setting_of settings.Zone = zone
setting_of settings.Kinds = kinds

-- columns say what the table says
pub record AreColumns (columns : Columns) (property : Property) : Type 0 where
  pub on : property.on ≡ is_on columns.place
  pub needs : property.needs ≡ columns.needs
  pub listed : property.listed ≡ listing_of columns.listing
  pub setting : property.setting ≡ setting_of columns.setting

-- the name that a property is asked for by
abbrev pub asked_name : Asked → PropName
asked_name asked = record { space = asked.space.now; name = asked.name.now }

-- what is found as calendar-data has its name
abbrev pub IsOwnName : Row → PropName → Type 0
IsOwnName rows.CalendarData name = name_of rows.CalendarData ≡ name
IsOwnName other name = Unit {0}
