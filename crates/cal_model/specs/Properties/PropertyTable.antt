-- The properties of resources (RFC 4918, 4 and 15; RFC 3744, 4 and 5; RFC 4791, 5.2 and 6.2.1): one table with a row for each.
-- Given: a resource as its caller sees it, and the name of a property. A row says on which resources the property is, which privilege shows it, whether `allprop` and `propname` list it, how it is set,
-- and its content. All other names are texts, as a row of their own says.
use Rattle.std.specs.Prelude.{ℕ, Bool, true, false, not, if◌then◌else◌, List, [], ◌∷◌, ◌++◌, length, map, filter, flat_map, find, option_to_list, is_some, Option, Some, None, unwrap_or, codes, decimal}
use Rattle.cal_model.specs.declared.property.PropName.{PropName}
use Rattle.cal_model.specs.Replies.Etags.{etag_of, etag_text}
use Rattle.cal_model.specs.Words.Namespaces.{dav, caldav}
use Rattle.cal_model.specs.Access.Privileges.{has_all, read, read_acl, read_held, same_name}
use Rattle.cal_model.specs.State.PropertyTexts.{Texts}
use Rattle.cal_model.specs.Sight.Views.{Contents}
use Rattle.cal_model.specs.Sight.Resources.{Resource, held_of, any_resource, is_user, is_group, is_principal, is_calendar, is_object, is_named, is_owned, Asker, calendar}
use Rattle.cal_model.specs.Properties.PropertyValues.{Value, always, resource_type, asking_principal, principal_href, home_href, group_members, group_memberships, privileges_held_here, text_value, display_value, of_octets, shown_data, kinds_value, acl_value, data_type, report_elements}
use Rattle.cal_model.specs.Refusals.RequestLimits.{resource_limit, instances_limit}
use Rattle.cal_model.specs.Busy.FreeBusyText.{utc_text}
use Rattle.cal_model.specs.Words.Limits.{first_date, last_date}

-- what lists a property that isn't asked for by name
pub data Listing : Type 0 where
  -- `allprop` and `propname`
  in_both : Listing
  -- `propname`
  in_names : Listing
  -- nothing
  in_none : Listing

-- how a property is set
pub data Setting : Type 0 where
  -- not at all
  protected : Setting
  -- to a text
  text : Setting
  -- to the text of a time zone
  zone : Setting
  -- to a list of kinds, when the calendar is made
  kinds : Setting

pub record Property : Type 0 where
  pub name : PropName
  pub on : Resource → Bool
  -- the privilege that shows it; 0 where the resource need only be visible
  pub needs : ℕ
  pub listed : Listing
  pub setting : Setting
  pub value : Value

abbrev pub in_dav : List ℕ → PropName
in_dav name = record { space = dav; name = name }

abbrev pub in_caldav : List ℕ → PropName
in_caldav name = record { space = caldav; name = name }

abbrev pub row : PropName → (Resource → Bool) → ℕ → Listing → Setting → Value → Property
row name on needs listed setting value = record { name = name; on = on; needs = needs; listed = listed; setting = setting; value = value }

-- a property that was set on a calendar
abbrev pub text_row : PropName → Listing → Setting → Property
text_row name listed setting = row name is_calendar read listed setting (text_value name)

-- one that says the same of each calendar
abbrev pub fixed_row : PropName → List ℕ → Property
fixed_row name content = row name is_calendar read in_names protected (always content)

-- Each property that isn't a text, in the order in which they are listed.
unfoldable pub properties : List Property
properties =
    row (in_dav (codes "resourcetype")) any_resource 0 in_both protected resource_type
    ∷ row (in_dav (codes "current-user-principal")) any_resource 0 in_names protected asking_principal
    ∷ row (in_dav (codes "owner")) is_owned 0 in_names protected principal_href
    ∷ row (in_dav (codes "current-user-privilege-set")) is_calendar read_held in_names protected privileges_held_here
    ∷ row (in_dav (codes "displayname")) is_named read in_both text (display_value (in_dav (codes "displayname")))
    ∷ row (in_dav (codes "principal-URL")) is_principal 0 in_names protected principal_href
    ∷ row (in_caldav (codes "calendar-home-set")) is_user 0 in_names protected home_href
    ∷ row (in_dav (codes "group-member-set")) is_group 0 in_names protected group_members
    ∷ row (in_dav (codes "group-membership")) is_principal 0 in_names protected group_memberships
    ∷ row (in_dav (codes "getetag")) is_object read in_both protected (of_octets (λ octets. etag_text (etag_of octets)))
    ∷ row (in_dav (codes "getcontenttype")) is_object read in_both protected (of_octets (λ octets. codes "text/calendar; charset=utf-8"))
    ∷ row (in_dav (codes "getcontentlength")) is_object read in_both protected (of_octets (λ octets. decimal (length octets)))
    ∷ row (in_caldav (codes "calendar-data")) is_object read in_none protected shown_data
    ∷ text_row (in_caldav (codes "calendar-description")) in_names text
    ∷ text_row (in_caldav (codes "calendar-timezone")) in_names zone
    ∷ row (in_caldav (codes "supported-calendar-component-set")) is_calendar read in_names kinds kinds_value
    ∷ fixed_row (in_caldav (codes "supported-calendar-data")) data_type
    ∷ fixed_row (in_caldav (codes "max-resource-size")) (decimal resource_limit)
    ∷ fixed_row (in_caldav (codes "min-date-time")) (utc_text first_date)
    ∷ fixed_row (in_caldav (codes "max-date-time")) (utc_text last_date)
    ∷ fixed_row (in_caldav (codes "max-instances")) (decimal instances_limit)
    ∷ fixed_row (in_dav (codes "supported-report-set")) report_elements
    ∷ row (in_dav (codes "acl")) is_calendar read_acl in_names protected acl_value
    ∷ []

-- the row of a name, if it isn't a text
abbrev pub listed_row : PropName → Option Property
listed_row name = find (λ (p : Property). same_name p.name name) properties

-- a property that has no row of its own is a text
abbrev pub row_of : PropName → Property
row_of name = unwrap_or (listed_row name) (text_row name in_both text)

-- Answers

-- what is said of one property: 200 with its content, or 403 or 404
pub record Answer : Type 0 where
  pub name : PropName
  pub status : ℕ
  pub content : List ℕ

abbrev pub without_value : PropName → ℕ → Answer
without_value name status = record { name = name; status = status; content = [] }

-- a property is looked for where it can be; then its privilege is looked at; and then whether it is there. So 403 doesn't show whether it is.
abbrev pub answer_of_row : Asker → Resource → PropName → Property → Answer
answer_of_row asker resource name p =
    if not (p.on resource) then without_value name 404
    else (if not (has_all (held_of resource) p.needs) then without_value name 403
    else (elim (p.value asker resource) [ None ↦ without_value name 404 | Some content ↦ record { name = name; status = 200; content = content } ]))

unfoldable pub answer : Asker → Resource → PropName → Answer
answer asker resource name = answer_of_row asker resource name (row_of name)

-- the texts of a calendar that are seen, by their order; of these a row is no part
abbrev pub texts_seen : Resource → Texts
texts_seen (calendar owner name sight) = flat_map (λ (contents : Contents). contents.texts) (option_to_list sight.contents)
texts_seen other = []

abbrev pub is_text : PropName → Bool
is_text name = not (is_some (listed_row name))

abbrev pub text_names : Texts → List PropName
text_names texts = filter is_text (map (λ (entry : PropName × List ℕ). entry.0) texts)

abbrev pub names_where : (Listing → Bool) → Resource → List PropName
names_where is_listed resource =
    map (λ (p : Property). p.name) (filter (λ (p : Property). is_listed p.listed) properties) ++ text_names (texts_seen resource)

abbrev pub is_in_both : Listing → Bool
is_in_both in_both = true
is_in_both other = false

abbrev pub is_in_names : Listing → Bool
is_in_names in_none = false
is_in_names other = true
