-- What a PUT of a calendar object must meet (RFC 4791, 5.3.2.1), in the order in which it is looked at: one table, read from its top.
-- Given: whether the octets were sent as a calendar, the octets, and the kinds that the calendar takes; for the conflict of UIDs also its objects.
use Rattle.std.specs.Prelude.{◌≡◌, ℕ, Bool, true, false, not, ◌&&◌, ◌||◌, nat_lt, if◌then◌else◌, List, [], ◌∷◌, length, filter, bytes_eq, Option, Some, None, option_map, Result, Ok, Err, int_lt, codes}
use Rattle.std.specs.Option.{option_map_or}
use Rattle.cal_base.specs.Lines.ComponentTrees.{first, or_else}
use Rattle.cal_base.specs.Lists.NameMap.{Named}
use Rattle.cal_moment.specs.declared.stamp.Stamp.{Stamp}
use Rattle.cal_model.specs.declared.object.Kind.{Kind}
use Rattle.cal_model.specs.declared.object.Kind.TheVariants.{Event, Todo, Journal, FreeBusy}
use Rattle.cal_model.specs.declared.object.Object.{Object}
use Rattle.cal_model.specs.declared.path.Path.{Path}
use Rattle.cal_model.specs.declared.path.Path.TheVariants.{Object as ObjectPath}
use Rattle.cal_model.specs.declared.reply.Cond.TheVariants.{Cal}
use Rattle.cal_model.specs.declared.reply.Refusal.{Refusal}
use Rattle.cal_model.specs.Instances.Alignment.{written_value}
use Rattle.cal_model.specs.Words.Limits.{first_date}
use Rattle.cal_model.specs.Objects.ObjectReading.{Unread, not_calendar, not_resource, date_outside, read_object, first_there}
use Rattle.cal_model.specs.Access.Privileges.{has_all}
use Rattle.cal_model.specs.Instances.Rows.{rows, has_fine_rule}
use Rattle.cal_model.specs.Replies.XmlText.{element}
use Rattle.cal_model.specs.Bodies.Refusals.{caldav_refusal}
use Rattle.cal_model.specs.Replies.ReplyElements.{href_element}
use Rattle.cal_model.specs.State.ServerState.{object_of}
use Rattle.cal_model.specs.Refusals.RefusalReplies.{refused_where}
use Rattle.cal_model.specs.Refusals.RequestLimits.{resource_limit, instances_limit}

-- What the octets are

abbrev pub bit_of_kind : Kind → ℕ
bit_of_kind Event = 1
bit_of_kind Todo = 2
bit_of_kind Journal = 4
bit_of_kind FreeBusy = 8

-- what came of reading the octets
abbrev pub Reading : Type 0
Reading = Result Object Unread

-- the kind of an object that was read, or whose date lies outside
abbrev pub kind_read : Reading → Option Kind
kind_read (Ok object) = Some object.kind
kind_read (Err (date_outside kind stamp)) = Some kind
kind_read (Err other) = None

abbrev pub is_no_calendar : Reading → Bool
is_no_calendar (Err (not_calendar place)) = true
is_no_calendar other = false

abbrev pub is_no_resource : Reading → Bool
is_no_resource (Err (not_resource why)) = true
is_no_resource other = false

abbrev pub is_other_kind : ℕ → Reading → Bool
is_other_kind kinds reading = option_map_or (λ kind. not (has_all kinds (bit_of_kind kind))) (kind_read reading) false

abbrev pub date_fault : Stamp → Refusal
date_fault stamp = caldav_refusal (if int_lt (written_value stamp) first_date then codes "min-date-time" else codes "max-date-time")

-- its first date outside, before the dates that are served or behind them
abbrev pub date_refusal : Reading → Option Refusal
date_refusal (Err (date_outside kind stamp)) = Some (date_fault stamp)
date_refusal other = None

-- more instances than are served; a rule that goes by minutes or seconds counts as too many
abbrev pub has_too_many : Object → Bool
has_too_many object = has_fine_rule object || nat_lt instances_limit (length (rows object))

abbrev pub is_too_many : Reading → Bool
is_too_many (Ok object) = has_too_many object
is_too_many other = false

-- The table of a PUT of so many octets that are read so, into a calendar of these kinds. `media_ok` says that they are sent as a calendar.
abbrev pub put_table_of : Bool → ℕ → ℕ → Reading → List (Option Refusal)
put_table_of media_ok size kinds reading =
    refused_where (not media_ok) (caldav_refusal (codes "supported-calendar-data"))
    ∷ refused_where (nat_lt resource_limit size) (caldav_refusal (codes "max-resource-size"))
    ∷ refused_where (is_no_calendar reading) (caldav_refusal (codes "valid-calendar-data"))
    ∷ refused_where (is_no_resource reading) (caldav_refusal (codes "valid-calendar-object-resource"))
    ∷ refused_where (is_other_kind kinds reading) (caldav_refusal (codes "supported-calendar-component"))
    ∷ date_refusal reading
    ∷ refused_where (is_too_many reading) (caldav_refusal (codes "max-instances"))
    ∷ []

unfoldable pub put_table : Bool → List ℕ → ℕ → List (Option Refusal)
put_table media_ok octets kinds = put_table_of media_ok (length octets) kinds (read_object octets)

-- the first that fails
abbrev pub put_refusal : Bool → List ℕ → ℕ → Option Refusal
put_refusal media_ok octets kinds = first_there (put_table media_ok octets kinds)

-- octets that may be stored: an object that isn't too much
pub record IsServable (octets : List ℕ) : Type 0 where
  pub object : Object
  pub reading : read_object octets ≡ Ok object
  pub few : has_too_many object ≡ false

-- UIDs (RFC 4791, 5.3.2.1, no-uid-conflict)

abbrev pub uid_of : List ℕ → Option (List ℕ)
uid_of octets = option_map (λ (object : Object). object.uid) (object_of octets)

abbrev pub has_uid : Option (List ℕ) → List ℕ → Bool
has_uid None octets = false
has_uid (Some uid) octets = elim (uid_of octets) [ None ↦ false | Some other ↦ bytes_eq uid other ]

-- the name of another object that has the same UID, or of this one where it has another UID
abbrev pub holder : Named (List ℕ) → List ℕ → List ℕ → Option (List ℕ × List ℕ)
holder objects name octets =
    or_else (first (filter (λ (entry : List ℕ × List ℕ). not (bytes_eq entry.0 name) && has_uid (uid_of octets) entry.1) objects))
    (first (filter (λ (entry : List ℕ × List ℕ). bytes_eq entry.0 name && not (has_uid (uid_of octets) entry.1)) objects))

-- 403, with the path of that object where the caller may read it
abbrev pub uid_conflict : Bool → Path → Refusal
uid_conflict may_read path = record { status = 403; cond = Cal (element (codes "C:no-uid-conflict") (if may_read then href_element path else [])) }

abbrev pub conflict : Bool → List ℕ → List ℕ → Named (List ℕ) → List ℕ → List ℕ → Option Refusal
conflict may_read owner calendar objects name octets =
    option_map (λ (entry : List ℕ × List ℕ). uid_conflict may_read (ObjectPath owner calendar entry.0)) (holder objects name octets)
