-- What a user sees of the server: the calendars on which some privilege is held, each with the privileges held and with what these show
-- (RFC 3744, 3 and 5.4; RFC 4791, 6.1.1). A hidden calendar is as one that is not there.
-- Given: the users and groups, a state, and the number of one user. The reply to a request that only reads is a function of this alone; it stands for "may read, or see as busy".
use Rattle.std.specs.Prelude.{ℕ, Bool, true, false, not, ◌&&◌, ◌==◌, if◌then◌else◌, List, map, filter, Option, Some, None, ℤ, int_le}
use Rattle.std.specs.List.{enumerate_from}
use Rattle.cal_base.specs.Lists.NameMap.{Named}
use Rattle.cal_model.specs.declared.object.Class.{Class}
use Rattle.cal_model.specs.declared.privilege.Grant.{Grant}
use Rattle.cal_model.specs.Busy.BusyRuns.{class_at, calendar_times}
use Rattle.cal_model.specs.Reports.FloatingZone.{floating_zone}
use Rattle.cal_model.specs.Words.Limits.{first_date, last_date}
use Rattle.cal_model.specs.Access.Privileges.{privileges_held, has_all, read, read_acl, read_free_busy}
use Rattle.cal_model.specs.State.PropertyTexts.{Texts}
use Rattle.cal_model.specs.State.ServerState.{Directory, Calendar, Home, ServerState, groups_of, objects_of, own_zone}

-- the privileges that a user holds on a calendar, by grants to the user's groups too
abbrev pub held_on : Directory → ℕ → ℕ → Calendar → ℕ
held_on directory owner who calendar = privileges_held (groups_of directory who) calendar.grants owner who

-- what DAV:read shows: the properties and the objects
pub record Contents : Type 0 where
  pub kinds : ℕ
  pub texts : Texts
  pub objects : Named (List ℕ)

abbrev pub contents_of : Calendar → Contents
contents_of calendar = record { kinds = calendar.kinds; texts = calendar.texts; objects = calendar.objects }

-- the class of a second of a calendar
abbrev pub busy_class : Calendar → ℤ → Option Class
busy_class calendar t = class_at (calendar_times (floating_zone None (own_zone calendar.texts)) (objects_of calendar.objects)) t

-- a second of the dates that are served
abbrev pub is_served : ℤ → Bool
is_served t = int_le first_date t && int_le t last_date

-- what CALDAV:read-free-busy shows: the class of each of these seconds
abbrev pub served_class : Calendar → ℤ → Option Class
served_class calendar t = if is_served t then busy_class calendar t else None

-- a calendar as a user sees it
pub record Sight : Type 0 where
  pub held : ℕ
  -- with DAV:read
  pub contents : Option Contents
  -- with DAV:read-acl
  pub grants : Option (List Grant)
  -- with CALDAV:read-free-busy
  pub busy : Option (ℤ → Option Class)

abbrev pub only_where : {X : Type 0} → Bool → X → Option X
only_where true x = Some x
only_where false x = None

abbrev pub sight_with : ℕ → Calendar → Sight
sight_with held calendar = record {
  held = held;
  contents = only_where (has_all held read) (contents_of calendar);
  grants = only_where (has_all held read_acl) calendar.grants;
  busy = only_where (has_all held read_free_busy) (served_class calendar);
}

abbrev pub sight_of : Directory → ℕ → ℕ → Calendar → Sight
sight_of directory owner who calendar = sight_with (held_on directory owner who calendar) calendar

-- a calendar as a request goes by it that changes something: with all its contents, whatever is held
abbrev pub whole_sight : Directory → ℕ → ℕ → Calendar → Sight
whole_sight directory owner who calendar = record (sight_of directory owner who calendar) { contents = Some (contents_of calendar) }

-- the calendars of a home on which a user holds some privilege
abbrev pub visible_calendars : Directory → ℕ → ℕ → Home → Named Calendar
visible_calendars directory owner who home =
    filter (λ (entry : List ℕ × Calendar). not (held_on directory owner who entry.1 == 0)) home.calendars

-- the homes in the order of their users' numbers, each with its visible calendars
abbrev pub View : Type 0
View = List (Named Sight)

-- how calendars are looked at: by their owner and the caller
abbrev pub Look : Type 0
Look = Directory → ℕ → ℕ → Calendar → Sight

abbrev pub home_by : Look → Directory → ℕ → ℕ × Home → Named Sight
home_by look directory who numbered =
    map (λ (entry : List ℕ × Calendar). (entry.0, look directory numbered.0 who entry.1)) (visible_calendars directory numbered.0 who numbered.1)

abbrev pub view_by : Look → Directory → ServerState → ℕ → View
view_by look directory state who = map (home_by look directory who) (enumerate_from 0 state.homes)

-- what a user sees of a state
abbrev pub seen_by : Directory → ServerState → ℕ → View
seen_by = view_by sight_of
