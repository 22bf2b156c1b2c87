-- What a store shows of a state: the data of a calendar, and the calendar with the next name; and an object as it is kept, read once (RFC 4791, 4.2 and 5.2).
-- Given: a state, or stored octets. A state has nothing that is read from octets; a store may keep it beside them, and this says what it then is.
use Rattle.std.specs.Prelude.{◌≡◌, ℕ, List, Option, option_map, option_and_then, Ok}
use Rattle.cal_base.specs.Lists.NameMap.{value_at, next_above}
use Rattle.cal_model.specs.declared.object.Object.{Object}
use Rattle.cal_model.specs.declared.reply.Etag.{Etag}
use Rattle.cal_model.specs.declared.store.CalendarData.{CalendarData}
use Rattle.cal_model.specs.Objects.ObjectReading.{read_object}
use Rattle.cal_model.specs.Replies.Etags.{etag_of}
use Rattle.cal_model.specs.State.PropertyTexts.{as_settings}
use Rattle.cal_model.specs.State.ServerState.{Calendar, Home, ServerState, home_at, calendar_at, own_zone}

-- A calendar's data, its objects aside: its zone is read once and kept.
abbrev pub data_of : ℕ → Calendar → CalendarData
data_of owner calendar = record {
  owner = owner;
  acl = record { grants = calendar.grants };
  kinds = calendar.kinds;
  zone = own_zone calendar.texts;
  texts = as_settings calendar.texts;
}

abbrev pub data_at : ServerState → ℕ → List ℕ → Option CalendarData
data_at state home name = option_and_then (λ (h : Home). option_map (data_of home) (value_at h.calendars name)) (home_at state home)

-- the calendar with the least name above a name
abbrev pub next_calendar : ServerState → ℕ → List ℕ → Option (List ℕ × CalendarData)
next_calendar state home name =
    option_and_then (λ (h : Home). option_map (λ (entry : List ℕ × Calendar). (entry.0, data_of home entry.1)) (next_above h.calendars name)) (home_at state home)

-- the object with the least name above a name, and its octets
abbrev pub next_object : ServerState → ℕ → List ℕ → List ℕ → Option (List ℕ × List ℕ)
next_object state home calendar name = option_and_then (λ (c : Calendar). next_above c.objects name) (calendar_at state home calendar)

-- an object as it is kept: its octets, and what follows from them
pub record IsStored (octets : List ℕ) (object : Object) (etag : Etag) : Type 0 where
  pub reading : read_object octets ≡ Ok object
  pub tag : etag ≡ etag_of octets
