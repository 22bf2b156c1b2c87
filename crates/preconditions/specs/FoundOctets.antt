-- What is found of octets that are to be put, whatever the state is: what they are read as.
use Rattle.std.specs.Prelude.{◌≡◌, ℕ, List, Result, Ok, Err}
use Rattle.cal_model.specs.declared.object.Object.{Object as ObjectSpec}
use Rattle.cal_model.specs.Objects.ObjectReading.{Unread, date_outside, not_calendar, not_resource, read_object}
use Rattle.cal_object.specs.declared.fault.ReadFault.TheVariants.{NotCalendar, NotResource, DateOutside, NoMemory}
use Rattle.preconditions.specs.declared.found.Found.{Found}
use Rattle.preconditions.specs.declared.found.Found.TheVariants.{Object, Fault}

-- a reading as it was found; where memory was wanting it may be any
abbrev pub reading_found : Found → Result ObjectSpec Unread → Result ObjectSpec Unread
reading_found (Object counted) reading = Ok counted.object
reading_found (Fault (NotCalendar place)) reading = Err (not_calendar place)
reading_found (Fault (NotResource why)) reading = Err (not_resource why)
reading_found (Fault (DateOutside kind stamp)) reading = Err (date_outside kind stamp)
reading_found (Fault NoMemory) reading = reading

-- octets are read so
abbrev pub IsFoundOf : List ℕ → Found → Type 0
IsFoundOf octets found = read_object octets ≡ reading_found found (read_object octets)
