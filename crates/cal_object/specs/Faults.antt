-- The faults that a reading tells.
use Rattle.std.specs.Prelude.{◌≡◌, Option, Some, Result, Err}
use Rattle.cal_model.specs.Objects.ObjectReading.{Unread, not_calendar, not_resource, date_outside}
use Rattle.cal_object.specs.declared.fault.ReadFault.{ReadFault}
use Rattle.cal_object.specs.declared.fault.ReadFault.TheVariants.{NotCalendar, NotResource, DateOutside, NoMemory}

-- a told fault is the one that the reading has; memory may be wanting whatever the octets are
abbrev pub IsFaultOf : {X : Type 0} → Result X Unread → ReadFault → Type 0
IsFaultOf reading (NotCalendar place) = reading ≡ Err (not_calendar place)
IsFaultOf reading (NotResource why) = reading ≡ Err (not_resource why)
IsFaultOf reading (DateOutside kind stamp) = reading ≡ Err (date_outside kind stamp)
IsFaultOf reading NoMemory = Unit {0}

-- the same of a fault that is found on the way
abbrev pub IsFound : Option Unread → ReadFault → Type 0
IsFound found (NotCalendar place) = found ≡ Some (not_calendar place)
IsFound found (NotResource why) = found ≡ Some (not_resource why)
IsFound found (DateOutside kind stamp) = found ≡ Some (date_outside kind stamp)
IsFound found NoMemory = Unit {0}
