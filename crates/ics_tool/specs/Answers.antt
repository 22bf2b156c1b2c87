-- When an answer is that of a definition. Want of memory may come whatever that is.
use Rattle.std.specs.Prelude.{◌≡◌, true, false, length, option_map, Option, Some, None}
use Rattle.cal_model.specs.declared.object.Object.{Object}
use Rattle.cal_model.specs.Instances.Rows.{rows}
use Rattle.cal_model.specs.Objects.ObjectReading.{Unread, not_calendar, not_resource, date_outside}
use Rattle.cal_model.specs.Refusals.Preconditions.{has_too_many}
use Rattle.cal_object.specs.declared.fault.ReadFault.{ReadFault}
use Rattle.cal_object.specs.declared.fault.ReadFault.TheVariants as fault
use Rattle.rrule_sets.specs.declared.count.Counted.{Counted}
use Rattle.rrule_sets.specs.declared.count.Counted.TheVariants as counted
use Rattle.ics_tool.specs.declared.answer.Listed.{Listed}
use Rattle.ics_tool.specs.declared.answer.Listed.TheVariants.{Text, Refused, ZoneRefused, TooMany, NoMemory}
use Rattle.ics_tool.specs.Listings.{Listing, text, refused, zone_refused, too_many}

-- why octets are not read; want of memory says nothing of it
abbrev pub said_by : ReadFault → Option Unread
said_by (fault.NotCalendar place) = Some (not_calendar place)
said_by (fault.NotResource why) = Some (not_resource why)
said_by (fault.DateOutside kind stamp) = Some (date_outside kind stamp)
said_by fault.NoMemory = None

-- the answer is this listing
abbrev pub IsAnswer : Listing → Listed → Type 0
IsAnswer listing (Text octets) = listing ≡ text octets
IsAnswer listing (Refused why) = option_map refused (said_by why) ≡ Some listing
IsAnswer listing (ZoneRefused why) = option_map zone_refused (said_by why) ≡ Some listing
IsAnswer listing TooMany = listing ≡ too_many
IsAnswer listing NoMemory = Unit {0}

-- the answer for a file, and for a zone, that is read with a fault
abbrev pub refusal : ReadFault → Listed
refusal (fault.NotCalendar place) = Refused (fault.NotCalendar place)
refusal (fault.NotResource why) = Refused (fault.NotResource why)
refusal (fault.DateOutside kind stamp) = Refused (fault.DateOutside kind stamp)
refusal fault.NoMemory = NoMemory

abbrev pub zone_refusal : ReadFault → Listed
zone_refusal (fault.NotCalendar place) = ZoneRefused (fault.NotCalendar place)
zone_refusal (fault.NotResource why) = ZoneRefused (fault.NotResource why)
zone_refusal (fault.DateOutside kind stamp) = ZoneRefused (fault.DateOutside kind stamp)
zone_refusal fault.NoMemory = NoMemory

-- the rows of an object are so many, or too many
abbrev pub IsCount : Object → Counted → Type 0
IsCount object (counted.Within n) = (has_too_many object ≡ false) × (n ≡ length (rows object))
IsCount object counted.Over = has_too_many object ≡ true
IsCount object counted.NoMemory = Unit {0}
