-- What the checks of a PUT find, in the words of their table: the first of its rows that refuses.
use Rattle.std.specs.Prelude.{◌≡◌, ℕ, ◌<◌, ◌^◌, true, false, List, length, Option, Some, None, Ok, codes}
use Rattle.cal_model.specs.declared.object.Object.{Object}
use Rattle.cal_model.specs.declared.reply.Refusal.{Refusal}
use Rattle.cal_model.specs.Bodies.Refusals.{caldav_refusal}
use Rattle.cal_model.specs.Objects.ObjectReading.{first_there, read_object}
use Rattle.cal_model.specs.Refusals.Preconditions.{Reading, put_table_of, has_too_many}
use Rattle.cal_object.specs.declared.fault.ReadFault.{ReadFault}
use Rattle.cal_object.specs.Faults.{IsFaultOf}
use Rattle.preconditions.specs.declared.check.PutCheck.{PutCheck}
use Rattle.preconditions.specs.declared.check.PutCheck.TheVariants.{Fine, Refused, NoMemory}
use Rattle.preconditions.specs.declared.precondition.Precondition.{Precondition}
use Rattle.preconditions.specs.declared.precondition.Precondition.TheVariants.{SupportedCalendarData, MaxResourceSize, ValidCalendarData, ValidCalendarObjectResource, SupportedCalendarComponent, MinDateTime, MaxDateTime, MaxInstances}

-- Names

abbrev pub name_of : Precondition → List ℕ
name_of SupportedCalendarData = codes "supported-calendar-data"
name_of MaxResourceSize = codes "max-resource-size"
name_of ValidCalendarData = codes "valid-calendar-data"
name_of ValidCalendarObjectResource = codes "valid-calendar-object-resource"
name_of SupportedCalendarComponent = codes "supported-calendar-component"
name_of MinDateTime = codes "min-date-time"
name_of MaxDateTime = codes "max-date-time"
name_of MaxInstances = codes "max-instances"

abbrev pub refusal_of : Precondition → Refusal
refusal_of precondition = caldav_refusal (name_of precondition)

-- What was read

-- what refuses octets that were read so, whatever they were sent as and however many they are
abbrev pub content_refusal : ℕ → Reading → Option Refusal
content_refusal kinds reading = first_there (put_table_of true 0 kinds reading)

-- octets that are read with that fault do not meet this
abbrev pub IsUnmetBy : ℕ → ReadFault → Precondition → Type 0
IsUnmetBy kinds fault unmet = (reading : Reading) → IsFaultOf reading fault → content_refusal kinds reading ≡ Some (refusal_of unmet)

-- The answer

-- the first that refuses, or that none does; want of memory says nothing of it
abbrev pub IsFinding : Option Refusal → PutCheck → Type 0
IsFinding refusal (Fine object) = refusal ≡ None
IsFinding refusal (Refused found) = refusal ≡ Some found
IsFinding refusal NoMemory = Unit {0}

-- an object that octets are and that may be stored
pub record IsServed (octets : List ℕ) (object : Object) : Type 0 where
  pub reading : read_object octets ≡ Ok object
  pub few_instances : has_too_many object ≡ false
  pub few_components : length object.components < 2 ^ 32

-- what is fine is that
abbrev pub IsObjectOf : List ℕ → PutCheck → Type 0
IsObjectOf octets (Fine object) = IsServed octets object
IsObjectOf octets (Refused refusal) = Unit {0}
IsObjectOf octets NoMemory = Unit {0}

-- what is fine is this object
abbrev pub IsFineWith : Object → PutCheck → Type 0
IsFineWith object (Fine found) = found ≡ object
IsFineWith object (Refused refusal) = Unit {0}
IsFineWith object NoMemory = Unit {0}
