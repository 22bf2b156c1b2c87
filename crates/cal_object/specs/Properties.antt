-- The properties whose values are looked at (RFC 5545, 3.8), as the code tells them apart: by the names, the numbers and the tests of `LineValues.looked_at`.
use Rattle.std.specs.Prelude.{ℕ, Bool, true, false, List, [], ◌∷◌, find, bytes_eq, codes, Option, option_map, is_some}
use Rattle.cal_base.specs.declared.line.Line.{Line}
use Rattle.cal_model.specs.Values.ValueTexts.{length_of, offset_of}
use Rattle.cal_model.specs.Values.StampTexts.{trigger_of, repeat_of}
use Rattle.cal_model.specs.Values.RuleTexts.{rule_of}
use Rattle.cal_model.specs.Objects.LineValues.{is_short_length, is_of_stamps, is_of_dates, is_of_short_periods, is_short_trigger}
use Rattle.cal_object.specs.declared.property.Property.{Property}
use Rattle.cal_object.specs.declared.property.Property.TheVariants.{Start, End, Due, Duration, Rule, Dates, Except, RecurrenceId, Completed, Created, TimeStamp, LastModified, FreeBusy, Trigger, Repeat, OffsetFrom, OffsetTo}

-- by name
abbrev pub properties : List (List ℕ × Property)
properties =
    (codes "DTSTART", Start)
    ∷ (codes "DTEND", End)
    ∷ (codes "DUE", Due)
    ∷ (codes "DURATION", Duration)
    ∷ (codes "RRULE", Rule)
    ∷ (codes "RDATE", Dates)
    ∷ (codes "EXDATE", Except)
    ∷ (codes "RECURRENCE-ID", RecurrenceId)
    ∷ (codes "COMPLETED", Completed)
    ∷ (codes "CREATED", Created)
    ∷ (codes "DTSTAMP", TimeStamp)
    ∷ (codes "LAST-MODIFIED", LastModified)
    ∷ (codes "FREEBUSY", FreeBusy)
    ∷ (codes "TRIGGER", Trigger)
    ∷ (codes "REPEAT", Repeat)
    ∷ (codes "TZOFFSETFROM", OffsetFrom)
    ∷ (codes "TZOFFSETTO", OffsetTo)
    ∷ []

abbrev pub named_in : List (List ℕ × Property) → List ℕ → Option Property
named_in rows name = option_map (λ (row : List ℕ × Property). row.1) (find (λ (row : List ℕ × Property). bytes_eq name row.0) rows)

-- the property of a name
abbrev pub property_named : List ℕ → Option Property
property_named name = named_in properties name

-- the test of its values
abbrev pub test_of : Property → Line → Bool
test_of Duration line = is_short_length (length_of line.value)
test_of Rule line = is_some (rule_of line.value)
test_of Dates line = is_of_dates line
test_of FreeBusy line = is_of_short_periods line
test_of Trigger line = is_short_trigger (trigger_of line)
test_of Repeat line = is_some (repeat_of line.value)
test_of OffsetFrom line = is_some (offset_of line.value)
test_of OffsetTo line = is_some (offset_of line.value)
test_of other line = is_of_stamps line

-- whether it may stand more than once in a component
abbrev pub is_repeatable : Property → Bool
is_repeatable Rule = true
is_repeatable Dates = true
is_repeatable Except = true
is_repeatable FreeBusy = true
is_repeatable other = false

-- its number among all of them
abbrev pub number_of : Property → ℕ
number_of Start = 0
number_of End = 1
number_of Due = 2
number_of Duration = 3
number_of Rule = 4
number_of Dates = 5
number_of Except = 6
number_of RecurrenceId = 7
number_of Completed = 8
number_of Created = 9
number_of TimeStamp = 10
number_of LastModified = 11
number_of FreeBusy = 12
number_of Trigger = 13
number_of Repeat = 14
number_of OffsetFrom = 15
number_of OffsetTo = 16

-- the name of its lines
abbrev pub name_of : Property → List ℕ
name_of Start = codes "DTSTART"
name_of End = codes "DTEND"
name_of Due = codes "DUE"
name_of Duration = codes "DURATION"
name_of Rule = codes "RRULE"
name_of Dates = codes "RDATE"
name_of Except = codes "EXDATE"
name_of RecurrenceId = codes "RECURRENCE-ID"
name_of Completed = codes "COMPLETED"
name_of Created = codes "CREATED"
name_of TimeStamp = codes "DTSTAMP"
name_of LastModified = codes "LAST-MODIFIED"
name_of FreeBusy = codes "FREEBUSY"
name_of Trigger = codes "TRIGGER"
name_of Repeat = codes "REPEAT"
name_of OffsetFrom = codes "TZOFFSETFROM"
name_of OffsetTo = codes "TZOFFSETTO"

-- all of them, in the order of their numbers
abbrev pub all_properties : List Property
all_properties =
    Start
    ∷ End
    ∷ Due
    ∷ Duration
    ∷ Rule
    ∷ Dates
    ∷ Except
    ∷ RecurrenceId
    ∷ Completed
    ∷ Created
    ∷ TimeStamp
    ∷ LastModified
    ∷ FreeBusy
    ∷ Trigger
    ∷ Repeat
    ∷ OffsetFrom
    ∷ OffsetTo
    ∷ []

-- the first of some that has a name
abbrev pub first_named : List Property → List ℕ → Option Property
first_named some name = find (λ property. bytes_eq name (name_of property)) some
