-- What the commands `expand` and `check` tell of calendar files: lines on standard output, or why a file is not taken, in one line on standard error.
-- Given: the paths of the files, their contents and the range. The calendar file comes first, then that of the time zone, each of at most so many octets; what is told of their octets stands in `Listings` of `ics_tool`.
use Rattle.std.specs.Prelude.{ℕ, Bool, false, nat_lt, if◌then◌else◌, List, [], ◌++◌, length, codes, decimal, Option, Some, None, unwrap_or}
use Rattle.cal_model.specs.declared.object.NotResource.{NotResource}
use Rattle.cal_model.specs.declared.object.NotResource.TheVariants.{Method, NoComponent, MixedKinds, NoUid, MixedUids, TwoMasters, SameRecurrenceId, ZoneMissing, ExRule}
use Rattle.cal_model.specs.declared.row.Range.{Range}
use Rattle.cal_model.specs.Objects.ObjectReading.{Unread, not_calendar, not_resource, date_outside}
use Rattle.cal_model.specs.Refusals.RequestLimits.{resource_limit}
use Rattle.ics_tool.specs.Listings.{Listing, text, refused, zone_refused, too_many, file_listing, file_summary}

-- lines on standard output; or a line on standard error, and a place in the file that it names
pub data Told : Type 0 where
  lines : List ℕ → Told
  line : List ℕ → ℕ → Told

-- a line about the file of a path
abbrev pub line_about : List ℕ → List ℕ → List ℕ
line_about path why = path ++ (codes ": " ++ why)

-- the number of a reason why a calendar is not one resource
abbrev pub number_of : NotResource → ℕ
number_of Method = 0
number_of NoComponent = 1
number_of MixedKinds = 2
number_of NoUid = 3
number_of MixedUids = 4
number_of TwoMasters = 5
number_of SameRecurrenceId = 6
number_of ZoneMissing = 7
number_of ExRule = 8

-- why octets are not read, in words, and the place of that
abbrev pub why_of : Unread → List ℕ × ℕ
why_of (not_calendar place) = (codes "not a calendar at octet " ++ decimal place, place)
why_of (not_resource why) = (codes "not one resource: " ++ decimal (number_of why), 0)
why_of (date_outside kind stamp) = (codes "date outside", 0)

abbrev pub unread : List ℕ → Unread → Told
unread path why = line (line_about path (why_of why).0) (why_of why).1

abbrev pub too_long : List ℕ → Told
too_long path = line (line_about path (codes "too long")) 0

-- what is told of a listing of the file of a path, where floating times are read in the zone of another
abbrev pub told_of : List ℕ → List ℕ → Listing → Told
told_of file zone (text octets) = lines octets
told_of file zone (refused why) = unread file why
told_of file zone (zone_refused why) = unread zone why
told_of file zone too_many = line (line_about file (codes "too many instances")) 0

-- a file is longer than is read
abbrev pub is_long : List ℕ → Bool
is_long octets = nat_lt resource_limit (length octets)

abbrev pub is_long_there : Option (List ℕ) → Bool
is_long_there None = false
is_long_there (Some octets) = is_long octets

-- behind the calendar file, what is told with the file of the time zone
abbrev pub zone_told : List ℕ → Option (List ℕ) → Range → List ℕ → Option (List ℕ) → Told
zone_told file zone range octets zone_octets =
    if is_long_there zone_octets then too_long (unwrap_or zone []) else told_of file (unwrap_or zone []) (file_listing octets zone_octets range)

abbrev pub expand_told : List ℕ → Option (List ℕ) → Range → List ℕ → Option (List ℕ) → Told
expand_told file zone range octets zone_octets = if is_long octets then too_long file else zone_told file zone range octets zone_octets

abbrev pub check_told : List ℕ → List ℕ → Told
check_told file octets = if is_long octets then too_long file else told_of file [] (file_summary octets)
