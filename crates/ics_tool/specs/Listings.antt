-- What is told of a calendar file: the rows of its object that overlap a range (RFC 4791, 9.9), or one line about the object; and why there is neither.
-- One value for the file, the zone and the range, over all rows of the object. No window occurs, and no order in which rows are found.
use Rattle.std.specs.Prelude.{ℕ, List, filter, length, if◌then◌else◌, Option, Some, None, Result, Ok, Err}
use Rattle.cal_model.specs.declared.object.Object.{Object}
use Rattle.cal_model.specs.declared.row.Range.{Range}
use Rattle.cal_model.specs.declared.row.Row.{Row}
use Rattle.cal_model.specs.declared.zone.ZoneTable.{ZoneTable}
use Rattle.cal_model.specs.Instances.Alignment.{utc_zone}
use Rattle.cal_model.specs.Instances.Rows.{rows}
use Rattle.cal_model.specs.Objects.ObjectReading.{Unread, read_object, read_zone}
use Rattle.cal_model.specs.Ranges.RowRanges.{row_in_range}
use Rattle.cal_model.specs.Refusals.Preconditions.{has_too_many}
use Rattle.ics_tool.specs.RowTexts.{rows_text, summary_line}

-- lines; the file is no object; the zone's text is no zone; the object has more rows than are served, or a rule that recurs by seconds or minutes
pub data Listing : Type 0 where
  text : List ℕ → Listing
  refused : Unread → Listing
  zone_refused : Unread → Listing
  too_many : Listing

-- the rows of an object that overlap a range, in the order of the rows: those without a date first, the others by id and component
abbrev pub rows_met : Object → ZoneTable → Range → List Row
rows_met object zone range = filter (row_in_range object zone range) (rows object)

-- The zone comes behind the object, and the number of rows behind the zone.

abbrev pub object_listing : Object → Range → ZoneTable → Listing
object_listing object range zone = if has_too_many object then too_many else text (rows_text (rows_met object zone range))

abbrev pub zone_listing : Object → Range → Result ZoneTable Unread → Listing
zone_listing object range (Ok zone) = object_listing object range zone
zone_listing object range (Err why) = zone_refused why

-- the zone that a text is, or UTC where there is no text
abbrev pub zone_read : Option (List ℕ) → Result ZoneTable Unread
zone_read None = Ok utc_zone
zone_read (Some octets) = read_zone octets

abbrev pub listing_of : Option (List ℕ) → Range → Result Object Unread → Listing
listing_of zone_octets range (Ok object) = zone_listing object range (zone_read zone_octets)
listing_of zone_octets range (Err why) = refused why

-- the rows of a file that overlap a range
abbrev pub file_listing : List ℕ → Option (List ℕ) → Range → Listing
file_listing octets zone range = listing_of zone range (read_object octets)

-- The line about an object.

abbrev pub object_summary : Object → Listing
object_summary object = if has_too_many object then too_many else text (summary_line object.kind object.uid (length (rows object)))

abbrev pub summary_of : Result Object Unread → Listing
summary_of (Ok object) = object_summary object
summary_of (Err why) = refused why

abbrev pub file_summary : List ℕ → Listing
file_summary octets = summary_of (read_object octets)
