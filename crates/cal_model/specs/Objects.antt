-- Which calendar object octets are, or the first fault (RFC 5545, 3.4 to 3.6 and 3.8; RFC 4791, 4.1).
-- Given: octets, whose lines and component tree are those of cal_base, and the values of lines from the chapter Values.
-- ObjectReading is the answer: one table of faults, read from its top, and else the object. Read before it: ComponentLines (lines and components by name), LineValues (what
-- a line says, and which one cannot stand), ZoneReading (VTIMEZONEs), ComponentReading (one component), CalendarChildren (the children, and the object that they make). Then
-- the faults by what they are of: ZoneFaults, ComponentFaults, ResourceFaults (what is not stored), DateFaults; DatedLines is what the last two look at. ObjectFacts is what
-- holds of each object that was read.
pub mod ComponentLines
pub mod LineValues
pub mod ZoneReading
pub mod ComponentReading
pub mod CalendarChildren
pub mod ZoneFaults
pub mod ComponentFaults
pub mod DatedLines
pub mod ResourceFaults
pub mod DateFaults
pub mod ObjectReading
pub mod ObjectFacts
