-- What holds of an object that was read, step by step of the reading.
-- ObjectFactLaws (`IsReadObject-read`, `IsZone-read_zone`) waits for cal_object, and through it for each crate that is given an object; ObjectNearness waits for
-- dav_reports; the others are steps.
pub mod TestedLines
pub mod PlacedComponents
pub mod ReadingSteps
pub mod ComponentStamps
pub mod WrittenDates
pub mod RuleBounds
pub mod ServedDates
pub mod ShortLengths
pub mod AlarmBounds
pub mod TimedPeriods
pub mod ZoneParts
pub mod SettledObjects
pub mod ObjectFactLaws
pub mod ObjectNearness
