use Rattle.std.proofs.Common.{[]}
use Rattle.dav_request.proofs.methods.has_method.Goals as goal

pub returns-in-Root : goal.returns-in-Root
returns-in-Root c = rw c.in-Root.is (c.is_above_calendars.ensures [])

pub returns-in-Principal : goal.returns-in-Principal
returns-in-Principal c = rw c.in-Principal.is (c.is_above_calendars-in-Principal.ensures [])

pub returns-in-Home : goal.returns-in-Home
returns-in-Home c = rw c.in-Home.is (c.is_above_calendars-in-Home.ensures [])

pub returns-in-Calendar : goal.returns-in-Calendar
returns-in-Calendar c = rw c.in-Calendar.is (c.is_of_calendar.ensures [] [])

pub returns-in-Object : goal.returns-in-Object
returns-in-Object c = rw c.in-Object.is (c.is_of_object.ensures [] [] [])
