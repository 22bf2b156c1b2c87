-- Paths whose names are as short as those of calendars and objects have to be.
use Rattle.std.specs.Prelude.{◌≤◌, length}
use Rattle.cal_model.specs.declared.path.Path.{Path}
use Rattle.cal_model.specs.declared.path.Path.TheVariants.{Root, Principal, Home, Calendar, Object}

-- each name has at most 200 octets
abbrev pub HasShortNames : Path → Type 0
HasShortNames Root = Unit {0}
HasShortNames (Principal user) = length user ≤ 200
HasShortNames (Home user) = length user ≤ 200
HasShortNames (Calendar user calendar) = (length user ≤ 200) × (length calendar ≤ 200)
HasShortNames (Object user calendar object) = (length user ≤ 200) × (length calendar ≤ 200) × (length object ≤ 200)
