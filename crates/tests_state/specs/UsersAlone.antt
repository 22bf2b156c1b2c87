-- A state in which nobody has a calendar.
use Rattle.std.specs.Prelude.{[], map, None}
use Rattle.cal_model.specs.History.Origins.{Origins}
use Rattle.cal_model.specs.State.ServerState.{Home, ServerState, directory_of}
use Rattle.cal_model.specs.Users.UsersFile.{Users}

abbrev pub bare_home : Home
bare_home = record { accepted = 0; calendars = [] }

unfoldable pub bare_state : Users → ServerState
bare_state users = record { homes = map (λ name. bare_home) (directory_of users).names }

unfoldable pub no_origins : Users → Origins
no_origins users home calendar object = None
