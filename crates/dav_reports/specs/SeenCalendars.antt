-- A calendar as the caller of a report sees it, and the body of the reply.
use Rattle.std.specs.Prelude.{◌≡◌, ℕ, ◌<◌, ◌≤◌, Bool, true, false, List, ◌++◌, length, Option, Some, None}
use Rattle.cal_model.specs.Access.Privileges.{has_all, read}
use Rattle.cal_model.specs.Refusals.RequestLimits.{answer_limit}
use Rattle.cal_model.specs.Serving.ReportReplies.{Reported}
use Rattle.cal_model.specs.Sight.Views.{contents_of, held_on, sight_of}
use Rattle.cal_model.specs.State.ServerState.{Calendar, Directory, ServerState, calendar_at, user_name}

-- a calendar of a home as a user sees it who may read it
abbrev pub reported_of : Directory → ℕ → ℕ → List ℕ → Calendar → Reported
reported_of directory who home name calendar = record {
  asker = record { directory = directory; who = who; shown = None };
  owner = user_name directory home;
  name = name;
  sight = sight_of directory home who calendar;
  contents = contents_of calendar;
}

-- the calendar is there, and the user may read it
pub record MayRead (directory : Directory) (state : ServerState) (who home : ℕ) (name : List ℕ) (calendar : Calendar) : Type 0 where
  pub there : calendar_at state home name ≡ Some calendar
  pub may_read : has_all (held_on directory home who calendar) read ≡ true

-- the body of a reply, or none where it is longer than an answer may be
abbrev pub IsBody : Option (List ℕ) → List ℕ → Type 0
IsBody (Some body) whole = (body ≡ whole) × (length whole ≤ answer_limit)
IsBody None whole = answer_limit < length whole

-- responses were written behind others, or they are longer than an answer may be
abbrev pub IsWritten : Bool → List ℕ → List ℕ → List ℕ → Type 0
IsWritten true old new responses = new ≡ old ++ responses
IsWritten false old new responses = answer_limit < length (old ++ responses)
