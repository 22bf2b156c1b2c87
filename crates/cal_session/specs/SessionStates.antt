-- What stands round a session, and what is known of it at one time.
-- Given: the ghost members of a clock and of a link. Where a link tells no octets, nothing is said of them.
use Rattle.std.specs.Prelude.{◌≡◌, ℕ, List, Option, ℤ}
use Rattle.cal_base.specs.declared.clock.Clock.{Ghosts as ClockMembers}
use Rattle.cal_base.specs.declared.stream.Link.{Ghosts as LinkMembers}
use Rattle.turn_lock.specs.Passes.{PassState}
use Rattle.cal_model.specs.History.Journal.{Entry}
use Rattle.cal_model.specs.Users.UsersFile.{Users}

-- the users, and what the clock tells
pub record Environment : Type 0 where
  pub users : Users
  pub clock : Option ℤ

abbrev pub environment_of : {C : Type 0} → ClockMembers C → Users → C → Environment
environment_of members users clock = record { users = users; clock = members.moment clock }

-- what a link tells at one time
pub record LinkTold : Type 0 where
  pub faults : ℕ
  pub left : Option (List ℕ)
  pub written : Option (List ℕ)

abbrev pub link_told : {L : Type 0} → LinkMembers L → L → LinkTold
link_told members link = record { faults = members.faults link; left = members.left link; written = members.written link }

-- what the pass knows at one time, and what the link tells then
pub record SessionState : Type 0 where
  pub pass : PassState Entry Users
  pub link : LinkTold

abbrev pub session_state : {L : Type 0} → LinkMembers L → PassState Entry Users → L → SessionState
session_state members pass link = record { pass = pass; link = link_told members link }

-- a pass took turns: it may have seen more since, and nothing else became of it
abbrev pub HasSeenMore : PassState Entry Users → PassState Entry Users → Type 0
HasSeenMore old new = new ≡ record old { seen = new.seen; looks = new.looks }
