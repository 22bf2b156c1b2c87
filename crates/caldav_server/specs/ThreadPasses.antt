-- The passes of a server's threads: each is split off the first, and all come back to it.
-- Given: the lock, the users, and the passes that are out.
use Rattle.std.specs.Prelude.{◌≡◌, List, ◌∷◌, ◌++◌}
use Rattle.std.specs.List.{AllByRecursion}
use Rattle.atomic_table.specs.Seated.{TableId}
use Rattle.turn_lock.specs.Plays.{HoldsAll}
use Rattle.cal_model.specs.History.Journal.{Entry}
use Rattle.cal_model.specs.Users.UsersFile.{Users}
use Rattle.caldav_server.specs.LoadJobs.{Known, IsLeaf, numbers}
use Rattle.caldav_server.specs.Shares.{IsPassFor}

-- a journal went on
abbrev pub Grows : List Entry → List Entry → Type 0
Grows old new = (more : List Entry) × (new ≡ old ++ more)

-- a pass took turns: it may have seen more since, and nothing else became of it
pub record HasTakenTurns (old new : Known) : Type 0 where
  pub same : new ≡ record old { seen = new.seen; looks = new.looks }
  pub grown : Grows old.seen new.seen

-- a pass for a thread, which split none off
pub record IsSpare (lock : TableId) (users : Users) (pass : Known) : Type 0 where
  pub ready : IsPassFor lock users pass
  pub leaf : IsLeaf pass

-- a pass that is whole once those that are out were joined into it
pub record Awaits (lock : TableId) (users : Users) (out : List Known) (pass : Known) : Type 0 where
  pub ready : IsPassFor lock users pass
  pub each : AllByRecursion (IsSpare lock users) out
  pub whole : HoldsAll (pass.number ∷ (numbers out ++ pass.gone)) pass.kin

-- what became of it: by now these are out
pub record GoesOn (lock : TableId) (users : Users) (out : List Known) (old new : Known) : Type 0 where
  pub awaits : Awaits lock users out new
  pub grown : Grows old.seen new.seen

-- one of those that were out was joined, with what it has seen since
abbrev pub TakesBack : TableId → Users → Known → Known → Known → Type 0
TakesBack lock users back old new =
    (before behind : List Known) (was : Known) → HasTakenTurns was back → Awaits lock users (before ++ was ∷ behind) old
    → GoesOn lock users (before ++ behind) old new
