-- What a claim is one of: a journal's object, which it shares, and a window.
-- Given: a journal, and an object with its origin.
use Rattle.std.specs.Prelude.{◌≡◌, ℕ, List, Some}
use Rattle.cal_model.specs.declared.stored.Stored.{Stored}
use Rattle.cal_model.specs.History.Journal.{Entry}
use Rattle.cal_model.specs.History.LiveObjects.{Placed, placed_at}

-- an object at its path
abbrev pub placed_of : Stored → Placed
placed_of stored = record { home = stored.path.home; calendar = stored.path.calendar; object = stored.path.object; octets = stored.octets }

-- the entry of that number made the object
abbrev pub IsMadeAt : List Entry → ℕ → Stored → Type 0
IsMadeAt journal origin stored = placed_at journal origin ≡ Some (placed_of stored)
