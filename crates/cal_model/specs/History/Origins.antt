-- The origins of the objects that a state has, as a store keeps them beside it: what they are, and what a change makes of them. They are this project's own.
-- Given: a state, a change with the number of its entry, or a journal.
use Rattle.std.specs.Prelude.{◌≡◌, ℕ, List, [], Option, Some, None, if◌then◌else◌}
use Rattle.cal_model.specs.State.Changes.{Change, put}
use Rattle.cal_model.specs.State.ServerState.{ServerState, octets_at}
use Rattle.cal_model.specs.History.Journal.{Entry}
use Rattle.cal_model.specs.History.LiveObjects.{Placed, ends, live_at}

-- the origin of the object at a home's number, a calendar and a name
abbrev pub Origins : Type 0
Origins = ℕ → List ℕ → List ℕ → Option ℕ

-- an object has one exactly where it is there, and no two have the same
pub record AreOrigins (state : ServerState) (origins : Origins) : Type 0 where
  pub there : (home : ℕ) (calendar object octets : List ℕ) → octets_at state home calendar object ≡ Some octets → (n : ℕ) × (origins home calendar object ≡ Some n)
  pub absent : (home : ℕ) (calendar object : List ℕ) → octets_at state home calendar object ≡ None → origins home calendar object ≡ None
  pub distinct : (home home' : ℕ) (calendar calendar' object object' : List ℕ) (n : ℕ)
      → origins home calendar object ≡ Some n → origins home' calendar' object' ≡ Some n → (home ≡ home') × (calendar ≡ calendar') × (object ≡ object')

-- an object's place, whatever it holds
abbrev pub place : ℕ → List ℕ → List ℕ → Placed
place home calendar object = record { home = home; calendar = calendar; object = object; octets = [] }

-- the origin of what a change makes, as entry n
abbrev pub origin_of : Change → ℕ → Option ℕ
origin_of (put home calendar object octets) n = Some n
origin_of other n = None

-- The origins after the change that entry n makes: what it ends has the origin of what it makes there, if it makes it, and all else keeps its own.
abbrev pub origins_after : Change → ℕ → Origins → Origins
origins_after change n origins home calendar object = if ends (place home calendar object) change then origin_of change n else origins home calendar object

-- The origins are those of the journal's live objects.
pub record AreLive (journal : List Entry) (origins : Origins) : Type 0 where
  pub live : (n : ℕ) (placed : Placed) → live_at journal n ≡ Some placed → origins placed.home placed.calendar placed.object ≡ Some n
  pub known : (home : ℕ) (calendar object : List ℕ) (n : ℕ) → origins home calendar object ≡ Some n
      → (octets : List ℕ) × (live_at journal n ≡ Some (record { home = home; calendar = calendar; object = object; octets = octets }))
