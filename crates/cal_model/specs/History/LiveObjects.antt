-- Which object an entry of the journal made, and whether it is still there. The journal and its objects' origins are this project's own.
-- Given: a journal. An object is known by its origin: the place in the journal, counted from 0, of the PUT that made it. An equal PUT made later makes another object.
use Rattle.std.specs.Prelude.{ℕ, ◌+◌, Bool, true, false, ◌&&◌, ◌==◌, List, bytes_eq, drop, slice_get, Option, Some, None, option_and_then}
use Rattle.std.specs.List.{list_any}
use Rattle.cal_model.specs.State.Changes.{Change, put, delete_object, delete_calendar}
use Rattle.cal_model.specs.History.Journal.{Entry}

-- an object at its path
pub record Placed : Type 0 where
  pub home : ℕ
  pub calendar : List ℕ
  pub object : List ℕ
  pub octets : List ℕ

-- the object that a change makes
abbrev pub placed_by : Change → Option Placed
placed_by (put home calendar object octets) = Some (record { home = home; calendar = calendar; object = object; octets = octets })
placed_by other = None

-- a change replaces or removes what stands at that path
abbrev pub is_in_calendar : Placed → ℕ → List ℕ → Bool
is_in_calendar placed home calendar = (placed.home == home) && bytes_eq placed.calendar calendar

abbrev pub ends : Placed → Change → Bool
ends placed (put home calendar object octets) = is_in_calendar placed home calendar && bytes_eq placed.object object
ends placed (delete_object home calendar object) = is_in_calendar placed home calendar && bytes_eq placed.object object
ends placed (delete_calendar home calendar) = is_in_calendar placed home calendar
ends placed other = false

-- the object that entry `origin` made, if it made one
abbrev pub placed_at : List Entry → ℕ → Option Placed
placed_at journal origin = option_and_then (λ (entry : Entry). placed_by entry.change) (slice_get journal origin)

-- some later entry ends it
abbrev pub is_ended : List Entry → ℕ → Placed → Bool
is_ended journal origin placed = list_any (λ (entry : Entry). ends placed entry.change) (drop (origin + 1) journal)

abbrev pub kept_unless : (Placed → Bool) → Option Placed → Option Placed
kept_unless is_gone None = None
kept_unless is_gone (Some placed) = elim (is_gone placed) [ true ↦ None | false ↦ Some placed ]

-- The object that entry `origin` made, if it made one that is still there.
abbrev pub live_at : List Entry → ℕ → Option Placed
live_at journal origin = kept_unless (is_ended journal origin) (placed_at journal origin)
