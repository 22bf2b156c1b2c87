-- Zones that cannot stand, and the place of the first (RFC 5545, 3.6.5).
use Rattle.std.specs.Prelude.{ℕ, ◌+◌, Bool, ◌||◌, List, map, take, find, Option, option_map}
use Rattle.std.specs.List.{enumerate_from}
use Rattle.cal_model.specs.Objects.ZoneReading.{has_zone_fault, are_too_many}
use Rattle.cal_model.specs.Objects.CalendarChildren.{Child}

-- a VTIMEZONE with a fault of its own, or with which those so far count too much
abbrev pub is_bad_zone : List ℕ → List Child → ℕ × Child → Bool
is_bad_zone moments zones (number, zone) =
    has_zone_fault zone.tree || are_too_many moments (map (λ (child : Child). child.tree) (take (number + 1) zones))

-- the place of the first of them
abbrev pub zone_fault : List ℕ → List Child → Option ℕ
zone_fault moments zones = option_map (λ (found : ℕ × Child). found.1.place) (find (is_bad_zone moments zones) (enumerate_from 0 zones))
