-- The changes that a body has gathered, as those of the definition (RFC 5545, 3.6.5).
use Rattle.std.specs.Prelude.{◌≡◌, ℕ, ◌*◌, nat_lt, List, ◌++◌, map, filter, length, sum, ◌-ℤ◌}
use Rattle.cal_moment.specs.Calendar.{seconds_since_1970}
use Rattle.cal_model.specs.declared.rule.Rule.{Rule}
use Rattle.cal_model.specs.declared.zone.ZonePart.{ZonePart}
use Rattle.cal_model.specs.Recurrence.NextPassing.{end_day}
use Rattle.cal_model.specs.Recurrence.RecurrenceSet.{every_moment}
use Rattle.cal_model.specs.TimeZones.ZoneOnsets as zone
use Rattle.vtimezone.specs.declared.change.Change.{Change}

abbrev pub as_change : Change → zone.Change
as_change c = record { at = c.at; from = c.from; to = c.to }

abbrev pub changes_of : List Change → List zone.Change
changes_of cs = map as_change cs

-- the change at a moment of a part
abbrev pub change_at : ZonePart → ℕ → zone.Change
change_at part m = record { at = seconds_since_1970 m -ℤ part.from; from = part.from; to = part.to }

-- the changes at some moments of a part, up to the end of 2101
abbrev pub changes_at : ZonePart → List ℕ → List zone.Change
changes_at part ms = map (change_at part) (filter (λ m. nat_lt m (86_400 * end_day)) ms)

-- some changes, and behind them those at some moments of a part
abbrev pub HasAdded : ZonePart → List ℕ → List Change → List Change → Type 0
HasAdded part moments old new = changes_of new ≡ changes_of old ++ changes_at part moments

-- all moments of the set of a rule of a part, whose start stands first
abbrev pub moments_of_rule : ZonePart → Rule → List ℕ
moments_of_rule = zone.rule_moments every_moment

-- how much the rules of a part count
abbrev pub count_of_rules : ZonePart → List Rule → ℕ
count_of_rules part rules = sum (map (λ rule. length (moments_of_rule part rule)) rules)
