-- How many rows an object has, from its components and the starts of its master that nothing takes away.
use Rattle.std.specs.Prelude.{◌≡◌, ℕ, ◌*◌, ◌<◌, ◌≤◌, Bool, false, not, ◌||◌, All, AllPairs, MatchOption, Option, int_lt, is_none, is_some, if◌then◌else◌, List, [], ◌∷◌, ◌++◌, length, map, filter, flat_map, option_to_list, take, ℤ, pos, ◌+ℤ◌}
use Rattle.std.specs.List.{list_any}
use Rattle.cal_moment.specs.declared.stamp.Period.{Period}
use Rattle.cal_moment.specs.declared.stamp.Stamp.{Stamp}
use Rattle.cal_model.specs.declared.object.Object.{Object}
use Rattle.cal_model.specs.declared.object.Component.{Component}
use Rattle.cal_model.specs.declared.row.Row.{Row}
use Rattle.cal_model.specs.declared.rule.Rule.{Rule}
use Rattle.cal_model.specs.declared.zone.ZoneTable.{ZoneTable}
use Rattle.cal_model.specs.Instances.Alignment.{align, names_start, reading_of, value_of, written_moment}
use Rattle.cal_model.specs.Instances.Starts.{ascending, date_start, own_start, recurs, starts_from}
use Rattle.cal_model.specs.Instances.Rows.{Numbered, are_served, governors, greatest_id, moved_digits, starts}
use Rattle.cal_model.specs.Instances.Rows as rows
use Rattle.cal_model.specs.Recurrence.NextPassing.{end_day}
use Rattle.cal_model.specs.Recurrence.RecurrenceSet.{every_moment, first_moment, later_moments}
use Rattle.cal_model.specs.Walks.KeptMoments.{starts_by}
use Rattle.cal_model.specs.Walks.PickedRest.{still_given}
use Rattle.cal_model.specs.declared.walk.rule_walk.RuleWalk.{RuleWalk}
use Rattle.cal_model.proofs.Instances.RisingLists.{IsBelow}
use Rattle.override_merge.specs.NamedStarts.{IsNamesOf, has_name, named_beside}
use Rattle.rrule_sets.specs.AskedStarts.{exceptions_of, instances_in}
use Rattle.rrule_sets.specs.HeldGovernors.{HasNoGreaterId, HoldsGovernors, IsMovable, last_before}
use Rattle.rrule_sets.specs.HeldGovernors as held
use Rattle.rrule_sets.specs.MasterRows.{masters_from}
use Rattle.rrule_sets.specs.declared.governors.Governor.{Governor}
use Rattle.rrule_sets.specs.declared.range.Digits.{Digits}
use Rattle.rrule_sets.specs.declared.count.Counted.{Counted}
use Rattle.rrule_sets.specs.declared.count.Counted.TheVariants.{Within, Over, NoMemory}
use Rattle.rrule_sets.specs.declared.count.Taken.{Taken}

-- Starts that are taken away.

-- whether the override that governs a start, as a program holds it, moves it out of the dates that are served
abbrev pub is_out_by : List ZoneTable → ℤ → List Governor → Bool
is_out_by zones r [] = false
is_out_by zones r (g ∷ gs) = not (are_served (held.moved_digits zones g r))

abbrev pub is_out : List ZoneTable → List Governor → ℤ → Bool
is_out zones governors r = is_out_by zones r (last_before r governors)

-- an EXDATE or an override names a start
abbrev pub is_named_by : List ZoneTable → Stamp → Taken → ℤ → Bool
is_named_by zones s taken r = has_name (reading_of zones s) r taken.excepted || has_name (reading_of zones s) r taken.named

-- or one moves it out
abbrev pub is_taken : List ZoneTable → Stamp → Taken → ℤ → Bool
is_taken zones s taken r = is_named_by zones s taken r || is_out zones taken.governors r

abbrev pub is_left : List ZoneTable → Stamp → Taken → ℤ → Bool
is_left zones s taken r = not (is_taken zones s taken r)

-- what takes starts away is sorted, and can be converted in so many zones
pub record IsSearchable (zones : ℕ) (taken : Taken) : Type 0 where
  pub excepted_values : AllPairs IsBelow taken.excepted.values
  pub excepted_days : AllPairs IsBelow taken.excepted.days
  pub named_values : AllPairs IsBelow taken.named.values
  pub named_days : AllPairs IsBelow taken.named.days
  pub rising : AllPairs HasNoGreaterId taken.governors
  pub movable : All (IsMovable zones) taken.governors

-- a component is the master of an object
abbrev pub IsMasterOf : Object → Component → Type 0
IsMasterOf object c = (number : ℕ) × (masters_from 0 object.components ≡ record { number = number; component = c } ∷ [])

-- what takes starts away from the master of an object, which starts at a stamp
pub record IsTakenFrom (object : Object) (s : Stamp) (c : Component) (taken : Taken) : Type 0 where
  pub excepted : IsNamesOf (map (λ (x : Stamp). align object.zones x s) (exceptions_of c)) taken.excepted
  pub named : IsNamesOf (named_beside object.zones s object.components) taken.named
  pub held : HoldsGovernors object.zones (governors object s (starts every_moment object)) taken.governors

-- Local days that overrides name.

-- the digits of a day
abbrev pub whole_day : ℤ → Digits
whole_day midnight = record { low = midnight; high = midnight +ℤ pos 86400 }

-- the row of a component's first start on a day
abbrev pub first_row : List ZoneTable → Stamp → Component → ℤ → List Row
first_row zones s c midnight = take 1 (instances_in zones s c 0 (whole_day midnight))

-- Starts.

-- all later starts of a rule
abbrev pub all_later : List ZoneTable → Stamp → Rule → List ℤ
all_later zones s rule = starts_by (reading_of zones s) (later_moments rule (written_moment s) (reading_of zones s) every_moment)

-- those that a walk over a rule still gives
abbrev pub starts_of_walk : List ZoneTable → Stamp → Rule → RuleWalk → List ℤ
starts_of_walk zones s rule walk = starts_by (reading_of zones s) (still_given rule (written_moment s) (reading_of zones s) first_moment (86_400 * end_day) walk)

-- starts are kept as they are, but for order and repetition; none are where they are more than there is room for
abbrev pub IsTrimmed : ℕ → List ℤ → Option (List ℤ) → Type 0
IsTrimmed room starts trimmed = MatchOption trimmed (room < length (ascending starts)) (λ kept. ascending kept ≡ ascending starts)

-- the RDATEs, RDATE periods and rules that count
abbrev pub dates_in : Component → List Stamp
dates_in c = if recurs c then c.dates else []

abbrev pub periods_in : Component → List Period
periods_in c = if recurs c then c.periods else []

abbrev pub rules_in : Component → List Rule
rules_in c = if recurs c then c.rules else []

-- the starts of a component beside those of its rules
abbrev pub other_starts : List ZoneTable → Stamp → Component → List ℤ
other_starts zones s c = value_of zones s ∷ map (date_start zones s) (dates_in c) ++ map (λ (p : Period). date_start zones s p.start) (periods_in c)

-- all that are left, in order
abbrev pub left_starts : List ZoneTable → Stamp → Component → Taken → List ℤ
left_starts zones s c taken = ascending (filter (is_left zones s taken) (other_starts zones s c) ++ filter (is_left zones s taken) (flat_map (all_later zones s) (rules_in c)))

-- whether the override that governs a start moves it out of the dates that are served
abbrev pub moves_out : Object → ℤ → List rows.Governor → Bool
moves_out object r [] = false
moves_out object r (g ∷ gs) = not (are_served (moved_digits object.zones (greatest_id g gs) r))

abbrev pub is_moved_out : Object → Stamp → ℤ → Bool
is_moved_out object ids r = moves_out object r (filter (λ (g : rows.Governor). int_lt g.id r) (governors object ids (starts every_moment object)))

-- the starts of a component that none of some components names
abbrev pub unnamed_starts : List ZoneTable → Stamp → Component → List Component → List ℤ
unnamed_starts zones s c components = filter (λ r. not (list_any (names_start (reading_of zones s) r) (named_beside zones s components))) (starts_from every_moment zones c (own_start c))

-- those of the master that no override names, and none moves out of the dates that are served
abbrev pub starts_of_master : Object → Numbered → List ℤ
starts_of_master object n = flat_map (λ s. filter (λ r. not (is_moved_out object s r)) (unnamed_starts object.zones s n.component object.components)) (option_to_list (own_start n.component))

abbrev pub master_starts : Object → List ℤ
master_starts object = flat_map (starts_of_master object) (masters_from 0 object.components)

-- a component has a row of itself: it has no start, or it is an override
abbrev pub has_own_row : Component → Bool
has_own_row c = is_none (own_start c) || is_some c.recurrence_id

-- what is said of so many rows and a limit
abbrev pub IsCountOf : ℕ → ℕ → Counted → Type 0
IsCountOf rows limit (Within n) = (n ≡ rows) × (n ≤ limit)
IsCountOf rows limit Over = limit < rows
IsCountOf rows limit NoMemory = Unit {0}
