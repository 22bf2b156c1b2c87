-- Overrides that move later instances, as a program holds them: in the order of their ids, with the digits by which each moves a start. From RFC 5545, 3.2.13.
-- What a program is given of starts tells it which start a RECURRENCE-ID means: `name` below. `Rows.governors` is the same beside all starts.
use Rattle.std.specs.Prelude.{◌≡◌, ℕ, ◌+◌, AllPairs, if◌then◌else◌, List, [], ◌∷◌, ◌++◌, map, filter, flat_map, option_to_list, ℤ, pos, neg_ℤ, ◌+ℤ◌, ◌≤ℤ◌, int_lt}
use Rattle.cal_moment.specs.Calendar.{IsBetween}
use Rattle.cal_moment.specs.declared.stamp.Stamp.{Stamp}
use Rattle.cal_model.specs.declared.object.Component.{Component}
use Rattle.cal_model.specs.declared.row.Row.{Row}
use Rattle.cal_model.specs.declared.zone.ZoneTable.{ZoneTable}
use Rattle.cal_model.specs.Words.Integers.{same_int}
use Rattle.cal_model.specs.Instances.Alignment.{Aligned, align, kind_of, reading_of}
use Rattle.cal_model.specs.Instances.Rows.{Numbered, are_served, greatest_id, move_of, row_of}
use Rattle.cal_model.specs.Instances.Rows as rows
use Rattle.cal_model.specs.Instances.Starts.{end_of_extent, own_start}
use Rattle.override_merge.specs.declared.names.Names.{Names}
use Rattle.override_merge.specs.Conversions.{IsConvertible, IsConvertibleExtent}
use Rattle.override_merge.specs.NamedStarts.{has_name}
use Rattle.override_merge.specs.Parts.{id_by}
use Rattle.rrule_sets.specs.declared.governors.Governor.{Governor}
use Rattle.rrule_sets.specs.NeededDigits.{id_days}

-- The overrides among components.

abbrev pub governor_at : Numbered → Stamp → ℤ → rows.Governor
governor_at n s id = record { id = id; start = s; override = n }

-- that which a component is, if it moves later instances; none where it has no start of its own
abbrev pub governors_of : (Aligned → ℤ) → List ZoneTable → Stamp → Numbered → List rows.Governor
governors_of name zones ids n =
    if n.component.future then flat_map (λ s. map (λ x. governor_at n s (name (align zones x ids))) (option_to_list n.component.recurrence_id)) (option_to_list (own_start n.component)) else []

-- those among components that are counted from a number on
abbrev pub governors_from : (Aligned → ℤ) → List ZoneTable → Stamp → ℕ → List Component → List rows.Governor
governors_from name zones ids number [] = []
governors_from name zones ids number (c ∷ cs) = governors_of name zones ids (record { number = number; component = c }) ++ governors_from name zones ids (number + 1) cs

-- those of an object's components, beside starts by their days
abbrev pub governors_by : List ZoneTable → Stamp → List (ℤ × ℤ) → List Component → List rows.Governor
governors_by zones ids days components = governors_from (id_by (reading_of zones ids) days) zones ids 0 components

-- How they are held.

abbrev pub held : List ZoneTable → rows.Governor → Governor
held zones g = record { id = g.id; number = g.override.number; stamp = g.start; extent = g.override.component.extent; moved = move_of zones g }

abbrev pub HasNoGreaterId : Governor → Governor → Type 0
HasNoGreaterId a b = a.id ≤ℤ b.id

abbrev pub with_id : ℤ → List Governor → List Governor
with_id id governors = filter (λ (g : Governor). same_int id g.id) governors

-- by their ids, those of one id as their components stand
pub record HoldsGovernors (zones : List ZoneTable) (all : List rows.Governor) (governors : List Governor) : Type 0 where
  pub rising : AllPairs HasNoGreaterId governors
  pub kept : (id : ℤ) → with_id id governors ≡ with_id id (map (held zones) all)

-- what an override has by which rows are moved
pub record IsMovable (zones : ℕ) (governor : Governor) : Type 0 where
  pub stamp : IsConvertible zones governor.stamp
  pub extent : IsConvertibleExtent zones governor.extent
  pub moved : IsBetween (neg_ℤ (pos 2_300_000_000_000)) (pos 2_300_000_000_000) governor.moved

-- Which one governs a start.

-- the last of a list, as a list
abbrev pub last_of : {X : Type 0} → List X → List X
last_of [] = []
last_of (x ∷ []) = x ∷ []
last_of (x ∷ y ∷ xs) = last_of (y ∷ xs)

-- of those that are held, the last whose id lies before a start
abbrev pub last_before : ℤ → List Governor → List Governor
last_before r governors = last_of (filter (λ (g : Governor). int_lt g.id r) governors)

-- by the definition: the one with the greatest id among some
abbrev pub greatest_of : List rows.Governor → List rows.Governor
greatest_of [] = []
greatest_of (g ∷ gs) = greatest_id g gs ∷ []

abbrev pub governing : ℤ → List rows.Governor → List rows.Governor
governing r all = greatest_of (filter (λ (g : rows.Governor). int_lt g.id r) all)

-- Rows.

abbrev pub moved_digits : List ZoneTable → Governor → ℤ → ℤ
moved_digits zones g r = (reading_of zones g.stamp).local r +ℤ g.moved

-- its row at some digits, with a start's id
abbrev pub row_from : List ZoneTable → Stamp → ℤ → Governor → ℤ → Row
row_from zones ids r g digits =
    let start = (reading_of zones g.stamp).instant digits in row_of r start (end_of_extent zones g.stamp g.extent start) g.number (kind_of ids) (kind_of g.stamp)

-- the row to which it moves a start, if its digits are served
abbrev pub moved_row : List ZoneTable → Stamp → ℤ → Governor → List Row
moved_row zones ids r g = let digits = moved_digits zones g r in if are_served digits then row_from zones ids r g digits ∷ [] else []

abbrev pub moved_by : List ZoneTable → Stamp → Row → List Governor → List Row
moved_by zones ids row [] = row ∷ []
moved_by zones ids row (g ∷ gs) = moved_row zones ids row.id g

-- what stands for a row of the master, by names in order and the overrides that are held
abbrev pub stand_in_by : List ZoneTable → Stamp → Names → List Governor → Row → List Row
stand_in_by zones ids names governors row =
    if has_name (reading_of zones ids) row.id names then row ∷ [] else moved_by zones ids row (last_before row.id governors)

-- The local days that those name which move later instances.
abbrev pub days_of_movers : List ZoneTable → Stamp → List Component → List ℤ
days_of_movers zones ids components = flat_map (λ (c : Component). if c.future then id_days zones ids c else []) components
