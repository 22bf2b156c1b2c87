-- What rows say of components as far as a limit asks, row by row, and which components go.
use Rattle.std.specs.Prelude.{◌≡◌, ℕ, ◌+◌, ◌==◌, Bool, false, not, ◌||◌, if◌then◌else◌, List, [], ◌∷◌, ◌++◌, filter, flat_map, map, take, option_to_list, get_or, ℤ, Option, Some, None}
use Rattle.std.specs.List.{list_any}
use Rattle.cal_base.specs.declared.line.Node.{Node}
use Rattle.cal_moment.specs.declared.stamp.Stamp.{Stamp}
use Rattle.cal_model.specs.declared.object.Component.{Component}
use Rattle.cal_model.specs.declared.object.Object.{Object}
use Rattle.cal_model.specs.declared.row.Row.{Row}
use Rattle.cal_model.specs.declared.zone.ZoneTable.{ZoneTable}
use Rattle.cal_model.specs.Instances.Alignment.{Aligned, at, on_day, align, reading_of}
use Rattle.cal_model.specs.Instances.Rows.{Numbered, has_id, is_dated, masters, numbered_from}
use Rattle.cal_model.specs.Ranges.RowRanges.{row_in_range}
use Rattle.cal_model.specs.Selections.LimitedSets.{original_row}
use Rattle.expand_limit.specs.declared.limit.Limit.{Limit}
use Rattle.expand_limit.specs.declared.limit.Seen.{Seen}

abbrev pub meets : Limit → Row → Bool
meets limit = row_in_range limit.object.now limit.zone.now limit.range

abbrev pub nothing_seen : Seen
nothing_seen = record { meets = false; id = None }

-- the id of the first row that has a date
abbrev pub id_with : Row → Option ℤ → Option ℤ
id_with row (Some id) = Some id
id_with row None = if is_dated row then Some row.id else None

abbrev pub seen_row : Limit → Row → Seen → Seen
seen_row limit row seen = record { meets = seen.meets || meets limit row; id = id_with row seen.id }

-- what is seen of the component of a number after one more row
abbrev pub seen_more : Limit → ℕ → Row → Seen → Seen
seen_more limit number row seen = if row.component == number then seen_row limit row seen else seen

abbrev pub seen_over : Limit → ℕ → List Row → Seen → Seen
seen_over limit number [] seen = seen
seen_over limit number (row ∷ rows) seen = seen_over limit number rows (seen_more limit number row seen)

abbrev pub seen_by : Limit → List Row → ℕ → Seen
seen_by limit rows number = seen_over limit number rows nothing_seen

-- the id that a RECURRENCE-ID gives by itself; of a local day that of its midnight
abbrev pub id_said : List ZoneTable → Stamp → Aligned → ℤ
id_said zones ids (at v) = v
id_said zones ids (on_day midnight) = (reading_of zones ids).instant midnight

abbrev pub named_id : List ZoneTable → Stamp → Stamp → ℤ
named_id zones ids name = id_said zones ids (align zones name ids)

-- the original instance of an override of this RECURRENCE-ID
abbrev pub originals : Limit → Option Stamp → Stamp → Option ℤ → List Row
originals limit ids name seen =
    flat_map (λ s. flat_map (λ id. map (original_row limit.object.now s id) (masters limit.object.now)) (take 1 (option_to_list seen ++ named_id limit.object.now.zones s name ∷ []))) (option_to_list ids)

-- an override goes
abbrev pub goes : Limit → Option Stamp → Stamp → Seen → Bool
goes limit ids name seen = not (seen.meets || list_any (meets limit) (originals limit ids name seen.id))

-- the place of a component, if it is an override that goes
abbrev pub left_at : Limit → Option Stamp → Seen → Component → List ℕ
left_at limit ids seen c = flat_map (λ name. if goes limit ids name seen then c.child ∷ [] else []) (option_to_list c.recurrence_id)

abbrev pub left_from : Limit → Option Stamp → List Seen → ℕ → List Component → List ℕ
left_from limit ids seen number [] = []
left_from limit ids seen number (c ∷ cs) = left_at limit ids (get_or seen number nothing_seen) c ++ left_from limit ids seen (number + 1) cs

-- a place is one of these
abbrev pub is_place : ℕ → List ℕ → Bool
is_place place gone = list_any (λ p. p == place) gone

abbrev pub masters_from : ℕ → List Component → List Numbered
masters_from number cs = filter (λ (n : Numbered). not (has_id n)) (numbered_from number cs)

-- the number of the component that is no override, if there is one
abbrev pub IsMaster : Object → Option ℕ → Type 0
IsMaster object None = masters object ≡ []
IsMaster object (Some number) = (n : Numbered) × (rest : List Numbered) × (masters object ≡ n ∷ rest) × (n.number ≡ number)

-- the components that stay
abbrev pub left_nodes : List Bool → ℕ → List Node → List Node
left_nodes gone place [] = []
left_nodes gone place (node ∷ nodes) = (if get_or gone place false then [] else node ∷ []) ++ left_nodes gone (place + 1) nodes
