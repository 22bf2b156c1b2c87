-- What is known of the lines of a text once they make up a tree, and what is told where they do not.
use Rattle.std.specs.Prelude.{◌≡◌, ℕ, ◌<◌, ◌^◌, if◌then◌else◌, length, List, [], ◌∷◌, Option, Some, None, option_map, codes}
use Rattle.cal_base.specs.declared.line.Node.{Node}
use Rattle.cal_base.specs.Lines.ContentLines.{Placed, placed_lines, line_fault}
use Rattle.cal_base.specs.Lines.ComponentTrees.{nesting_fault, tree_of}
use Rattle.cal_model.specs.Recurrence.RecurrenceSet.{every_moment}
use Rattle.cal_model.specs.Objects.ComponentLines.{children_of, is_named}
use Rattle.cal_model.specs.Objects.LineValues.{lines_in, own_fault}
use Rattle.cal_model.specs.Objects.ZoneFaults.{zone_fault}
use Rattle.cal_model.specs.Objects.CalendarChildren.{children_in, zones_among}
use Rattle.cal_model.specs.Objects.ObjectReading.{Unread, not_calendar, place_at, line_of_fault}
use Rattle.cal_object.specs.declared.scan.Scan.{Scan}
use Rattle.cal_object.specs.Scan.{IsScanOf}

-- why lines make up no tree
abbrev pub tree_fault : List Placed → Option Unread
tree_fault placed = elim (nesting_fault (lines_in placed)) [
  | Some fault ↦ Some (not_calendar (place_at placed (line_of_fault fault)))
  | None ↦ elim (tree_of (lines_in placed)) [ None ↦ Some (not_calendar 0) | Some tree ↦ None ]
]

-- why octets do not
abbrev pub text_fault : List ℕ → Option Unread
text_fault octets = elim (line_fault octets) [ Some place ↦ Some (not_calendar place) | None ↦ tree_fault (placed_lines octets) ]

-- octets whose lines make up a tree
pub record IsTreeOf (octets : List ℕ) (calendar : Node) : Type 0 where
  pub lines : line_fault octets ≡ None
  pub nested : nesting_fault (lines_in (placed_lines octets)) ≡ None
  pub tree : tree_of (lines_in (placed_lines octets)) ≡ Some calendar
  pub few : length (children_of calendar) < 2 ^ 32

-- what the scan of a text's lines says
abbrev pub IsTextScan : List ℕ → Scan → Type 0
IsTextScan octets scan = IsScanOf (lines_in (placed_lines octets)) scan

-- the first two rows of the faults of a calendar, and the third
abbrev pub line_faults : List Placed → Node → List (Option Unread)
line_faults placed calendar =
    (if is_named (codes "VCALENDAR") calendar then None else Some (not_calendar (place_at placed 0)))
    ∷ option_map not_calendar (own_fault placed)
    ∷ []

abbrev pub zones_fault : List Placed → Node → Option Unread
zones_fault placed calendar = option_map not_calendar (zone_fault every_moment (zones_among (children_in placed calendar)))
