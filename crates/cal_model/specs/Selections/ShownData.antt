-- Calendar data as a report shows it (RFC 4791, 9.6), over a list of rows of the object: the stored octets, or the printed text of what the options and picks leave of the tree.
-- Each step is a function of the whole tree, and the text is that of the last tree; a body may print what it keeps as it goes.
use Rattle.std.specs.Prelude.{ℕ, Bool, true, false, ◌&&◌, if◌then◌else◌, List, is_none, Option, Some, None}
use Rattle.cal_base.specs.declared.line.Node.{Node}
use Rattle.cal_model.specs.declared.object.Object.{Object}
use Rattle.cal_model.specs.declared.row.Range.{Range}
use Rattle.cal_model.specs.declared.row.Row.{Row}
use Rattle.cal_model.specs.declared.selection.Recur.{Recur}
use Rattle.cal_model.specs.declared.selection.Recur.TheVariants.{Whole, Expand, Limit}
use Rattle.cal_model.specs.declared.selection.Selection.{Selection}
use Rattle.cal_model.specs.declared.zone.ZoneTable.{ZoneTable}
use Rattle.cal_model.specs.Selections.Expansion.{expanded}
use Rattle.cal_model.specs.Selections.LimitedSets.{limited, busy_limited}
use Rattle.cal_model.specs.Selections.Picks.{picked_text}
use Rattle.cal_model.specs.Instances.Rows.{rows as rows_of}

-- the tree after expand or limit-recurrence-set
abbrev pub recurrence_shown : Object → List Row → ZoneTable → Recur → Node
recurrence_shown object rows zone Whole = object.tree
recurrence_shown object rows zone (Expand range) = expanded object rows zone range
recurrence_shown object rows zone (Limit range) = limited object rows zone range

-- the tree after limit-freebusy-set
abbrev pub busy_shown : Option Range → Node → Node
busy_shown None tree = tree
busy_shown (Some range) tree = busy_limited range tree

-- the tree of which parts are picked
abbrev pub shown_tree : Object → List Row → Selection → ZoneTable → Node
shown_tree object rows select zone = busy_shown select.busy (recurrence_shown object rows zone select.recur)

-- the selection says nothing
abbrev pub is_whole : Recur → Bool
is_whole Whole = true
is_whole other = false

abbrev pub takes_all : Selection → Bool
takes_all select = is_none select.comp && is_none select.busy && is_whole select.recur

-- What is shown of an object that has these octets.
abbrev pub shown : List ℕ → Object → List Row → Selection → ZoneTable → List ℕ
shown octets object rows select zone =
    if takes_all select then octets else picked_text select.comp (shown_tree object rows select zone)

-- the same over all rows of the object
abbrev pub shown_of_object : List ℕ → Object → Selection → ZoneTable → List ℕ
shown_of_object octets object select zone = shown octets object (rows_of object) select zone
