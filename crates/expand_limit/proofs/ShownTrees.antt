-- The tree of an object that was read, what is shown of it, and the zones at hand.
use Rattle.std.proofs.Common.{◌≡◌, ℕ, false, List, length, None, sym, ap, subst, ◌∙◌}
use Rattle.std.proofs.lemmas.Bool.{cond-false}
use Rattle.std.proofs.lemmas.List.{length-map}
use Rattle.std.specs.Prelude.{All}
use Rattle.cal_base.specs.Lines.ComponentTrees.{printed}
use Rattle.cal_model.specs.declared.local_times.LocalTimes.{LocalTimes}
use Rattle.cal_model.specs.declared.object.Object.{Object}
use Rattle.cal_model.specs.declared.row.Row.{Row}
use Rattle.cal_model.specs.declared.selection.CompPick.{CompPick}
use Rattle.cal_model.specs.declared.selection.Recur.TheVariants.{Whole}
use Rattle.cal_model.specs.declared.selection.Selection.{Selection}
use Rattle.cal_model.specs.declared.zone.ZoneTable.{ZoneTable}
use Rattle.cal_model.specs.Objects.ComponentLines.{name_of, lines_of, children_of}
use Rattle.cal_model.specs.Objects.ObjectFacts.{IsRead}
use Rattle.cal_model.specs.Selections.Picks.{picked, picked_text}
use Rattle.cal_model.specs.Selections.ShownData.{busy_shown, recurrence_shown, shown, shown_tree, takes_all}
use Rattle.cal_model.proofs.Objects.ObjectFactLaws.{IsReadObject-read}
use Rattle.ical_objects.specs.Printing.{IsPrintable}
use Rattle.ical_objects.proofs.BuiltTrees.{IsPrintable-IsBuilt}
use Rattle.ical_objects.proofs.ComponentLines.{IsReadLine-read_lines}
use Rattle.override_merge.specs.Conversions.{tables_of, HasConvertibleRow}
use Rattle.expand_limit.specs.ShownTexts.{body_text}
use Rattle.expand_limit.proofs.ShownParts.{body-text, node-component}

-- a tree that was read can be printed
pub printable_read : (object : Object) → IsRead object → IsPrintable 4 object.tree
printable_read object read =
    let text = (IsReadObject-read object read).own_text in
    let read_as = text.reading in
    IsPrintable-IsBuilt object.tree (read_as.0, IsReadLine-read_lines text.octets read_as.0 read_as.1, read_as.2, read_as.3)

-- as many zones at hand as the object has
pub rows-at_hand : (object : Object) (zones : List LocalTimes) → tables_of zones ≡ object.zones → All (HasConvertibleRow (length object.zones)) object.components → All (HasConvertibleRow (length zones)) object.components
rows-at_hand object zones are all =
    subst (λ n. All (HasConvertibleRow n) object.components) (sym (sym (length-map zones (λ (times : LocalTimes). times.table.now)) ∙ ap length are)) all

-- what is shown of the whole tree
pub whole-shown : (object : Object) (rows : List Row) (select : Selection) (zone : ZoneTable) (picks : List CompPick) → select.recur ≡ Whole
    → body_text picks select.busy (name_of object.tree) (lines_of object.tree) (children_of object.tree) ≡ printed ((picked (shown_tree object rows select zone)).kept picks)
whole-shown object rows select zone picks is =
    sym (body-text picks select.busy (name_of object.tree) (lines_of object.tree) (children_of object.tree))
    ∙ ap (λ node. printed ((picked (busy_shown select.busy node)).kept picks)) (sym (node-component object.tree))
    ∙ sym (ap (λ recur. printed ((picked (busy_shown select.busy (recurrence_shown object rows zone recur))).kept picks)) is)

-- what is shown where something is selected
pub shown-all : (octets : List ℕ) (object : Object) (rows : List Row) (select : Selection) (zone : ZoneTable) → takes_all select ≡ false → select.comp ≡ None → shown octets object rows select zone ≡ printed (shown_tree object rows select zone)
shown-all octets object rows select zone some none = cond-false (takes_all select) octets (picked_text select.comp (shown_tree object rows select zone)) some ∙ ap (λ comp. picked_text comp (shown_tree object rows select zone)) none
