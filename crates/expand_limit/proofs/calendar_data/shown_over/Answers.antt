use Rattle.std.proofs.Common.{◌≡◌, ℕ, suc, List, [], ◌∷◌, None, sym, ◌∙◌}
use Rattle.cal_base.specs.Lines.ComponentTrees.{printed}
use Rattle.cal_model.specs.declared.selection.CompPick.{CompPick}
use Rattle.cal_model.specs.Selections.Picks.{everything, picked}
use Rattle.cal_model.specs.Selections.ShownData.{shown as shown_spec, shown_tree}
use Rattle.cal_model.proofs.Selections.PickLaws.{printed-everything}
use Rattle.std.proofs.lemmas.Result.{IfOk-weaker}
use Rattle.ical_objects.specs.Printing.{IsPrintable}
use Rattle.expand_limit.specs.KeptParts.{IsKept}
use Rattle.expand_limit.proofs.KeptLemmas.{everything-keeps}
use Rattle.expand_limit.proofs.ShownTrees.{printable_read, shown-all}
use Rattle.expand_limit.proofs.calendar_data.shown_over.Goals as goal

pub tree_text-requires-clause-tree : goal.tree_text-requires-clause-tree
tree_text-requires-clause-tree c = printable_read c.args.object.now (record { octets = c.args.octets.now; reading = c.requires.read })

pub picked_tree-requires-clause-tree : goal.picked_tree-requires-clause-tree
picked_tree-requires-clause-tree c = printable_read c.args.object.now (record { octets = c.args.octets.now; reading = c.requires.read })

pub returns-in-None : goal.returns-in-None
returns-in-None c = IfOk-weaker c.tree_text.result
    (λ text. (levels : ℕ) (picks : List CompPick) → IsPrintable (suc levels) c.args.object.now.tree → IsKept (suc levels) None picks → text ≡ printed ((picked (shown_tree c.args.object.now c.args.rows.now c.args.select.now c.args.zone.now)).kept picks))
    (λ text. text ≡ shown_spec c.args.octets.now c.args.object.now c.args.rows.now c.args.select.now c.args.zone.now) (λ text f.
    f 3 (everything ∷ []) (printable_read c.args.object.now (record { octets = c.args.octets.now; reading = c.requires.read })) everything-keeps
    ∙ printed-everything (shown_tree c.args.object.now c.args.rows.now c.args.select.now c.args.zone.now)
    ∙ sym (shown-all c.args.octets.now c.args.object.now c.args.rows.now c.args.select.now c.args.zone.now (sym c.takes_all.ensures ∙ c.if-takes_all.false) c.in-None.is)) c.tree_text.ensures
