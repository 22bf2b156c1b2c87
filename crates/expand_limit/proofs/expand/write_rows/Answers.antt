use Rattle.std.proofs.Common.{◌≡◌, ◌∷◌, ◌++◌, sym, ap, subst, ◌∙◌, All}
use Rattle.std.specs.Prelude.{flat_map}
use Rattle.std.proofs.lemmas.List.Elements.{All-tail}
use Rattle.expand_limit.specs.InstanceLines.{IsShownRow}
use Rattle.expand_limit.specs.Instances.{instances_in}
use Rattle.expand_limit.specs.ShownTexts.{node_text}
use Rattle.expand_limit.proofs.InstanceParts.{instances-text}
use Rattle.expand_limit.proofs.expand.write_rows.Goals as goal

pub rows-preserved : goal.rows-preserved
rows-preserved c =
    let held = c.rows.invariant in
    let row = c.in-Some.row.now in
    let behind = c.in-Some.behind.now in
    let expansion = c.args.expansion.now in
    let split : c.rows.rest.now ≡ row ∷ behind = c.in-Some.ensures.cases.0 in
    record {
      shown = All-tail IsShownRow row behind (subst (All IsShownRow) split held.shown);
      text = λ levels picks all keeps.
          instances-text (node_text picks expansion.busy) expansion c.rows.out c.write_row.new.out row behind (c.in_ok-write_row.ensures levels picks all keeps)
          ∙ ap (λ rows. c.rows.out ++ flat_map (node_text picks expansion.busy) (instances_in expansion rows)) (sym split) ∙ held.text levels picks all keeps;
    }
