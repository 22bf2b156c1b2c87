use Rattle.std.proofs.Common.{◌∙◌, sym, ap, arith}
use Rattle.cal_base.specs.Lines.ComponentTrees.{nesting_fault, tree_of}
use Rattle.cal_object.proofs.FewLines.{children_few}
use Rattle.cal_object.proofs.outline.tree_of_lines.Goals as goal

pub returns-in-Ok-clause-tree : goal.returns-in-Ok-clause-tree
returns-in-Ok-clause-tree c =
    let few = children_few c.args.lines c.in-Ok.calendar c.in-Ok.ensures.nested in
    let room = c.requires.few in
    record {
      lines = c.requires.faultless;
      nested = ap nesting_fault (sym c.requires.lines) ∙ c.in-Ok.ensures.tree.0;
      tree = ap tree_of (sym c.requires.lines) ∙ c.in-Ok.ensures.tree.1;
      few = omega (arith, few, room);
    }
