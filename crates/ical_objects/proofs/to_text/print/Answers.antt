use Rattle.std.proofs.Common.{[], refl, subst}
use Rattle.ical_objects.specs.Printing.{AddsLines, lines_of_tree}
use Rattle.ical_objects.proofs.BuiltTrees.{IsPrintable-IsBuilt}
use Rattle.ical_objects.proofs.PrintedTrees.{nesting_fault-lines_of_tree, tree_of-lines_of_tree}
use Rattle.ical_objects.proofs.to_text.print.Goals as goal

pub write_component-requires : goal.write_component-requires
write_component-requires c = (4, IsPrintable-IsBuilt c.args.node.now c.requires)

pub returns-clause-read_back : goal.returns-clause-read_back
returns-clause-read_back c =
    let node = c.args.node.now in
    let fits = IsPrintable-IsBuilt node c.requires in
    let adds : AddsLines [] (lines_of_tree node) c.write_component.new.out =
    subst (λ old. AddsLines old (lines_of_tree node) c.write_component.new.out) c.new-out.ensures c.in_ok-write_component.ensures.lines in
    (lines_of_tree node, (adds [] refl refl).1, nesting_fault-lines_of_tree node fits, tree_of-lines_of_tree 4 node fits)
