use Rattle.std.proofs.Common.{◌++◌, ap, sym, ◌∙◌, arith}
use Rattle.cal_object.specs.Children as spec
use Rattle.cal_object.proofs.ChildNumbers.{child_numbers-from_front}
use Rattle.cal_object.proofs.scan.child_begins.Goals as goal

pub lines-init : goal.lines-init
lines-init c = record {
  number = omega arith;
  few_begins = omega arith;
  few_ends = omega arith;
  all = ap (λ numbers. numbers ++ spec.children_from 0 0 0 c.args.lines.now) c.new-children.ensures ∙ sym (child_numbers-from_front c.args.lines.now);
}
