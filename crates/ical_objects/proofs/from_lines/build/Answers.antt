use Rattle.std.proofs.Common.{◌≡◌, [], ◌∷◌, length, refl, subst, sym, ap, ◌∙◌, rules, arith}
use Rattle.std.specs.Vec.Iter.{into_iter_items}
use Rattle.std.proofs.lemmas.Grind.{common_steps}
use Rattle.cal_base.specs.Lines.ComponentTrees.{nesting_fault, tree_of}
use Rattle.cal_base.specs.Lines.Nesting.{fault_from}
use Rattle.ical_objects.specs.Building.{openings}
use Rattle.ical_objects.specs.Faults.{IsFaultOf}
use Rattle.ical_objects.proofs.BuiltTrees.{nested_tree}
use Rattle.cal_base.proofs.Lines.FaultsFromFront.{nesting_fault-from_front}
use Rattle.ical_objects.proofs.from_lines.build.Goals as goal

pub lines-init : goal.lines-init
lines-init c =
    let items : into_iter_items c.into_iter-line-iterator.result ≡ c.args.lines = c.into_iter-line-iterator.ensures.into_iter_gives.0 ∙ c.into_vec-line-items.ensures in
    record {
      can_next = tt;
      is_finite = tt;
      number = omega (arith, ap length items);
      behind = refl;
      fault = nesting_fault-from_front c.args.lines ∙ ap (fault_from 0 []) (sym items);
      tree = ap tree_of (sym items);
    }

pub returns-in_err-progress-clause-fault : goal.returns-in_err-progress-clause-fault
returns-in_err-progress-clause-fault c =
    let found : nesting_fault c.args.lines ≡ fault_from c.lines.number (openings c.lines.progress) (c.in-Some.line ∷ into_iter_items c.next.new.self) =
    c.lines.invariant.fault ∙ ap (fault_from c.lines.number (openings c.lines.progress)) c.in-Some.ensures.steps.0 in
    let told : IsFaultOf (nesting_fault c.args.lines) c.in_err-progress.field-0.0 =
    subst (λ fault. IsFaultOf fault c.in_err-progress.field-0.0) (sym found) (c.in_err-progress.ensures.stop (into_iter_items c.next.new.self)) in
    search (rules, told)

pub returns-clause-nested : goal.returns-clause-nested
returns-clause-nested c = grind (arith, common_steps, nested_tree)
