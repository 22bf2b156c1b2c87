use Rattle.std.proofs.Common.{length, sym, ◌∙◌}
use Rattle.std.proofs.lemmas.Bool.{eqb-true}
use Rattle.std.proofs.lemmas.Result.{IfOk-weaker}
use Rattle.needed_windows.proofs.WindowsFound.{none_needed, one_found, positive, stretches_found, windows_found}
use Rattle.needed_windows.proofs.windows.windows_needed.Goals as goal

pub returns-then-is_empty : goal.returns-then-is_empty
returns-then-is_empty c = c.new.ensures ∙ sym (none_needed c.args.object.now c.args.ranges.now (eqb-true (length c.args.ranges.now) 0 (sym c.if-is_empty.ensures)))

pub returns-in-Some : goal.returns-in-Some
returns-in-Some c = IfOk-weaker c.windows_of.result _ _ (λ windows h. h ∙ one_found c.args.object.now c.args.ranges.now c.in-Some.stretch c.in-Some.ensures.windows) c.windows_of.ensures

pub windows_of-requires-2-clause-each : goal.windows_of-requires-2-clause-each
windows_of-requires-2-clause-each c =
    rw c.as_slice-2.ensures
    (stretches_found _ _ c.new-stretches.result c.put_ranges.new.out c.put_overrides.new.out c.in_ok-stretches.stretches c.new-stretches.ensures c.in_ok-put_ranges.ensures c.in_ok-put_overrides.ensures c.in_ok-stretches.ensures.same)

pub returns : goal.returns
returns c =
    let found = windows_found c.args.object.now c.args.ranges.now c.new-stretches.result c.put_ranges.new.out c.put_overrides.new.out c.in_ok-stretches.stretches
    (positive (length c.args.ranges.now) c.if-is_empty.ensures) c.new-stretches.ensures
    (rw c.margin.ensures.value at c.in_ok-put_ranges.ensures)
    (rw (c.as_slice.ensures, c.requires.zones) at c.in_ok-put_overrides.ensures)
    c.in_ok-stretches.ensures.same in
    IfOk-weaker c.windows_of-2.result _ _ (λ windows h. h ∙ found) (rw c.as_slice-2.ensures at c.windows_of-2.ensures)
