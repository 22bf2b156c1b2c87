use Rattle.std.proofs.Common.{◌≡◌, true, subst, sym, ◌∙◌}
use Rattle.std.specs.Str.{bytes_eq}
use Rattle.cal_base.specs.Lines.ComponentTrees.{component_name}
use Rattle.ical_objects.specs.declared.from_lines.Progress.TheVariants.{Within}
use Rattle.ical_objects.specs.Building.{IsStep}
use Rattle.ical_objects.proofs.BuildSteps.{step_end}
use Rattle.ical_objects.proofs.from_lines.end.Goals as goal

pub returns-clause-step : goal.returns-clause-step
returns-clause-step c =
    let same : bytes_eq (component_name c.args.line.now) c.args.inner.name ≡ true = sym c.in_ok-is_end_of.ensures ∙ c.if-not-branch.false in
    subst (IsStep c.args.number (Within c.args.inner c.args.around) c.args.line.now) (sym c.in_ok-closed.ensures)
    (step_end c.args.number c.args.inner c.args.around c.args.line.now c.requires.no_begin c.requires.end same)
