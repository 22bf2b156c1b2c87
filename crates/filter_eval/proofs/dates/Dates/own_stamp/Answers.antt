use Rattle.std.proofs.Common.{ap, sym, ◌∙◌, subst, Option}
use Rattle.std.specs.Prelude.{IfSome}
use Rattle.cal_base.specs.Lines.ComponentTrees.{first}
use Rattle.cal_moment.specs.declared.stamp.Stamp.{Stamp}
use Rattle.filter_eval.specs.Instants.{IsDated}
use Rattle.filter_eval.proofs.ReadStamps.{own_dated}
use Rattle.filter_eval.proofs.dates.Dates.own_stamp.Goals as goal

pub returns-in-Ok-clause-dated : goal.returns-in-Ok-clause-dated
returns-in-Ok-clause-dated c =
    subst (λ (o : Option Stamp). IfSome o IsDated) (sym (c.first_of.ensures ∙ ap first c.as_slice.ensures)) (own_dated c.self.inside.names c.args.line.now c.in-Ok.stamps c.in-Ok.ensures.ok)
