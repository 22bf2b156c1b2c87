use Rattle.std.proofs.Common.{sym, subst}
use Rattle.shown_lines.specs.Heads.{IsClean}
use Rattle.shown_lines.proofs.Outcomes.{IfOk-then}
use Rattle.shown_lines.proofs.ValueTexts.{clean-moment}
use Rattle.shown_lines.proofs.values.value_text.Goals as goal

pub returns-clause-clean : goal.returns-clause-clean
returns-clause-clean c = IfOk-then _ IsClean c.of.result (λ text same. subst IsClean (sym same) (clean-moment c.write_utc-text.result _ _ c.write_utc-text.ensures.read)) c.of.ensures
