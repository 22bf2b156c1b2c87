use Rattle.std.proofs.Common.{sym, subst}
use Rattle.cal_base.specs.Texts.Text.{IsRaised}
use Rattle.cal_base.proofs.Texts.RaisedTexts.{IsRaised-raised_all}
use Rattle.cal_base.proofs.text.Name.of.Goals as goal

pub invariant_of-result : goal.invariant_of-result
invariant_of-result c = subst IsRaised (sym c.in_ok-octets.ensures) (IsRaised-raised_all c.args.text.now)
