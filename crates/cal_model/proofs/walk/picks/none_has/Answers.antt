use Rattle.std.proofs.Common.{◌≡◌, Bool, true, false, refl}
use Rattle.std.specs.Prelude.{not}
use Rattle.cal_model.proofs.walk.picks.none_has.Goals as goal

none_of : (b : Bool) → not b ≡ true → b ≡ false
none_of false h = refl
none_of true h = absurd cc

pub returns : goal.returns
returns g c = λ none. c.some_period_has.ensures (none_of c.some_period_has.result none)
