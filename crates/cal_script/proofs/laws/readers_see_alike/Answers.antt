use Rattle.cal_script.proofs.ReadersLaws.{readers_see_alike}
use Rattle.cal_script.proofs.laws.readers_see_alike.Goals as goal

pub returns : goal.returns
returns c = readers_see_alike
