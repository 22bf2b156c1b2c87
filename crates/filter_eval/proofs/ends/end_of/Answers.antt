use Rattle.std.proofs.Common.{arith}
use Rattle.std.proofs.lemmas.Int.{ints}
use Rattle.filter_eval.proofs.EffectiveEnds.{utc_end}
use Rattle.filter_eval.proofs.ends.end_of.Goals as goal

pub returns-in-Utc : goal.returns-in-Utc
returns-in-Utc c =
    let written = c.written_value-digits.ensures in
    let end = utc_end c.args.dates.now.zones c.args.dates.now.floating c.args.start c.args.length _ c.in-Utc.is in
    omega (arith, ints, written, end)
