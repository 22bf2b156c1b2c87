use Rattle.std.proofs.Common.{arith, ap, ◌∙◌, rules, FitsSigned, w64, to_z-of_z}
use Rattle.std.proofs.lemmas.Int.{ints}
use Rattle.cal_model.specs.TimeZones.Zones.{instant_of}
use Rattle.filter_eval.proofs.ends.plain_end.Goals as goal

pub returns : goal.returns
returns c =
    let last : FitsSigned w64 c.instant_of.result = search (rules, c.instant_of.type_inv) in
    to_z-of_z last ∙ (c.instant_of.ensures.value ∙ ap (instant_of c.args.zone.now) (omega (arith, ints)))
