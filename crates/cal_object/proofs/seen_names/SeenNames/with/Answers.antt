use Rattle.std.proofs.Common.{ap, ◌*◌, ◌^◌, ◌%◌}
use Rattle.std.specs.Prelude.{bit_or}
use Rattle.cal_object.specs.declared.seen_names.SeenNames.{SeenNames}
use Rattle.cal_object.specs.Seen.{seen_with}
use Rattle.cal_object.proofs.seen_names.SeenNames.with.Goals as goal

pub returns : goal.returns
unfolding seen_with
returns c = ap (λ n. let seen : SeenNames = record { 0 = bit_or c.args.self.0 (1 * 2 ^ n % 4294967296) } in seen) c.number.ensures.value
