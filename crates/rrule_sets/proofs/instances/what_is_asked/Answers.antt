use Rattle.std.proofs.Common.{arith, rules, FitsSigned, w64, to_z-of_z, pos, neg_ℤ}
use Rattle.std.specs.Prelude.{length}
use Rattle.std.proofs.lemmas.Int.{ints}
use Rattle.cal_moment.specs.Calendar.{IsBetween}
use Rattle.cal_model.specs.Instances.Starts.{own_start}
use Rattle.override_merge.proofs.StampLemmas.{convertible_some, own_start_convertible}
use Rattle.rrule_sets.proofs.instances.what_is_asked.Goals as goal

pub value_of-requires : goal.value_of-requires
value_of-requires g c = convertible_some (length c.args.zones.now) (own_start c.args.component.now) c.args.stamp c.requires.own (own_start_convertible (length c.args.zones.now) c.args.component.now c.requires.component.row)

pub put_start-requires-clause-stamp : goal.put_start-requires-clause-stamp
put_start-requires-clause-stamp g c = (convertible_some (length c.args.zones.now) (own_start c.args.component.now) c.args.stamp c.requires.own (own_start_convertible (length c.args.zones.now) c.args.component.now c.requires.component.row)).zone

pub put_start-requires-clause-near : goal.put_start-requires-clause-near
put_start-requires-clause-near g c =
    let written = (convertible_some (length c.args.zones.now) (own_start c.args.component.now) c.args.stamp c.requires.own (own_start_convertible (length c.args.zones.now) c.args.component.now c.requires.component.row)).near in
    let by = c.value_of.ensures.near in
    let fits : FitsSigned w64 c.value_of.result = search (rules, c.value_of.type_inv) in
    let near : IsBetween (neg_ℤ (pos 180_000_000_000_000)) (pos 180_000_000_000_000) c.value_of.result = (omega (arith, ints, by, written), omega (arith, ints, by, written)) in
    simp to_z-of_z near
