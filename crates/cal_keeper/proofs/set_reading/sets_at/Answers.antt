use Rattle.std.proofs.Common.{◌≡◌, length, flat_map, length-append, refl, ap, arith}
use Rattle.cal_keeper.specs.Steps.Decoding.{IsAny}
use Rattle.cal_keeper.specs.Files.Payloads.{set_text}
use Rattle.cal_keeper.proofs.PartLaws.{set_told, next_is, nothing_left, all_any}
use Rattle.cal_keeper.proofs.set_reading.sets_at.Goals as goal

pub set_at-requires : goal.set_at-requires
set_at-requires c = omega (arith, c.requires, ap length c.setting.invariant.so_far, length-append (flat_map set_text c.setting.sets) c.setting.rest.now)

pub returns-in_default-clause-none : goal.returns-in_default-clause-none
returns-in_default-clause-none c = λ is_none sets count_is is.
    next_is set_text IsAny set_told c.setting.sets sets c.args.octets.now c.setting.rest.now c.requires (all_any c.setting.sets) (all_any sets) c.setting.invariant.so_far is (omega (arith, count_is, c.setting.invariant.count_is, c.setting-test.true))
    (c.in_default.ensures.none refl)

pub returns-else-is_empty-clause-none : goal.returns-else-is_empty-clause-none
returns-else-is_empty-clause-none c = λ is_none sets count_is is.
    let left : length c.setting.rest.now ≡ 0 =
    nothing_left set_text IsAny set_told c.setting.sets sets c.args.octets.now c.setting.rest.now c.requires (all_any c.setting.sets) (all_any sets) c.setting.invariant.so_far is (omega (arith, count_is, c.setting.invariant.count_is, c.setting-test.false, c.setting.auto)) in
    grind (arith, left, c.is_empty.ensures, c.if-is_empty.false)
