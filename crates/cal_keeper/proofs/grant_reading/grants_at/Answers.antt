use Rattle.std.proofs.Common.{◌≡◌, length, refl, arith}
use Rattle.cal_keeper.specs.Files.Payloads.{grant_text, GrantHasForm}
use Rattle.cal_keeper.proofs.GrantTexts.{grant_told}
use Rattle.cal_keeper.proofs.PartLaws.{next_is, nothing_left, by_recursion}
use Rattle.cal_keeper.proofs.grant_reading.grants_at.Goals as goal
use Rattle.cal_keeper.specs.Principals.{AreFew}

pub returns-in_default-clause-none : goal.returns-in_default-clause-none
returns-in_default-clause-none c = λ is_none grants count_is form is.
    let few : AreFew c.args.counts = c.requires.few in
    next_is grant_text (GrantHasForm c.args.counts) (grant_told c.args.counts few) c.granting.grants grants c.args.octets.now c.granting.rest.now c.requires.short
    (by_recursion (GrantHasForm c.args.counts) c.granting.grants c.granting.invariant.form) (by_recursion (GrantHasForm c.args.counts) grants form) c.granting.invariant.so_far is
    (omega (arith, count_is, c.granting.invariant.count_is, c.granting-test.true)) (c.in_default.ensures.none refl)

pub returns-else-is_empty-clause-none : goal.returns-else-is_empty-clause-none
returns-else-is_empty-clause-none c = λ is_none grants count_is form is.
    let few : AreFew c.args.counts = c.requires.few in
    let left : length c.granting.rest.now ≡ 0 =
    nothing_left grant_text (GrantHasForm c.args.counts) (grant_told c.args.counts few) c.granting.grants grants c.args.octets.now c.granting.rest.now c.requires.short
    (by_recursion (GrantHasForm c.args.counts) c.granting.grants c.granting.invariant.form) (by_recursion (GrantHasForm c.args.counts) grants form) c.granting.invariant.so_far is
    (omega (arith, count_is, c.granting.invariant.count_is, c.granting-test.false, c.granting.auto)) in
    grind (arith, left, c.is_empty.ensures, c.if-is_empty.false)
