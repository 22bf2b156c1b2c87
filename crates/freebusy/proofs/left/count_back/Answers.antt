use Rattle.std.proofs.Common.{rules, arith, ◌≡◌, ◌-◌, sym, pos, w64, to_z, of_z}
use Rattle.freebusy.proofs.Passed.{back_one, back_none, back_some}
use Rattle.freebusy.proofs.left.count_back.Goals as goal

pub returns-then-lies_before : goal.returns-then-lies_before
returns-then-lies_before c =
    let upper : to_z w64 (of_z w64 c.args.upper) ≡ c.args.upper = search rules in
    let before = rw upper at c.if-lies_before.ensures in
    let after = rw upper at c.back.invariant.1 in
    back_some c.args.moments.now c.args.upper c.back.count (c.back.count - 1) (pos 0) c.requires.rising (omega (arith, c.back-test.true)) (sym before) c.back.invariant.0 after

pub back-preserved : goal.back-preserved
back-preserved c =
    let upper : to_z w64 (of_z w64 c.args.upper) ≡ c.args.upper = search rules in
    let past = rw upper at c.if-lies_before.ensures in
    let after = rw upper at c.back.invariant.1 in
    rw upper (omega (arith, c.back.invariant.0), back_one c.args.moments.now c.args.upper c.back.count (c.back.count - 1) (pos 0) (omega (arith, c.back-test.true)) (sym past) c.back.invariant.0 after)

pub returns : goal.returns
returns c =
    let upper : to_z w64 (of_z w64 c.args.upper) ≡ c.args.upper = search rules in
    back_none c.args.moments.now c.args.upper c.back.count (omega (arith, c.back-test.false)) (rw upper at c.back.invariant.1)
