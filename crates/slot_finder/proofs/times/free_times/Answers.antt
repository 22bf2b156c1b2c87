use Rattle.std.proofs.Common.{rules, arith, ◌≡◌, ◌-◌, w64, to_z, of_z}
use Rattle.slot_finder.specs.FreeTimes.{free_of_runs}
use Rattle.slot_finder.proofs.Picking.{found_all, found_first, found_most, found_next}
use Rattle.slot_finder.proofs.times.free_times.Goals as goal

pub times-init : goal.times-init
times-init c = found_first (free_of_runs c.args.runs.now) c.args.range c.args.seconds c.args.most c.new-found.result c.new-found.ensures

pub free_until-requires : goal.free_until-requires
free_until-requires c = rw c.as_slice.ensures c.requires.order

pub times-preserved : goal.times-preserved
times-preserved c =
    let start : to_z w64 (of_z w64 c.in-Some.start.0) ≡ c.in-Some.start.0 = search rules in
    let limit : to_z w64 (of_z w64 c.args.range.end.0) ≡ c.args.range.end.0 = search rules in
    let end : to_z w64 (of_z w64 c.free_until.result) ≡ c.free_until.result = search (rules, c.free_until.type_inv) in
    let until = rw (c.as_slice.ensures, start, limit) at c.free_until.ensures in
    rw end (found_next c.args.runs.now c.args.range c.args.seconds c.args.most c.times.found c.push.new.self c.times.from.0 c.in-Some.start.0 c.free_until.result c.times.left (c.times.left - 1) c.requires.order c.requires.some
    c.times.invariant c.in-Some.ensures until (rw end at c.in_ok-push.ensures.ok) (omega (arith, c.times-test.true)))

pub returns-in_default : goal.returns-in_default
returns-in_default c = found_all (free_of_runs c.args.runs.now) c.args.range c.args.seconds c.args.most c.times.found c.times.from.0 c.times.left c.requires.some c.times.invariant c.in_default.ensures

pub returns : goal.returns
returns c = found_most (free_of_runs c.args.runs.now) c.args.range c.args.seconds c.args.most c.times.found c.times.from.0 c.times.left c.times.invariant (omega (arith, c.times-test.false))
