use Rattle.std.proofs.Common.{rules, ◌≡◌, w64, to_z, of_z}
use Rattle.freebusy.proofs.Passed.{last_of_both}
use Rattle.freebusy.proofs.left.last_of_class.Goals as goal

pub returns : goal.returns
returns c =
    let least : to_z w64 (of_z w64 c.args.least) ≡ c.args.least = search rules in
    let middle : to_z w64 (of_z w64 c.last_of-last.result) ≡ c.last_of-last.result = search (rules, c.last_of-last.type_inv) in
    let last : to_z w64 (of_z w64 c.last_of.result) ≡ c.last_of.result = search (rules, c.last_of.type_inv) in
    let first = rw (c.as_slice.ensures, least) at c.last_of-last.ensures in
    let second = rw (c.as_slice-2.ensures, middle) at c.last_of.ensures in
    rw last (last_of_both c.args.ends.now c.args.counts c.args.least c.last_of-last.result c.last_of.result first second)
