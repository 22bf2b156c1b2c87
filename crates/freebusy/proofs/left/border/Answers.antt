use Rattle.std.proofs.Common.{rules, ◌≡◌, w64, to_z, of_z}
use Rattle.freebusy.proofs.Passed.{before_all, up_to_all}
use Rattle.freebusy.proofs.left.border.Goals as goal

pub returns-clause-before : goal.returns-clause-before
returns-clause-before c =
    let least : to_z w64 (of_z w64 c.args.least) ≡ c.args.least = search rules in
    let busy : to_z w64 (of_z w64 c.last_of_class-busy.result) ≡ c.last_of_class-busy.result = search (rules, c.last_of_class-busy.type_inv) in
    let unavailable : to_z w64 (of_z w64 c.last_of_class-unavailable.result) ≡ c.last_of_class-unavailable.result = search (rules, c.last_of_class-unavailable.type_inv) in
    let last : to_z w64 (of_z w64 c.last_of_class.result) ≡ c.last_of_class.result = search (rules, c.last_of_class.type_inv) in
    rw last (before_all c.args.classes.now c.args.left c.args.least c.last_of_class-busy.result c.last_of_class-unavailable.result c.last_of_class.result c.requires.left c.requires.least
    (rw least at c.last_of_class-busy.ensures) (rw busy at c.last_of_class-unavailable.ensures) (rw unavailable at c.last_of_class.ensures))

pub returns-clause-last : goal.returns-clause-last
returns-clause-last c =
    let least : to_z w64 (of_z w64 c.args.least) ≡ c.args.least = search rules in
    let busy : to_z w64 (of_z w64 c.last_of_class-busy.result) ≡ c.last_of_class-busy.result = search (rules, c.last_of_class-busy.type_inv) in
    let unavailable : to_z w64 (of_z w64 c.last_of_class-unavailable.result) ≡ c.last_of_class-unavailable.result = search (rules, c.last_of_class-unavailable.type_inv) in
    let last : to_z w64 (of_z w64 c.last_of_class.result) ≡ c.last_of_class.result = search (rules, c.last_of_class.type_inv) in
    rw last (up_to_all c.args.classes.now c.args.left c.args.least c.last_of_class-busy.result c.last_of_class-unavailable.result c.last_of_class.result
    (rw least at c.last_of_class-busy.ensures) (rw busy at c.last_of_class-unavailable.ensures) (rw unavailable at c.last_of_class.ensures))
