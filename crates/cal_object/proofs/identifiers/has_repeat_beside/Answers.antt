use Rattle.cal_object.specs.Alignments.{tables_of}
use Rattle.cal_object.specs.Identifiers.{ids_beside}
use Rattle.cal_object.proofs.IdLaws.{repeat_of_values, repeat_of_days}
use Rattle.cal_object.proofs.identifiers.has_repeat_beside.Goals as goal

pub returns-then-branch : goal.returns-then-branch
returns-then-branch c =
    let ids = ids_beside (tables_of c.args.zones.now) c.args.start c.args.components.now in
    repeat_of_values ids c.in_ok-values.values c.in_ok-has_double.field-0 c.in_ok-values.ensures.values c.in_ok-has_double.ensures c.if-branch.true

pub returns-in_ok-has_double-2 : goal.returns-in_ok-has_double-2
returns-in_ok-has_double-2 c =
    let ids = ids_beside (tables_of c.args.zones.now) c.args.start c.args.components.now in
    repeat_of_days ids c.in_ok-values.values c.in_ok-values.days c.in_ok-has_double.field-0 c.in_ok-has_double-2.field-0 c.in_ok-values.ensures.values c.in_ok-values.ensures.days
    c.in_ok-has_double.ensures c.if-branch.false c.in_ok-has_double-2.ensures
