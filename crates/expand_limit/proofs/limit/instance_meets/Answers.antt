use Rattle.std.proofs.Common.{sym, ap, subst, ◌∙◌, arith}
use Rattle.std.proofs.lemmas.Int.{ints}
use Rattle.cal_model.specs.Instances.Rows.{end_from}
use Rattle.override_merge.specs.Conversions.{tables_of}
use Rattle.overlap_rules.specs.Bounds.{IsNear}
use Rattle.expand_limit.proofs.MadeLines.{whole-moment, whole-near}
use Rattle.expand_limit.proofs.ShownRows.{end_near}
use Rattle.expand_limit.proofs.limit.instance_meets.Goals as goal

pub meets-requires-clause-row : goal.meets-requires-clause-row
meets-requires-clause-row c =
    let first = c.requires.id.0 in
    let last = c.requires.id.1 in
    let object = c.args.limit.now.object.now in
    let ends : IsNear c.end_from.result =
    subst IsNear (sym (c.end_from.ensures ∙ ap (end_from (tables_of c.args.zones.now) c.args.master.now) (whole-moment c.args.id c.requires.id) ∙ ap (λ zones. end_from zones c.args.master.now c.args.id) (sym c.requires.zones)))
    (end_near object c.args.master.now c.args.id c.requires.read c.requires.component c.requires.id) in
    record {
      start = (omega (arith, ints, first, last), omega (arith, ints, first, last));
      end = subst IsNear (sym (whole-near c.end_from.result ends)) ends;
    }
