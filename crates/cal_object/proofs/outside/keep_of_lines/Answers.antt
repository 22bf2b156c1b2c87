use Rattle.std.proofs.Common.{refl}
use Rattle.cal_base.specs.Lines.ComponentTrees.{or_else}
use Rattle.cal_model.specs.Objects.DateFaults.{is_early, is_late}
use Rattle.cal_object.specs.declared.outside.FoundDate.{FoundDate}
use Rattle.cal_object.specs.DatesOutside as spec
use Rattle.cal_object.proofs.DateWalk.{found_more}
use Rattle.cal_object.proofs.outside.keep_of_lines.Goals as goal

pub lines-preserved : goal.lines-preserved
lines-preserved c =
    let e = c.in-Some.ensures.cases.0 in
    let line = c.in-Some.line.now in
    let behind = c.in-Some.behind.now in
    let dates = spec.dates_within c.lines.levels line in
    let all = spec.dates_from c.args.levels.now c.args.lines.now in
    record {
      early = found_more (λ (one : FoundDate). is_early one.stamp) is_early (λ l s. refl) c.lines.early c.keep_of_line.new.early c.lines.levels c.go_over.new.levels line behind dates (or_else c.args.early.now (spec.first_early all))
          refl c.in_ok-go_over.ensures c.in_ok-keep_of_line.ensures.early (rw e at c.lines.invariant.early);
      late = found_more (λ (one : FoundDate). is_late one.stamp) is_late (λ l s. refl) c.lines.late c.keep_of_line.new.late c.lines.levels c.go_over.new.levels line behind dates (or_else c.args.late.now (spec.first_late all))
          refl c.in_ok-go_over.ensures c.in_ok-keep_of_line.ensures.late (rw e at c.lines.invariant.late);
    }
