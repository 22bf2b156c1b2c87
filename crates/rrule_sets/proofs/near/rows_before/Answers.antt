use Rattle.std.proofs.Common.{◌∙◌, rules, of_calls}
use Rattle.std.specs.Prelude.{int_lt}
use Rattle.std.proofs.lemmas.Fn.{always_returns_same}
use Rattle.cal_model.specs.declared.row.Row.{Row}
use Rattle.rrule_sets.proofs.NearRowLemmas.{cut_before, partitioned_by_id}
use Rattle.rrule_sets.proofs.near.rows_before.Goals as goal

pub returns : goal.returns
returns c =
    let parts = c.partition_point-end.ensures.partitioned (λ (row : Row). int_lt row.id c.args.high) (always_returns_same _ _ _ (λ a r f k. search (rules, of_calls))) (partitioned_by_id c.args.rows.now c.args.high c.requires) in
    c.split_at.ensures.front ∙ cut_before (λ (row : Row). int_lt row.id c.args.high) c.args.rows.now c.partition_point-end.result (λ j d low lt. parts.0 j d low lt) (λ j d low lt. parts.1 j d low lt)
