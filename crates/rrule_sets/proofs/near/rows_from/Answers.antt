use Rattle.std.proofs.Common.{◌∙◌, rules, of_calls}
use Rattle.std.specs.Prelude.{int_le, int_lt}
use Rattle.std.proofs.lemmas.Fn.{always_returns_same}
use Rattle.cal_model.specs.declared.row.Row.{Row}
use Rattle.rrule_sets.proofs.NearRowLemmas.{cut_behind, not_below, not_from, partitioned_by_id}
use Rattle.rrule_sets.proofs.near.rows_from.Goals as goal

pub returns : goal.returns
returns c =
    let parts = c.partition_point-first.ensures.partitioned (λ (row : Row). int_lt row.id c.args.low) (always_returns_same _ _ _ (λ a r f k. search (rules, of_calls))) (partitioned_by_id c.args.rows.now c.args.low c.requires) in
    c.split_at.ensures.back
    ∙ cut_behind (λ (row : Row). int_lt row.id c.args.low) (λ (row : Row). int_le c.args.low row.id) (λ row h. not_below row.id c.args.low h) (λ row h. not_from row.id c.args.low h) c.args.rows.now c.partition_point-first.result (λ j d low lt. parts.0 j d low lt) (λ j d low lt. parts.1 j d low lt)
