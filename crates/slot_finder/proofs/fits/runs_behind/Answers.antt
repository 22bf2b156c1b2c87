use Rattle.std.proofs.Common.{◌∙◌, rules, of_calls}
use Rattle.std.specs.Prelude.{int_le}
use Rattle.std.proofs.lemmas.Fn.{always_returns_same}
use Rattle.freebusy.specs.declared.busy.Run.{Run}
use Rattle.slot_finder.specs.Fits.{ends_behind}
use Rattle.slot_finder.proofs.RunsBehind.{cut_behind, over_not_behind, behind_not_over, partitioned_by_end}
use Rattle.slot_finder.proofs.fits.runs_behind.Goals as goal

pub returns : goal.returns
returns c =
    let parts = c.partition_point-place.ensures.partitioned (λ (run : Run). int_le run.end.0 c.args.at) (always_returns_same _ _ _ (λ a r f k. search (rules, of_calls))) (partitioned_by_end c.args.runs.now c.args.at c.requires) in
    c.split_at.ensures.back
    ∙ cut_behind (λ (run : Run). int_le run.end.0 c.args.at) (ends_behind c.args.at) (λ run is. over_not_behind run c.args.at is) (λ run is. behind_not_over run c.args.at is) c.args.runs.now c.partition_point-place.result
    (λ k d low high. parts.0 k d low high) (λ k d low high. parts.1 k d low high)
