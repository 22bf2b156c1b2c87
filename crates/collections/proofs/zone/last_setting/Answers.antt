use Rattle.std.proofs.Common.{◌∙◌, ◌++◌, ◌∷◌, [], take, sym, ap, Some, None}
use Rattle.std.specs.Prelude.{if◌then◌else◌}
use Rattle.std.proofs.lemmas.List.{take_more}
use Rattle.cal_base.specs.Lines.ComponentTrees.{or_else}
use Rattle.collections.specs.Settings.{is_zone, last_zone}
use Rattle.collections.proofs.SettingLemmas.{last_zone_more}
use Rattle.collections.proofs.zone.last_setting.Goals as goal

pub loop-set-preserved : goal.loop-set-preserved
loop-set-preserved c =
    let sets = c.args.sets.now in
    let at = c.loop-set.set-index in
    let set = c.set-item.result in
    let more = take_more sets at set c.loop-set-test.true ∙ ap (λ s. take at sets ++ s ∷ []) (sym c.set-item.is) in
    c.later-last.ensures ∙ (ap (or_else (if is_zone set then Some set else None)) c.loop-set.invariant ∙ (sym (last_zone_more (take at sets) set) ∙ ap last_zone (sym more)))
