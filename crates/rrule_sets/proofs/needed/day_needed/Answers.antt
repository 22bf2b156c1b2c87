use Rattle.std.proofs.Common.{sym, ◌∙◌}
use Rattle.std.specs.Prelude.{length}
use Rattle.cal_model.specs.Instances.Starts.{own_start}
use Rattle.override_merge.proofs.StampLemmas.{own_start_convertible, convertible_some}
use Rattle.rrule_sets.proofs.needed.day_needed.Goals as goal

pub starts_in_window-requires : goal.starts_in_window-requires
starts_in_window-requires c =
    let zones = length c.args.zones.now in
    convertible_some zones (own_start c.args.component.now) c.in_ok-stamp.stamp (sym c.own_start.ensures ∙ c.in_ok-stamp.was) (own_start_convertible zones c.args.component.now c.requires.component)
