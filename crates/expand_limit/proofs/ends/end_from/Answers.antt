use Rattle.std.proofs.Common.{sym, length, ◌∙◌}
use Rattle.override_merge.proofs.StampLemmas.{own_start_convertible, convertible_some}
use Rattle.cal_model.specs.Instances.Starts.{own_start}
use Rattle.expand_limit.proofs.ends.end_from.Goals as goal

pub end_of_extent-requires-clause-stamp : goal.end_of_extent-requires-clause-stamp
end_of_extent-requires-clause-stamp c =
    let zones = length c.args.zones.now in
    convertible_some zones (own_start c.args.component.now) c.in-Some.stamp (sym c.own_start.ensures ∙ c.in-Some.is) (own_start_convertible zones c.args.component.now c.requires.component)
