-- The ranges of a filter, one level at a time: filters are folds, and this is what one step of the fold does.
use Rattle.std.specs.Prelude.{◌≡◌, List, map}
use Rattle.cal_model.specs.declared.filter.CompFilter.{CompFilter}
use Rattle.cal_model.specs.declared.filter.CompFilter.TheOpen.{CompFilter-F}
use Rattle.cal_model.specs.declared.filter.CompFilter.TheViews.{roll-CompFilter}
use Rattle.cal_model.specs.declared.filter.CompFilter.TheFolds.{fold-roll-CompFilter}
use Rattle.cal_model.specs.declared.row.Range.{Range}
use Rattle.cal_model.specs.Reports.NamedRanges.{ranges_of_filter, ranges_step}

pub ranges_of_filter_roll : (x : CompFilter-F CompFilter) → ranges_of_filter (roll-CompFilter x)
    ≡ ranges_step (record { name = x.name; absent = x.absent; time = x.time; props = x.props; comps = map ranges_of_filter x.comps })
ranges_of_filter_roll = fold-roll-CompFilter (List Range) ranges_step
