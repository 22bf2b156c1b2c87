use Rattle.std.proofs.Common.{◌≡◌, map, take}
use Rattle.filter_eval.specs.Tests.{prop_filter_of}
use Rattle.filter_eval.proofs.props.testers_of_props.Given as goal

-- a tester for each filter so far
abbrev pub invariant-filters : goal.invariant-filters
invariant-filters l = map prop_filter_of l.testers ≡ take l.filter-index l.filters
