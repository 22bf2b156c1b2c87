use Rattle.std.proofs.Common.{◌≡◌, map, take}
use Rattle.filter_eval.specs.Tests.{param_filter_of}
use Rattle.filter_eval.proofs.params.testers_of.Given as goal

-- a tester for each filter so far
abbrev pub invariant-filters : goal.invariant-filters
invariant-filters l = map param_filter_of l.testers ≡ take l.filter-index l.filters
