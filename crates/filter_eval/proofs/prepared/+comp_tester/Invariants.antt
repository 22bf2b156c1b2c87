use Rattle.std.proofs.Common.{◌≡◌, map, take}
use Rattle.filter_eval.specs.Tests.{comp_filter_of}
use Rattle.filter_eval.proofs.prepared.+comp_tester.Given as goal

-- a tester for each comp-filter so far
abbrev pub invariant-comps : goal.invariant-comps
invariant-comps l = map comp_filter_of l.comps ≡ take l.comp-index l.comp-items
