use Rattle.std.proofs.Common.{◌≡◌, true, take}
use Rattle.std.specs.List.{list_all}
use Rattle.cal_model.specs.Filters.ComponentRanges.{Site}
use Rattle.cal_model.specs.Filters.Matching.{prop_filter_holds}
use Rattle.filter_eval.specs.Places.{IsAt, matched_of}
use Rattle.filter_eval.specs.Tests.{prop_filter_of}
use Rattle.filter_eval.specs.declared.props.PropTester.{PropTester}
use Rattle.filter_eval.proofs.props.all_props_hold.Given as goal

-- the tests so far hold
abbrev pub invariant-testers : goal.invariant-testers
invariant-testers l =
    (site : Site) → IsAt l.subject.object.now l.spot site → list_all (λ (tester : PropTester). prop_filter_holds (matched_of l.subject) site (prop_filter_of tester)) (take l.tester-index l.tester-items) ≡ true
