use Rattle.std.proofs.Common.{◌≡◌, ◌+◌, ◌≤◌, true, length, map, take, drop}
use Rattle.std.specs.List.{list_any, enumerate_from}
use Rattle.cal_model.specs.Filters.ComponentRanges.{Site, site_in, sites_in}
use Rattle.cal_model.specs.Objects.ComponentLines.{children_of}
use Rattle.filter_eval.specs.Passing.{inner_hold, passes_whole}
use Rattle.filter_eval.specs.Places.{IsAt, alarms_in, matched_of}
use Rattle.filter_eval.specs.Tests.{comp_filter_of}
use Rattle.filter_eval.proofs.matching.+matching.Given as goal

-- the components in it hold the comp-filters so far
abbrev pub invariant-passes-comps : goal.invariant-passes-comps
invariant-passes-comps l =
    (site : Site) → IsAt l.subject.object.now l.spot site → inner_hold (matched_of l.subject) (map comp_filter_of (take l.inner-index l.inner-items)) site ≡ true

-- the components to come tell as much as all, and the alarms before them are counted
abbrev pub invariant-some_inner_passes-children : goal.invariant-some_inner_passes-children
invariant-some_inner_passes-children l = record {
  numbers : l.place + length l.rest ≡ length l.initial.rest;
  front : drop l.place (children_of l.spot.node.now) ≡ l.rest;
  before : l.counts ≡ true → l.alarms ≡ alarms_in l.spot.node.now l.place;
  few : l.alarms ≤ l.place;
  same : (site : Site) → IsAt l.subject.object.now l.spot site →
      list_any (passes_whole (matched_of l.subject) (comp_filter_of l.tester)) (map (site_in site) (enumerate_from l.place l.rest))
      ≡ list_any (passes_whole (matched_of l.subject) (comp_filter_of l.tester)) (sites_in site);
}

abbrev pub decreases-some_inner_passes-children : goal.decreases-some_inner_passes-children
decreases-some_inner_passes-children l = length l.rest
