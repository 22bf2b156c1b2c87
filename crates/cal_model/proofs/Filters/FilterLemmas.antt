-- The folds over filters and trees, one level at a time.
use Rattle.std.specs.Prelude.{◌≡◌, ℕ, Bool, List, map}
use Rattle.std.proofs.Common.{ap}
use Rattle.cal_base.specs.declared.line.Node.{Node}
use Rattle.cal_base.specs.declared.line.Node.TheOpen.{Node-F}
use Rattle.cal_base.specs.declared.line.Node.TheViews.{roll-Node, out-roll-Node}
use Rattle.cal_base.specs.declared.line.Node.TheFolds.{fold-roll-Node}
use Rattle.cal_base.specs.Lines.ComponentTrees.{printed, print_step}
use Rattle.cal_model.specs.Objects.ComponentLines.{name_of, lines_of, children_of}
use Rattle.cal_model.specs.declared.filter.CompFilter.{CompFilter}
use Rattle.cal_model.specs.declared.filter.CompFilter.TheOpen.{CompFilter-F}
use Rattle.cal_model.specs.declared.filter.CompFilter.TheViews.{roll-CompFilter}
use Rattle.cal_model.specs.declared.filter.CompFilter.TheFolds.{fold-roll-CompFilter}
use Rattle.cal_model.specs.declared.row.Range.{Range}
use Rattle.cal_model.specs.Selections.Expansion.{plain, plain_step}
use Rattle.cal_model.specs.Selections.LimitedSets.{busy_limited, busy_step}
use Rattle.cal_model.specs.Filters.ComponentRanges.{Matched, Site}
use Rattle.cal_model.specs.Filters.Matching.{comp_filter_holds, comp_step}
use Rattle.cal_model.specs.Reports.NamedRanges.{ranges_of_filter, ranges_step}
use Rattle.cal_model.specs.Selections.Picks.{Picked, picked, pick_step}

pub comp_filter_holds_roll : (matched : Matched) (x : CompFilter-F CompFilter) (sites : List Site) → comp_filter_holds matched (roll-CompFilter x) sites
    ≡ comp_step matched (record { name = x.name; absent = x.absent; time = x.time; props = x.props; comps = map (comp_filter_holds matched) x.comps }) sites
comp_filter_holds_roll matched x sites = ap (λ (h : List Site → Bool). h sites) (fold-roll-CompFilter (List Site → Bool) (comp_step matched) x)

pub ranges_of_filter_roll : (x : CompFilter-F CompFilter) → ranges_of_filter (roll-CompFilter x)
    ≡ ranges_step (record { name = x.name; absent = x.absent; time = x.time; props = x.props; comps = map ranges_of_filter x.comps })
ranges_of_filter_roll = fold-roll-CompFilter (List Range) ranges_step

pub printed_roll : (x : Node-F Node) → printed (roll-Node x) ≡ print_step (record { name = x.name; lines = x.lines; children = map printed x.children })
printed_roll = fold-roll-Node (List ℕ) print_step

pub picked_roll : (x : Node-F Node) → picked (roll-Node x) ≡ pick_step (record { name = x.name; lines = x.lines; children = map picked x.children })
picked_roll = fold-roll-Node Picked pick_step

pub plain_roll : (x : Node-F Node) → plain (roll-Node x) ≡ plain_step (record { name = x.name; lines = x.lines; children = map plain x.children })
plain_roll = fold-roll-Node (List Node) plain_step

pub busy_limited_roll : (range : Range) (x : Node-F Node) → busy_limited range (roll-Node x) ≡ busy_step range (record { name = x.name; lines = x.lines; children = map (busy_limited range) x.children })
busy_limited_roll range = fold-roll-Node Node (busy_step range)

-- what a made component holds
pub name_of_roll : (x : Node-F Node) → name_of (roll-Node x) ≡ x.name
name_of_roll x = ap (λ (y : Node-F Node). y.name) (out-roll-Node x)

pub lines_of_roll : (x : Node-F Node) → lines_of (roll-Node x) ≡ x.lines
lines_of_roll x = ap (λ (y : Node-F Node). y.lines) (out-roll-Node x)

pub children_of_roll : (x : Node-F Node) → children_of (roll-Node x) ≡ x.children
children_of_roll x = ap (λ (y : Node-F Node). y.children) (out-roll-Node x)
