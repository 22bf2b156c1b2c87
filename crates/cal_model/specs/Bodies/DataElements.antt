-- What calendar-data asks for (RFC 4791, 9.6): the components and properties that are picked, and the ranges to which an object is expanded or cut.
-- Given: a calendar-data among the properties of a report. Gives: the selection that it states, and the tests by which it is refused.
use Rattle.std.specs.Prelude.{ℕ, zero, suc, Bool, false, ◌&&◌, ◌||◌, List, [], ◌∷◌, ◌++◌, map, flat_map, slice_get, codes, None, option_map}
use Rattle.std.specs.List.{list_any}
use Rattle.cal_base.specs.declared.element.Element.{Element}
use Rattle.cal_base.specs.Xml.XmlFaults.{greatest_depth}
use Rattle.cal_model.specs.declared.selection.PropPick.{PropPick}
use Rattle.cal_model.specs.declared.selection.CompPick.{CompPick}
use Rattle.cal_model.specs.declared.selection.CompPick.TheViews.{roll-CompPick}
use Rattle.cal_model.specs.declared.selection.Recur.{Recur}
use Rattle.cal_model.specs.declared.selection.Recur.TheVariants.{Whole, Expand, Limit}
use Rattle.cal_model.specs.declared.selection.Selection.{Selection}
use Rattle.cal_model.specs.Bodies.ElementParts.{nested, lacks_name, name_of, says, says_other, each, only, has}
use Rattle.cal_model.specs.Bodies.RangeElements.{stated}

-- a property that is kept, perhaps without its value (9.6.4)
abbrev pub prop_pick : Element → PropPick
prop_pick pick = record { name = name_of pick; no_value = says (codes "novalue") (codes "yes") pick }

-- a component that is kept, and what of it (9.6.1), to a depth that no body reaches
abbrev pub comp_pick_to : ℕ → Element → CompPick
comp_pick_to zero pick = roll-CompPick (record { name = []; all_props = false; props = []; all_comps = false; comps = [] })
comp_pick_to (suc depth) pick = roll-CompPick (record {
  name = name_of pick;
  all_props = has (codes "allprop") pick;
  props = map prop_pick (each (codes "prop") pick);
  all_comps = has (codes "allcomp") pick;
  comps = map (comp_pick_to depth) (each (codes "comp") pick);
})

abbrev pub comp_pick : Element → CompPick
comp_pick pick = comp_pick_to greatest_depth pick

-- all such components within a calendar-data, at any depth
abbrev pub picks : Element → List Element
picks element = flat_map (nested (each (codes "comp"))) (only (codes "comp") element)

-- a component or a property without a name
abbrev pub has_nameless_pick : Element → Bool
has_nameless_pick element = list_any lacks_name (picks element ++ flat_map (each (codes "prop")) (picks element))

-- expansion (9.6.5), a limit (9.6.6), or neither; no request that is taken has both
abbrev pub recur_of : List Element → List Element → Recur
recur_of [] [] = Whole
recur_of [] (limit ∷ more) = Limit (stated limit)
recur_of (expand ∷ more) limits = Expand (stated expand)

-- what it asks for in all
abbrev pub selection_of : Element → Selection
selection_of element = record {
  comp = option_map comp_pick (slice_get (only (codes "comp") element) 0);
  recur = recur_of (only (codes "expand") element) (only (codes "limit-recurrence-set") element);
  busy = option_map stated (slice_get (only (codes "limit-freebusy-set") element) 0);
}

-- the ranges in it
abbrev pub data_ranges : Element → List Element
data_ranges element = only (codes "expand") element ++ only (codes "limit-recurrence-set") element ++ only (codes "limit-freebusy-set") element

-- it asks for both (9.6.5)
abbrev pub has_both_limits : Element → Bool
has_both_limits element = has (codes "expand") element && has (codes "limit-recurrence-set") element

-- another type or version than those that are stored (9.6)
abbrev pub is_unsupported_data : Element → Bool
is_unsupported_data element = says_other (codes "content-type") (codes "text/calendar") element || says_other (codes "version") (codes "2.0") element

-- everything, as stored
abbrev pub all_data : Selection
all_data = record { comp = None; recur = Whole; busy = None }
