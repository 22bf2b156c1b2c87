-- What is wrong with a filter, gone over once: each kind of fault is a test of all elements of a kind, and here all kinds are tested side by side.
use Rattle.std.specs.Prelude.{ℕ, zero, suc, false, not, ◌&&◌, ◌||◌, List, [], ◌∷◌, bytes_eq, codes}
use Rattle.std.specs.List.{list_any}
use Rattle.cal_base.specs.declared.element.Element.{Element}
use Rattle.cal_base.specs.Xml.XmlFaults.{greatest_depth}
use Rattle.cal_model.specs.Bodies.ElementParts.{lacks_name, name_of, each, only}
use Rattle.cal_model.specs.Bodies.RangeElements.{is_bad_range}
use Rattle.cal_model.specs.Bodies.FilterElements.{has_other_collation, is_crowded_comp, is_crowded_prop, is_crowded_param, has_range_without_time, is_unsupported_filter, is_time, prop_tests}
use Rattle.dav_elements.specs.declared.filter_faults.FilterFaults.{FilterFaults}

abbrev pub no_fault : FilterFaults
no_fault = record { nameless = false; invalid = false; unsupported = false; collation = false }

abbrev pub either : FilterFaults → FilterFaults → FilterFaults
either one other = record {
  nameless = one.nameless || other.nameless;
  invalid = one.invalid || other.invalid;
  unsupported = one.unsupported || other.unsupported;
  collation = one.collation || other.collation;
}

-- what is wrong with some of these
abbrev pub each_fault : (Element → FilterFaults) → List Element → FilterFaults
each_fault faults [] = no_fault
each_fault faults (element ∷ more) = either (faults element) (each_fault faults more)

-- of a param-filter
unfoldable pub param_faults : Element → FilterFaults
param_faults filter = record {
  nameless = lacks_name filter;
  invalid = is_crowded_param filter;
  unsupported = false;
  collation = list_any has_other_collation (only (codes "text-match") filter);
}

-- of a prop-filter and all within it
abbrev pub own_prop_faults : Element → FilterFaults
own_prop_faults filter = record { nameless = lacks_name filter; invalid = is_crowded_prop filter; unsupported = false; collation = false }

unfoldable pub prop_test_faults : Element → FilterFaults
prop_test_faults filter = record {
  nameless = false;
  invalid = list_any (λ test. is_time test && is_bad_range test) (prop_tests filter);
  unsupported = is_unsupported_filter filter;
  collation = list_any (λ test. not (is_time test) && has_other_collation test) (prop_tests filter);
}

abbrev pub prop_faults : Element → FilterFaults
prop_faults filter = either (own_prop_faults filter) (either (prop_test_faults filter) (each_fault param_faults (each (codes "param-filter") filter)))

-- of a comp-filter and all within it, to a depth
unfoldable pub own_comp_faults : Element → FilterFaults
own_comp_faults filter = record {
  nameless = lacks_name filter;
  invalid = list_any is_bad_range (only (codes "time-range") filter) || has_range_without_time filter || is_crowded_comp filter;
  unsupported = false;
  collation = false;
}

abbrev pub comp_faults_to : ℕ → Element → FilterFaults
comp_faults_to zero filter = no_fault
comp_faults_to (suc depth) filter =
    either (own_comp_faults filter)
    (either (each_fault prop_faults (each (codes "prop-filter") filter)) (each_fault (comp_faults_to depth) (each (codes "comp-filter") filter)))

-- of an outermost one
abbrev pub top_faults : Element → FilterFaults
top_faults top = record (comp_faults_to greatest_depth top) { invalid = not (bytes_eq (name_of top) (codes "VCALENDAR")) || (comp_faults_to greatest_depth top).invalid }
