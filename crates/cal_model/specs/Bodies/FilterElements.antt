-- The filter of a calendar-query (RFC 4791, 9.7): the filter that an outermost comp-filter states, and the tests by which it is refused.
-- Given: a comp-filter. A test looks at all elements of a kind within it, at any depth; of elements that are expected once the first counts, and the others are not looked at.
use Rattle.std.specs.Prelude.{ℕ, zero, suc, Bool, true, false, not, ◌&&◌, ◌||◌, if◌then◌else◌, List, [], ◌∷◌, ◌++◌, map, filter, flat_map, take, slice_get, bytes_eq, codes, None, option_map}
use Rattle.std.specs.List.{list_any}
use Rattle.cal_base.specs.declared.element.Element.{Element}
use Rattle.cal_base.specs.Xml.XmlFaults.{greatest_depth}
use Rattle.cal_model.specs.declared.filter.Collation.TheVariants.{AsciiCasemap, Octet}
use Rattle.cal_model.specs.declared.filter.TextMatch.{TextMatch}
use Rattle.cal_model.specs.declared.filter.ParamTest.{ParamTest}
use Rattle.cal_model.specs.declared.filter.ParamTest.TheVariants.{Absent as NoParam, Defined as SomeParam, Text as ParamText}
use Rattle.cal_model.specs.declared.filter.ParamFilter.{ParamFilter}
use Rattle.cal_model.specs.declared.filter.PropTest.{PropTest}
use Rattle.cal_model.specs.declared.filter.PropTest.TheVariants.{Absent as NoProp, Defined as SomeProp, Time, Text as PropText}
use Rattle.cal_model.specs.declared.filter.PropFilter.{PropFilter}
use Rattle.cal_model.specs.declared.filter.CompFilter.{CompFilter}
use Rattle.cal_model.specs.declared.filter.CompFilter.TheViews.{roll-CompFilter}
use Rattle.cal_model.specs.Words.Namespaces.{caldav}
use Rattle.cal_model.specs.Bodies.ElementParts.{children, has_name, own_text, nested, lacks_name, name_of, says, says_other, each, only, has}
use Rattle.cal_model.specs.Bodies.RangeElements.{is_bad_range, stated}

-- Text matches (9.7.5)

-- i;octet; where no collation is named, i;ascii-casemap is meant (7.5.1)
abbrev pub is_octet : Element → Bool
is_octet element = says (codes "collation") (codes "i;octet") element

-- neither of the two
abbrev pub has_other_collation : Element → Bool
has_other_collation element = says_other (codes "collation") (codes "i;ascii-casemap") element && not (is_octet element)

abbrev pub text_match : Element → TextMatch
text_match element = record {
  text = own_text element;
  collation = if is_octet element then Octet else AsciiCasemap;
  negate = says (codes "negate-condition") (codes "yes") element;
}

-- Filters of parameters (9.7.3)

-- it asks that there is none (9.7.4)
abbrev pub is_absent : Element → Bool
is_absent filter = has (codes "is-not-defined") filter

abbrev pub param_test : Bool → List Element → ParamTest
param_test true texts = NoParam
param_test false [] = SomeParam
param_test false (text ∷ more) = ParamText (text_match text)

abbrev pub param_filter : Element → ParamFilter
param_filter filter = record { name = name_of filter; test = param_test (is_absent filter) (only (codes "text-match") filter) }

-- Filters of properties (9.7.2): of a time-range and a text-match the first counts

abbrev pub is_prop_test : Element → Bool
is_prop_test element = has_name caldav (codes "time-range") element || has_name caldav (codes "text-match") element

abbrev pub prop_tests : Element → List Element
prop_tests element = take 1 (filter is_prop_test (children element))

abbrev pub is_time : Element → Bool
is_time test = has_name caldav (codes "time-range") test

abbrev pub prop_test : Bool → List Element → PropTest
prop_test true tests = NoProp
prop_test false [] = SomeProp
prop_test false (test ∷ more) = if is_time test then Time (stated test) else PropText (text_match test)

abbrev pub prop_filter : Element → PropFilter
prop_filter filter = record {
  name = name_of filter;
  test = prop_test (is_absent filter) (prop_tests filter);
  params = map param_filter (each (codes "param-filter") filter);
}

-- Filters of components (9.7.1)

-- a filter to a depth that no body reaches
abbrev pub comp_filter_to : ℕ → Element → CompFilter
comp_filter_to zero filter = roll-CompFilter (record { name = []; absent = false; time = None; props = []; comps = [] })
comp_filter_to (suc depth) filter = roll-CompFilter (record {
  name = name_of filter;
  absent = is_absent filter;
  time = option_map stated (slice_get (only (codes "time-range") filter) 0);
  props = map prop_filter (each (codes "prop-filter") filter);
  comps = map (comp_filter_to depth) (each (codes "comp-filter") filter);
})

abbrev pub comp_filter : Element → CompFilter
comp_filter filter = comp_filter_to greatest_depth filter

-- all filters within an outermost comp-filter
abbrev pub comp_filters : Element → List Element
comp_filters top = nested (each (codes "comp-filter")) top

abbrev pub prop_filters : Element → List Element
prop_filters top = flat_map (each (codes "prop-filter")) (comp_filters top)

abbrev pub param_filters : Element → List Element
param_filters top = flat_map (each (codes "param-filter")) (prop_filters top)

-- the ranges and the text matches in them
abbrev pub filter_ranges : Element → List Element
filter_ranges top =
    flat_map (only (codes "time-range")) (comp_filters top) ++ filter is_time (flat_map prop_tests (prop_filters top))

abbrev pub filter_texts : Element → List Element
filter_texts top =
    filter (λ test. not (is_time test)) (flat_map prop_tests (prop_filters top)) ++ flat_map (only (codes "text-match")) (param_filters top)

-- Refusals

-- components that have a time (9.9), and properties that have a date
abbrev pub ranged_components : List (List ℕ)
ranged_components = codes "VEVENT" ∷ codes "VTODO" ∷ codes "VJOURNAL" ∷ codes "VFREEBUSY" ∷ codes "VALARM" ∷ []

abbrev pub dated_properties : List (List ℕ)
dated_properties =
    codes "COMPLETED" ∷ codes "CREATED" ∷ codes "DTEND" ∷ codes "DTSTAMP" ∷ codes "DTSTART" ∷ codes "DUE" ∷ codes "LAST-MODIFIED" ∷ []

abbrev pub is_named_in : List (List ℕ) → Element → Bool
is_named_in names element = list_any (bytes_eq (name_of element)) names

-- is-not-defined stands beside another test
abbrev pub is_crowded_comp : Element → Bool
is_crowded_comp filter = is_absent filter && (has (codes "time-range") filter || has (codes "prop-filter") filter || has (codes "comp-filter") filter)

abbrev pub is_crowded_prop : Element → Bool
is_crowded_prop filter = is_absent filter && (has (codes "time-range") filter || has (codes "text-match") filter || has (codes "param-filter") filter)

abbrev pub is_crowded_param : Element → Bool
is_crowded_param filter = is_absent filter && has (codes "text-match") filter

-- a range on a component without a time
abbrev pub has_range_without_time : Element → Bool
has_range_without_time filter = has (codes "time-range") filter && not (is_named_in ranged_components filter)

-- what makes a filter invalid (7.8, C:valid-filter)
abbrev pub is_invalid_filter : Element → Bool
is_invalid_filter top =
    not (bytes_eq (name_of top) (codes "VCALENDAR"))
    || list_any is_bad_range (filter_ranges top)
    || list_any has_range_without_time (comp_filters top)
    || list_any is_crowded_comp (comp_filters top)
    || list_any is_crowded_prop (prop_filters top)
    || list_any is_crowded_param (param_filters top)

-- a range on a property that has no date
abbrev pub is_unsupported_filter : Element → Bool
is_unsupported_filter filter = list_any is_time (prop_tests filter) && not (is_named_in dated_properties filter)

-- some filter without a name
abbrev pub has_nameless_filter : Element → Bool
has_nameless_filter top = list_any lacks_name (comp_filters top ++ prop_filters top ++ param_filters top)
