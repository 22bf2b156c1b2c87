-- What an element is read to lists no more than the element holds.
use Rattle.std.specs.Prelude.{◌≡◌, ℕ, ◌+◌, ◌*◌, ◌≤◌, Bool, true, false, not, ◌||◌, if◌then◌else◌, List, [], ◌∷◌, length, map, sum_by, filter, flat_map, slice_get, codes, Option, Some, None, option_map}
use Rattle.std.specs.List.{join_with_byte}
use Rattle.std.proofs.Common.{arith}
use Rattle.std.proofs.lemmas.List.{length-map}
use Rattle.std.proofs.lemmas.List.Sums.{sum_by-cons, sum_by-append}
use Rattle.cal_base.specs.Texts.Octets.{comma}
use Rattle.cal_base.specs.declared.element.Element.{Element}
use Rattle.cal_base.specs.Xml.XmlSizes.{element_size}
use Rattle.cal_model.specs.declared.property.PropSet.{PropSet}
use Rattle.cal_model.specs.declared.property.Props.TheVariants.{All as AllProps, Names as AllNames, Some as SomeProps}
use Rattle.cal_model.specs.declared.report.ReportRequest.{ReportRequest}
use Rattle.cal_model.specs.declared.report.ReportRequest.TheVariants.{Query, Multiget, FreeBusy}
use Rattle.cal_model.specs.declared.reply.Refusal.{Refusal}
use Rattle.cal_model.specs.declared.request.Content.{Content}
use Rattle.cal_model.specs.declared.request.Content.TheVariants.{Find, Patch, Make, Report, Bad}
use Rattle.cal_model.specs.Words.Namespaces.{dav, caldav}
use Rattle.cal_model.specs.Words.Lists.{is_empty}
use Rattle.cal_model.specs.Bodies.ElementParts.{children, has_name, named, first_named, own_text}
use Rattle.cal_model.specs.Bodies.PropertyBodies.{no_text, is_component_set, components_of, set_value, setting, removal, properties_of, is_set, settings_of, are_bad, is_instruction, instructions}
use Rattle.cal_model.specs.Bodies.Refusals.{bad_request, dav_refusal, caldav_refusal, Row, first_row}
use Rattle.cal_model.specs.Bodies.ElementParts.{only, name_of}
use Rattle.cal_model.specs.Bodies.AskedProperties.{property_name, is_props, asked_props, props_by, props_of}
use Rattle.cal_model.specs.Bodies.ReportBodies.{asked_data, selection_by, report_rows, report_unless, query_with, query_content, multiget_content, free_busy_with, free_busy_content, report_content}
use Rattle.cal_model.specs.Bodies.FilterElements.{comp_filter}
use Rattle.cal_model.specs.Bodies.RangeElements.{is_bad_range, stated}
use Rattle.cal_model.specs.Bodies.ContentSizes.{octets_in, values_size, names_asked, NamesFit, ReportFits, ContentFits, FindsFit, PatchesFit, MakesFit, ReportsFit}
use Rattle.cal_model.proofs.Bodies.ElementSizes.{attrs_size, sizes, children_size, filter_sizes, take_sizes, named_sizes, first_sizes, found_sizes, made_sizes, four_each, name_length, joined_length}

-- what is made of some elements, several of each
spread_sizes : {Y : Type 0} (measure : Y → ℕ) (make : Element → List Y) → ((element : Element) → sum_by measure (make element) ≤ element_size element) → (elements : List Element) → sum_by measure (flat_map make elements) ≤ sizes elements
spread_sizes measure make h [] = omega arith
spread_sizes measure make h (element ∷ elements) =
    omega (arith, sum_by-append measure (make element) (flat_map make elements), h element, spread_sizes measure make h elements, sum_by-cons element_size element elements)

pub count_sizes : (elements : List Element) → 4 * length elements ≤ sizes elements
count_sizes [] = omega arith
count_sizes (element ∷ elements) = omega (arith, children_size element, count_sizes elements, sum_by-cons element_size element elements)

inner_sizes : (element : Element) → sizes (children element) ≤ element_size element
inner_sizes element = omega (arith, children_size element)

-- Settings

value_size : PropSet → ℕ
value_size set = octets_in set.value

names_joined : (comps : List Element) → length (join_with_byte comma (map name_of comps)) ≤ sizes comps
names_joined comps =
    omega (
      arith,
      joined_length comma (map name_of comps),
      made_sizes (λ (text : List ℕ). 1 + length text) name_of (λ element. omega (arith, name_length element, children_size element)) comps,
    )

set_value-length : (property : Element) → 4 + length (set_value property) ≤ element_size property
set_value-length property = by_kind (is_component_set property)
  where
    by_test : (b : Bool) → 5 + length (own_text property) ≤ element_size property → 4 + length (if b then own_text property else no_text) ≤ element_size property
    by_test true h = omega (arith, h)
    by_test false h = omega (arith, h)

    by_children : (inner : List Element) → element_size property ≡ 4 + attrs_size property + sizes inner + length (own_text property) → 4 + length (if is_empty inner then own_text property else no_text) ≤ element_size property
    by_children [] h = omega (arith, h)
    by_children (one ∷ more) h = by_test (is_empty (one ∷ more)) (omega (arith, h, sum_by-cons element_size one more, children_size one))

    by_kind : (b : Bool) → 4 + length (if b then join_with_byte comma (map name_of (components_of property)) else (if is_empty (children property) then own_text property else no_text)) ≤ element_size property
    by_kind true = omega (arith, names_joined (components_of property), named_sizes caldav (codes "comp") property)
    by_kind false = by_children (children property) (children_size property)

settings_size : (instruction : Element) → sum_by (λ (set : PropSet). 4 + octets_in set.value) (settings_of instruction) ≤ element_size instruction
settings_size instruction = omega (arith, by_kind (is_set instruction), found_sizes children inner_sizes (first_named dav (codes "prop") instruction), first_sizes dav (codes "prop") instruction)
  where
    by_kind : (b : Bool) → sum_by (λ (set : PropSet). 4 + octets_in set.value) (map (if b then setting else removal) (properties_of instruction)) ≤ sizes (properties_of instruction)
    by_kind true = made_sizes (λ (set : PropSet). 4 + octets_in set.value) setting set_value-length (properties_of instruction)
    by_kind false = made_sizes (λ (set : PropSet). 4 + octets_in set.value) removal (λ element. omega (arith, children_size element)) (properties_of instruction)

all_settings : (those : List Element) → 4 * length (flat_map settings_of those) + values_size (flat_map settings_of those) ≤ sizes those
all_settings those =
    omega (arith, four_each (λ (set : PropSet). octets_in set.value) (flat_map settings_of those), spread_sizes (λ (set : PropSet). 4 + octets_in set.value) settings_of settings_size those)

unless_bad : (size : ℕ) (b : Bool) (content : Content) → ContentFits size content → ContentFits size (if b then Bad bad_request else content)
unless_bad size true content h = tt
unless_bad size false content h = h

pub patches_fit : PatchesFit
patches_fit root =
    unless_bad (element_size root) (not (has_name dav (codes "propertyupdate") root) || are_bad (instructions root)) (Patch (flat_map settings_of (instructions root)))
    (omega (arith, all_settings (instructions root), filter_sizes is_instruction (children root), inner_sizes root))

pub makes_fit : MakesFit
makes_fit root =
    let sets = first_named dav (codes "set") root in
    unless_bad (element_size root) (not (has_name caldav (codes "mkcalendar") root) || are_bad sets) (Make (flat_map settings_of sets))
    (omega (arith, all_settings sets, first_sizes dav (codes "set") root))

-- Names

names_fit : (asked : List Element) → 4 * length (names_asked (props_by asked)) ≤ sizes asked
names_fit [] = omega arith
names_fit (asked ∷ more) = by (has_name dav (codes "allprop") asked) (has_name dav (codes "propname") asked)
  where
    by : (all names : Bool) → 4 * length (names_asked (if all then AllProps else if names then AllNames else SomeProps (map property_name (children asked)))) ≤ sizes (asked ∷ more)
    by true names = omega arith
    by false true = omega arith
    by false false = omega (arith, length-map (children asked) property_name, count_sizes (children asked), children_size asked, sum_by-cons element_size asked more)

props_fit : (root : Element) → NamesFit (element_size root) (props_of root)
props_fit root = omega (arith, names_fit (asked_props root), take_sizes (filter is_props (children root)) 1, filter_sizes is_props (children root), inner_sizes root)

pub finds_fit : FindsFit
finds_fit deep root =
    unless_bad (element_size root) (not (has_name dav (codes "propfind") root) || is_empty (asked_props root)) (Find (props_of root) deep) (props_fit root)

-- Reports

zone_fits : (zones : List Element) → octets_in (option_map own_text (slice_get zones 0)) ≤ sizes zones
zone_fits [] = omega arith
zone_fits (zone ∷ more) = omega (arith, children_size zone, sum_by-cons element_size zone more)

hrefs_fit : (hrefs : List Element) → 4 * length (map own_text hrefs) + sum_by length (map own_text hrefs) ≤ sizes hrefs
hrefs_fit hrefs = omega (arith, four_each length (map own_text hrefs), made_sizes (λ (text : List ℕ). 4 + length text) own_text (λ element. omega (arith, children_size element)) hrefs)

report_unless-fits : (size : ℕ) (rows : List Row) (report : ReportRequest) → ReportFits size report → ContentFits size (report_unless rows report)
report_unless-fits size rows report h = by (first_row rows)
  where
    by : (found : Option Refusal) → ContentFits size (elim found [ None ↦ Report report | Some refusal ↦ Bad refusal ])
    by None = h
    by (Some refusal) = tt

query_fits : (root : Element) (tops : List Element) → ContentFits (element_size root) (query_with root tops)
query_fits root [] = tt
query_fits root (top ∷ more) =
    report_unless-fits (element_size root) (report_rows false (top ∷ []) (asked_data root))
    (Query (props_of root) (selection_by (asked_data root)) (record { top = comp_filter top }) (option_map own_text (slice_get (only (codes "timezone") root) 0)))
    (props_fit root, omega (arith, zone_fits (only (codes "timezone") root), first_sizes caldav (codes "timezone") root))

multiget_fits : (root : Element) → ContentFits (element_size root) (multiget_content root)
multiget_fits root =
    let hrefs = named dav (codes "href") root in
    report_unless-fits (element_size root) (report_rows (is_empty hrefs) [] (asked_data root)) (Multiget (props_of root) (selection_by (asked_data root)) (map own_text hrefs))
    (props_fit root, omega (arith, hrefs_fit hrefs, named_sizes dav (codes "href") root))

free_busy_fits : (size : ℕ) (ranges : List Element) → ContentFits size (free_busy_with ranges)
free_busy_fits size [] = tt
free_busy_fits size (range ∷ more) = report_unless-fits size ((is_bad_range range, caldav_refusal (codes "valid-filter")) ∷ []) (FreeBusy (stated range)) tt

pub reports_fit : ReportsFit
unfolding report_content
reports_fit root =
    by (has_name caldav (codes "calendar-query") root) (has_name caldav (codes "calendar-multiget") root) (has_name caldav (codes "free-busy-query") root)
  where
    by : (one two three : Bool) →
        ContentFits (element_size root) (if one then query_content root else if two then multiget_content root else if three then free_busy_content root else Bad (dav_refusal (codes "supported-report")))
    by true two three = query_fits root (flat_map (only (codes "comp-filter")) (only (codes "filter") root))
    by false true three = multiget_fits root
    by false false true = free_busy_fits (element_size root) (only (codes "time-range") root)
    by false false false = tt
