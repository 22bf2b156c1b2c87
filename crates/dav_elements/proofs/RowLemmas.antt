-- The first row that refuses a report, by what is wrong with its filter and its calendar-data.
use Rattle.std.proofs.Common.{◌≡◌, Bool, false, ◌||◌, List, [], ◌∷◌, refl, sym, ap, ◌∙◌}
use Rattle.std.specs.Prelude.{flat_map}
use Rattle.std.specs.List.{list_any}
use Rattle.std.proofs.lemmas.List.{append-nil}
use Rattle.cal_base.specs.declared.element.Element.{Element}
use Rattle.cal_model.specs.Bodies.Refusals.{first_row}
use Rattle.cal_model.specs.Bodies.RangeElements.{is_bad_range}
use Rattle.cal_model.specs.Bodies.FilterElements.{prop_filters, filter_texts, is_invalid_filter, is_unsupported_filter, has_nameless_filter, has_other_collation}
use Rattle.cal_model.specs.Bodies.DataElements.{data_ranges, has_both_limits, is_unsupported_data, has_nameless_pick}
use Rattle.cal_model.specs.Bodies.ReportBodies.{report_rows}
use Rattle.dav_elements.specs.declared.reports.DataFaults.{DataFaults}
use Rattle.dav_elements.specs.FilterFaults.{top_faults}
use Rattle.dav_elements.specs.Reasons.{refusal_by, data_faults}
use Rattle.dav_elements.proofs.AnyLemmas.{or_assoc, or_false}
use Rattle.dav_elements.proofs.FaultLemmas.{top_nameless, top_invalid, top_unsupported, top_collation}

bad_row : (nameless lacks pick limits : Bool) → nameless ≡ lacks → (nameless || (pick || limits)) ≡ (((lacks || false) || pick) || limits)
bad_row nameless lacks pick limits e =
    ap (λ b. b || (pick || limits)) (e ∙ sym (or_false lacks)) ∙ sym (or_assoc (lacks || false) pick limits)

pub query_rows : (top : Element) (selections : List Element) →
    let filter = top_faults top in
    let asked = data_faults selections in
    refusal_by (filter.nameless || asked.bad) (filter.invalid || asked.range) filter.unsupported filter.collation asked.unsupported ≡ first_row (report_rows false (top ∷ []) selections)
unfolding data_faults
query_rows top selections =
    let other = list_any is_unsupported_data selections in
    let range = list_any is_bad_range (flat_map data_ranges selections) in
    let bad = bad_row (top_faults top).nameless (has_nameless_filter top) (list_any has_nameless_pick selections) (list_any has_both_limits selections) (top_nameless top) in
    let invalid = ap (λ b. b || range) (top_invalid top ∙ sym (or_false (is_invalid_filter top))) in
    let unsupported = top_unsupported top ∙ ap (list_any is_unsupported_filter) (sym (append-nil (prop_filters top))) in
    let collation = top_collation top ∙ ap (list_any has_other_collation) (sym (append-nil (filter_texts top))) in
    λ i. refusal_by (bad i) (invalid i) (unsupported i) (collation i) other

pub multiget_rows : (lacks_part : Bool) (selections : List Element) →
    let asked = data_faults selections in
    refusal_by (lacks_part || asked.bad) asked.range false false asked.unsupported ≡ first_row (report_rows lacks_part [] selections)
unfolding data_faults
multiget_rows lacks_part selections =
    let bad = bad_row lacks_part lacks_part (list_any has_nameless_pick selections) (list_any has_both_limits selections) refl in
    λ i. refusal_by (bad i) (list_any is_bad_range (flat_map data_ranges selections)) false false (list_any is_unsupported_data selections)

-- what is wrong with the calendar-data that is asked for, if it is
abbrev data_by : List Element → DataFaults
data_by selections = record {
  bad = list_any has_nameless_pick selections || list_any has_both_limits selections;
  range = list_any is_bad_range (flat_map data_ranges selections);
  unsupported = list_any is_unsupported_data selections;
}

pub data_one : (element : Element) (selections : List Element) → (element ∷ []) ≡ selections
    → data_faults selections ≡ record { bad = has_nameless_pick element || has_both_limits element; range = list_any is_bad_range (data_ranges element); unsupported = is_unsupported_data element }
unfolding data_faults
data_one element selections one =
    ap data_by (sym one)
    ∙ (λ i. record {
      bad = or_false (has_nameless_pick element) i || or_false (has_both_limits element) i;
      range = list_any is_bad_range (append-nil (data_ranges element) i);
      unsupported = or_false (is_unsupported_data element) i;
    })

pub data_none : (selections : List Element) → [] ≡ selections → data_faults selections ≡ record { bad = false; range = false; unsupported = false }
unfolding data_faults
data_none selections none = ap data_by (sym none)
