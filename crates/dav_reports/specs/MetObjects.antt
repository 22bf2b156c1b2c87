-- The objects that a multiget has met (RFC 4791, 7.9): where the response of each stands in what was written, and what the others may cost.
use Rattle.std.specs.Prelude.{◌≡◌, ℕ, ◌≤◌, if◌then◌else◌, List, [], ◌++◌, length, map, sum, slice_range, Option, Some, is_some, option_map, unwrap_or}
use Rattle.cal_base.specs.Lists.NameMap.{Named, value_at}
use Rattle.cal_model.specs.declared.property.Props.{Props}
use Rattle.cal_model.specs.declared.property.Props.TheVariants.{None as NoProps}
use Rattle.cal_model.specs.declared.report.ReportRequest.TheVariants.{Multiget}
use Rattle.cal_model.specs.declared.selection.Selection.{Selection}
use Rattle.cal_model.specs.declared.zone.ZoneTable.{ZoneTable}
use Rattle.cal_model.specs.Properties.PropertyReplies.{status_response}
use Rattle.cal_model.specs.Serving.ReportReplies.{Reported, object_response}
use Rattle.dav_reports.specs.CalendarObjects.{OriginOf, entries_cost, entry_cost}
use Rattle.dav_reports.specs.PieceRows.{Held}
use Rattle.dav_reports.specs.declared.multiget.Place.{Place}

-- where responses stand, by the names of their objects
abbrev pub Met : Type 0
Met = Named Place

-- what stands at a place
abbrev pub text_at : List ℕ → Place → List ℕ
text_at written place = slice_range written place.begin place.end

-- the place of what is written behind the rest
abbrev pub place_behind : List ℕ → List ℕ → Place
place_behind written text = record { begin = length written; end = length (written ++ text) }

-- a place in so many octets
pub record IsWithin (size : ℕ) (place : Place) : Type 0 where
  pub in_order : place.begin ≤ place.end
  pub before_end : place.end ≤ size

abbrev pub AreWithin : Met → ℕ → Type 0
AreWithin met size = (name : List ℕ) (place : Place) → value_at met name ≡ Some place → IsWithin size place

-- the response of an object of a calendar, if it is there
abbrev pub response_at : Reported → Selection → ZoneTable → Props → List ℕ → Option (List ℕ)
response_at reported select zone props name = option_map (λ octets. object_response reported select zone props (name, octets)) (value_at reported.contents.objects name)

-- the response to an href that names an object so
abbrev pub named_response : Reported → Selection → ZoneTable → Props → List ℕ → List ℕ → List ℕ
named_response reported select zone props href name = unwrap_or (response_at reported select zone props name) (status_response href 404)

-- at the place of each object stands its response
abbrev pub AreResponses : Reported → Selection → ZoneTable → Props → Met → List ℕ → Type 0
AreResponses reported select zone props met written =
    (name : List ℕ) (place : Place) → value_at met name ≡ Some place → response_at reported select zone props name ≡ Some (text_at written place)

-- what a multiget costs that meets each object
abbrev pub multiget_cost : Held → Selection → OriginOf → Named (List ℕ) → ℕ
multiget_cost held select origin_of entries = entries_cost held (Multiget NoProps select []) origin_of entries

-- what one more object costs: nothing where it was met
abbrev pub cost_unless_met : Held → Selection → OriginOf → Met → List ℕ × List ℕ → ℕ
cost_unless_met held select origin_of met entry = if is_some (value_at met entry.0) then 0 else entry_cost held (Multiget NoProps select []) origin_of entry

abbrev pub unmet_cost : Held → Selection → OriginOf → Met → Named (List ℕ) → ℕ
unmet_cost held select origin_of met entries = sum (map (cost_unless_met held select origin_of met) entries)
