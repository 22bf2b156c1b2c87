-- The rows that a query looks at tell as much of its filter and its selection as all rows of an object.
use Rattle.std.proofs.Common.{◌≡◌, ℕ, List, [], ◌++◌, sym, ap, ◌∙◌, subst}
use Rattle.std.specs.Prelude.{All, None, filter}
use Rattle.cal_model.specs.declared.filter.Filter.{Filter}
use Rattle.cal_model.specs.declared.object.Object.{Object}
use Rattle.cal_model.specs.declared.property.Props.TheVariants.{None as NoProps}
use Rattle.cal_model.specs.declared.report.ReportRequest.{ReportRequest}
use Rattle.cal_model.specs.declared.report.ReportRequest.TheVariants.{Multiget, Query}
use Rattle.cal_model.specs.declared.row.Range.{Range}
use Rattle.cal_model.specs.declared.row.Row.{Row}
use Rattle.cal_model.specs.declared.selection.Selection.{Selection}
use Rattle.cal_model.specs.declared.zone.ZoneTable.{ZoneTable}
use Rattle.cal_model.specs.Filters.Matching.{matches, matches_object}
use Rattle.cal_model.specs.Instances.Rows.{rows}
use Rattle.cal_model.specs.Ranges.Nearness.{HasShortOffsets}
use Rattle.cal_model.specs.Reports.NamedRanges.{ranges_named, ranges_of_filter, ranges_of_selection}
use Rattle.cal_model.specs.Reports.NeededWindows.{counts, stated_windows}
use Rattle.cal_model.specs.Selections.ShownData.{shown, shown_of_object}
use Rattle.cal_model.proofs.Instances.ServedStarts.{is_stated-row}
use Rattle.cal_model.proofs.Objects.ObjectFactLaws.{IsReadObject-read}
use Rattle.cal_model.proofs.Objects.ObjectNearness.{HasNearRows-read}
use Rattle.cal_model.proofs.Reports.ReportLaws.{is_looked_at, matches-looked_at, names-multiget, names-query, shown-looked_at}
use Rattle.cal_model.proofs.Ranges.WindowLaws.{Contains-unfilter}
use Rattle.expand_limit.specs.InstanceLines.{IsShownRow}
use Rattle.expand_limit.proofs.ShownRows.{shown_rows}
use Rattle.overlap_rules.specs.Bounds.{IsNearRow}
use Rattle.dav_reports.specs.NeededRows.{rows_needed}
use Rattle.dav_reports.specs.PieceRows.{IsKept}
use Rattle.dav_reports.proofs.LookedRows.{looked_near, looked_rows, rows_looked_at}

pub record TellsAll (octets : List ℕ) (object : Object) (some : List Row) (select : Selection) (wanted : Filter) (zone : ZoneTable) : Type 0 where
  pub near : All IsNearRow some
  pub can_be_shown : All IsShownRow some
  pub shows : shown octets object some select zone ≡ shown_of_object octets object select zone
  pub matching : matches wanted object some zone ≡ matches_object wanted object zone

-- the rows that were found are those that a report looks at
found_rows : (object : Object) (some : List Row) (ranges : List Range) (report : ReportRequest) → IsKept object → ranges ≡ ranges_named report → some ≡ rows_needed object ranges → some ≡ rows_looked_at object report
found_rows object some ranges report kept named are = are ∙ ap (rows_needed object) named ∙ looked_rows object report kept

rows_shown : (object : Object) (some : List Row) (report : ReportRequest) → IsKept object → some ≡ rows_looked_at object report → All IsShownRow some
rows_shown object some report kept looked =
    subst (All IsShownRow) (sym looked) (shown_rows object (rows_looked_at object report) kept.read (λ row c. (Contains-unfilter (is_looked_at object report) row (rows object) c).1))

pub query_rows : (octets : List ℕ) (object : Object) (some : List Row) (ranges : List Range) (select : Selection) (wanted : Filter) (zone : ZoneTable) → IsKept object → HasShortOffsets zone
    → ranges ≡ ranges_of_selection select ++ ranges_of_filter wanted.top → some ≡ rows_needed object ranges → TellsAll octets object some select wanted zone
query_rows octets object some ranges select wanted zone kept short named are =
    let report : ReportRequest = Query NoProps select wanted None in
    let near = HasNearRows-read object kept.read in
    let stated = is_stated-row object (IsReadObject-read object kept.read) in
    let looked = found_rows object some ranges report kept named are in
    record {
      near = subst (All IsNearRow) (sym are) (looked_near object (filter (counts object ranges) stated_windows) kept);
      can_be_shown = rows_shown object some report kept looked;
      shows = ap (λ rs. shown octets object rs select zone) looked ∙ shown-looked_at report select (names-query NoProps select wanted None) octets object zone near short (IsReadObject-read object kept.read).one_master stated;
      matching = ap (λ rs. matches wanted object rs zone) looked ∙ matches-looked_at NoProps select wanted None object zone near short stated;
    }

-- The same of a multiget, which has no filter

pub record ShowsAll (octets : List ℕ) (object : Object) (some : List Row) (select : Selection) (zone : ZoneTable) : Type 0 where
  pub can_be_shown : All IsShownRow some
  pub shows : shown octets object some select zone ≡ shown_of_object octets object select zone

pub multiget_rows : (octets : List ℕ) (object : Object) (some : List Row) (ranges : List Range) (select : Selection) (zone : ZoneTable) → IsKept object → HasShortOffsets zone
    → ranges ≡ ranges_of_selection select → some ≡ rows_needed object ranges → ShowsAll octets object some select zone
multiget_rows octets object some ranges select zone kept short named are =
    let report : ReportRequest = Multiget NoProps select [] in
    let looked = found_rows object some ranges report kept named are in
    record {
      can_be_shown = rows_shown object some report kept looked;
      shows =
          ap (λ rs. shown octets object rs select zone) looked
          ∙ shown-looked_at report select (names-multiget NoProps select []) octets object zone (HasNearRows-read object kept.read) short (IsReadObject-read object kept.read).one_master (is_stated-row object (IsReadObject-read object kept.read));
    }
