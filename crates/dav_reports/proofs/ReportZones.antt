-- The zone in which a report reads floating times: its own, else that of its calendar, else UTC.
use Rattle.std.proofs.Common.{◌≡◌, ℕ, List, Option, Some, sym, ap, ◌∙◌, subst}
use Rattle.std.specs.Prelude.{unwrap_or}
use Rattle.cal_base.specs.Lines.ComponentTrees.{or_else}
use Rattle.cal_model.specs.declared.store.CalendarData.{CalendarData}
use Rattle.cal_model.specs.declared.zone.ZoneTable.{ZoneTable}
use Rattle.cal_model.specs.Instances.Alignment.{utc_zone}
use Rattle.cal_model.specs.Reports.FloatingZone.{floating_zone}
use Rattle.cal_model.specs.State.PropertyTexts.{Texts}
use Rattle.cal_model.specs.State.ServerState.{Calendar, ServerState, calendar_at, own_zone}
use Rattle.cal_model.specs.State.StoredData.{data_at}
use Rattle.cal_model.specs.TimeZones.TableBounds.{IsTable}
use Rattle.dav_reports.specs.ReportOutcomes.{zone_of_text}
use Rattle.dav_reports.proofs.CalendarZones.{data_known, own_or_table}
use Rattle.dav_reports.proofs.ReportLemmas.{or_else-or, text_or_table}

-- what was chosen is the zone in which floating times are read
pub zone_chosen : (state : ServerState) (home : ℕ) (name : List ℕ) (c : Calendar) (found : CalendarData) (own : Option ZoneTable) (other zone : ZoneTable) → data_at state home name ≡ Some found → calendar_at state home name ≡ Some c
    → zone ≡ unwrap_or (or_else own found.zone) other → other ≡ utc_zone → zone ≡ floating_zone own (own_zone c.texts)
zone_chosen state home name c found own other zone e there is utc =
    let known = data_known state home name found e in
    let same : known.0 ≡ c = ap (λ o. unwrap_or o c) (sym known.1 ∙ there) in
    is ∙ ap (unwrap_or (or_else own found.zone)) utc
    ∙ ap (λ (d : CalendarData). unwrap_or (or_else own d.zone) utc_zone) known.2
    ∙ ap (λ (x : Calendar). unwrap_or (or_else own (own_zone x.texts)) utc_zone) same

-- and it can be converted to
pub table_chosen : (text : Option (List ℕ)) (texts : Texts) (own : Option ZoneTable) (zone : ZoneTable) → own ≡ zone_of_text text → zone ≡ floating_zone own (own_zone texts) → IsTable utc_zone → IsTable zone
table_chosen text texts own zone own_is is utc =
    subst IsTable
    (sym (is ∙ or_else-or own (own_zone texts) utc_zone ∙ ap (λ (o : Option ZoneTable). unwrap_or o (unwrap_or (own_zone texts) utc_zone)) own_is))
    (text_or_table text (unwrap_or (own_zone texts) utc_zone) (own_or_table texts utc_zone utc))
