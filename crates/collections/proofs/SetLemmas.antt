-- A calendar whose properties are set: it is kept as before, and contracts see the settings carried out.
use Rattle.std.proofs.Common.{◌≡◌, ℕ, List, Option, Some, None, refl, sym, ap, ◌∙◌, subst}
use Rattle.std.specs.Prelude.{option_map, unwrap_or}
use Rattle.std.specs.List.Sorted.{IsStrictlySortedBy}
use Rattle.std.specs.Map.{keys_of}
use Rattle.cal_base.specs.Lists.NameMap.{Named}
use Rattle.cal_model.specs.declared.property.PropSet.{PropSet}
use Rattle.cal_model.specs.declared.store.CalendarData.{CalendarData}
use Rattle.cal_model.specs.State.PropertyTexts.{Texts, prop_order, as_settings}
use Rattle.cal_model.specs.State.ServerState.{own_zone}
use Rattle.cal_model.specs.Properties.Settings.{texts_after_all, kinds_after_all}
use Rattle.object_walk.specs.declared.entry.ObjectEntry.{ObjectEntry}
use Rattle.collections.specs.KeptCalendars.{KeptCalendar}
use Rattle.collections.specs.Calendars.{kept_with, IsShownCalendar}
use Rattle.collections.specs.Objects.{ArePlaced}
use Rattle.collections.specs.Settings.{texts_of, last_zone, zone_set, HasSet}
use Rattle.collections.proofs.SettingLemmas.{texts_of-as_settings, in_order-after_all, own_zone-unset, own_zone-set}

module _ (name : List ℕ) (kept : CalendarData) (by_name : Named ObjectEntry) (calendar : IsShownCalendar name kept by_name) (sets : List PropSet) (new : CalendarData) (done : HasSet kept sets new) where
  abbrev after : Texts
  after = texts_after_all (texts_of kept.texts) sets

  new_is : new.texts ≡ as_settings after
  new_is = done.texts (texts_of kept.texts) calendar.in_order calendar.set

  texts_are : texts_of new.texts ≡ after
  texts_are = ap texts_of new_is ∙ texts_of-as_settings after

  zone_by : (found : Option PropSet) → last_zone sets ≡ found → unwrap_or (option_map zone_set found) kept.zone ≡ own_zone after
  zone_by None none = calendar.zone ∙ sym (own_zone-unset sets (texts_of kept.texts) calendar.in_order none)
  zone_by (Some set) some = sym (own_zone-set sets (texts_of kept.texts) set calendar.in_order some)

  pub set_calendar : IsShownCalendar name new by_name
  set_calendar = record {
    zone = done.zone ∙ (zone_by (last_zone sets) refl ∙ ap own_zone (sym texts_are));
    set = new_is ∙ ap as_settings (sym texts_are);
    in_order = subst (λ texts. IsStrictlySortedBy prop_order (keys_of texts)) (sym texts_are) (in_order-after_all sets (texts_of kept.texts) calendar.in_order);
    names_in_order = calendar.names_in_order;
    named = calendar.named;
    placed = subst (λ owner. ArePlaced owner name by_name) (sym done.owner) calendar.placed;
  }

  pub set_shown : (shown : KeptCalendar) → kept_with name kept by_name ≡ shown → kept_with name new by_name ≡ record shown { texts = texts_after_all shown.texts sets; kinds = kinds_after_all shown.kinds sets }
  set_shown shown is =
      subst (λ (k : KeptCalendar). kept_with name new by_name ≡ record k { texts = texts_after_all k.texts sets; kinds = kinds_after_all k.kinds sets }) is
      (λ i. record (kept_with name kept by_name) { home = done.owner i; grants = (done.acl i).grants; texts = texts_are i; kinds = done.kinds i })
