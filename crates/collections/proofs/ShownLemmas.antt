-- A calendar as looks share it, and the calendars of a home, behind a change of one of them.
use Rattle.std.proofs.Common.{◌≡◌, ℕ, List, Option, Some, None, refl, sym, ap, ◌∙◌, subst, inl, inr}
use Rattle.std.proofs.lemmas.Cmp.{nat_list_cmp_total}
use Rattle.std.proofs.lemmas.Map.Steps.{set_value_same}
use Rattle.cal_base.specs.Lists.NameMap.{Named, value_at, with_value, with_changed, without}
use Rattle.cal_model.specs.declared.privilege.Grant.{Grant}
use Rattle.cal_model.specs.declared.store.CalendarData.{CalendarData}
use Rattle.cal_model.proofs.State.OrderLaws.{sorted-insert, sorted-remove}
use Rattle.object_walk.specs.declared.entry.ObjectEntry.{ObjectEntry}
use Rattle.collections.specs.declared.home.KeptHome.{KeptHome}
use Rattle.collections.specs.KeptCalendars.{KeptCalendar}
use Rattle.collections.specs.Calendars.{kept_with, IsShownCalendar}
use Rattle.collections.specs.Following.{in_calendars}
use Rattle.collections.specs.Homes.{in_calendar}
use Rattle.collections.proofs.NamedLemmas.{same_or_not, value_at_with_same, value_at_with_other, value_at_without_same, value_at_without_other}
use Rattle.collections.proofs.CalendarLemmas.{placed_put, placed_left}
use Rattle.collections.proofs.HomesLemmas.{as_in_calendar}

same_value : {X : Type 0} (o : Option X) (x y : X) → o ≡ Some x → o ≡ Some y → x ≡ y
same_value o x y a b = cc

-- A calendar

module _ (name : List ℕ) (kept : CalendarData) (by_name : Named ObjectEntry) (calendar : IsShownCalendar name kept by_name) where
  -- with an object put
  named_put : (entry : ObjectEntry) (n : List ℕ) (e : ObjectEntry) → value_at (with_value by_name entry.stored.path.object entry) n ≡ Some e → e.stored.path.object ≡ n
  named_put entry n e at =
      let key = entry.stored.path.object in
      elim (same_or_not n key) [
        | inl same ↦
            ap (λ (o : ObjectEntry). o.stored.path.object) (same_value _ e entry (subst (λ m. value_at (with_value by_name key entry) m ≡ Some e) same at) (value_at_with_same by_name key entry)) ∙ sym same
        | inr other ↦ calendar.named n e (sym (value_at_with_other by_name key entry n other) ∙ at)
      ]

  pub IsShownCalendar-put : (entry : ObjectEntry) → entry.stored.path.home ≡ kept.owner → entry.stored.path.calendar ≡ name
      → IsShownCalendar name kept (with_value by_name entry.stored.path.object entry)
  IsShownCalendar-put entry home_is calendar_is = record {
    zone = calendar.zone;
    set = calendar.set;
    in_order = calendar.in_order;
    names_in_order = sorted-insert nat_list_cmp_total by_name entry.stored.path.object entry calendar.names_in_order;
    named = named_put entry;
    placed = placed_put kept.owner name by_name entry calendar.placed home_is calendar_is;
  }

  -- without an object
  left : (object n : List ℕ) (e : ObjectEntry) → value_at (without by_name object) n ≡ Some e → value_at by_name n ≡ Some e
  left object n e at = elim (same_or_not n object) [
    | inl same ↦
        let gone = value_at_without_same by_name object calendar.names_in_order in
        let there : value_at (without by_name object) object ≡ Some e = subst (λ m. value_at (without by_name object) m ≡ Some e) same at in absurd cc
    | inr other ↦ sym (value_at_without_other by_name object n calendar.names_in_order other) ∙ at
  ]

  pub IsShownCalendar-without : (object : List ℕ) → IsShownCalendar name kept (without by_name object)
  IsShownCalendar-without object = record {
    zone = calendar.zone;
    set = calendar.set;
    in_order = calendar.in_order;
    names_in_order = sorted-remove nat_list_cmp_total _ by_name calendar.names_in_order;
    named = λ n e at. calendar.named n e (left object n e at);
    placed = placed_left kept.owner name by_name object calendar.names_in_order calendar.placed;
  }

  -- with other grants
  pub IsShownCalendar-granted : (grants : List Grant) (new : CalendarData) → new ≡ record kept { acl = record { grants = grants } } → IsShownCalendar name new by_name
  IsShownCalendar-granted grants new is = subst (λ (k : CalendarData). IsShownCalendar name k by_name) (sym is) (record {
    zone = calendar.zone;
    set = calendar.set;
    in_order = calendar.in_order;
    names_in_order = calendar.names_in_order;
    named = calendar.named;
    placed = calendar.placed;
  })

pub granted_shown : (name : List ℕ) (kept : CalendarData) (by_name : Named ObjectEntry) (shown : KeptCalendar) → kept_with name kept by_name ≡ shown → (grants : List Grant) (new : CalendarData)
    → new ≡ record kept { acl = record { grants = grants } } → kept_with name new by_name ≡ record shown { grants = grants }
granted_shown name kept by_name shown is grants new e =
    subst (λ (k : KeptCalendar). kept_with name new by_name ≡ record k { grants = grants }) is (ap (λ (k : CalendarData). kept_with name k by_name) e)

-- The calendars of a home

module _ (calendars : Named KeptCalendar) (name : List ℕ) (change : KeptCalendar → KeptCalendar) where
  abbrev calendars_with : Option KeptCalendar → Named KeptCalendar
  calendars_with None = calendars
  calendars_with (Some kept) = with_changed calendars name (change kept)

  as_in_calendars : (found : Option KeptCalendar) → value_at calendars name ≡ found → in_calendars name change calendars ≡ calendars_with found
  as_in_calendars found is = rw (is, in_calendars) (by found) where
    by : (o : Option KeptCalendar) → (elim o [ None ↦ calendars | Some kept ↦ with_changed calendars name (change kept) ]) ≡ calendars_with o
    by None = refl
    by (Some kept) = refl

  pub in_calendars_some : (kept kept' : KeptCalendar) → value_at calendars name ≡ Some kept → kept' ≡ change kept → with_changed calendars name kept' ≡ in_calendars name change calendars
  in_calendars_some kept kept' is e = ap (with_changed calendars name) e ∙ sym (as_in_calendars (Some kept) is)

  pub in_calendars_none : value_at calendars name ≡ None → calendars ≡ in_calendars name change calendars
  in_calendars_none is = sym (as_in_calendars None is)

-- a calendar that is written back as it was
pub same_calendars : (calendars : Named KeptCalendar) (name : List ℕ) (kept kept' : KeptCalendar) → value_at calendars name ≡ Some kept → kept' ≡ kept → with_changed calendars name kept' ≡ calendars
same_calendars calendars name kept kept' there is = ap (with_changed calendars name) is ∙ set_value_same _ calendars kept there

-- in a home
pub home_of_calendars : (home : KeptHome) (name : List ℕ) (change : KeptCalendar → KeptCalendar)
    → ◌≡◌ {A = KeptHome} (record { accepted = home.accepted; calendars = in_calendars name change home.calendars }) (in_calendar name change home)
home_of_calendars home name change = by (value_at home.calendars name) refl where
  by : (found : Option KeptCalendar) → value_at home.calendars name ≡ found
      → ◌≡◌ {A = KeptHome} (record { accepted = home.accepted; calendars = in_calendars name change home.calendars }) (in_calendar name change home)
  by None is = ap {B = KeptHome} (λ (calendars : Named KeptCalendar). record { accepted = home.accepted; calendars = calendars }) (as_in_calendars home.calendars name change None is) ∙ sym (as_in_calendar home name change None is)
  by (Some kept) is = ap {B = KeptHome} (λ (calendars : Named KeptCalendar). record { accepted = home.accepted; calendars = calendars }) (as_in_calendars home.calendars name change (Some kept) is) ∙ sym (as_in_calendar home name change (Some kept) is)
