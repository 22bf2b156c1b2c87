-- The homes after a change of one of them: which are there, what holds of each, and which objects they have.
use Rattle.std.proofs.Common.{◌≡◌, ◌≢◌, ℕ, zero, suc, ◌+◌, ◌<◌, ◌≤◌, false, List, [], ◌∷◌, length, get_or, Option, Some, None, refl, sym, ap, ◌∙◌, subst, inl, inr}
use Rattle.std.specs.Prelude.{slice_get, slice_set, option_map, option_and_then}
use Rattle.std.proofs.lemmas.Bool.{cases_eq, ltb-false}
use Rattle.std.proofs.Math.Dec.{ltb}
use Rattle.std.proofs.lemmas.Cmp.{nat_list_cmp_total}
use Rattle.std.proofs.lemmas.Map.{keys-set_value}
use Rattle.std.proofs.lemmas.Option.{slice_get-get_or, slice_get_past}
use Rattle.std.specs.List.Sorted.{IsStrictlySortedBy}
use Rattle.cal_base.specs.Lists.NameMap.{name_order, IsInOrder, value_at, with_value, with_changed, without}
use Rattle.cal_model.specs.Words.Limits.{home_limit, change_cost}
use Rattle.cal_model.proofs.State.OrderLaws.{sorted-insert, sorted-remove}
use Rattle.collections.specs.declared.home.KeptHome.{KeptHome}
use Rattle.collections.specs.KeptCalendars.{KeptCalendar}
use Rattle.collections.specs.Kept.{kept_calendar}
use Rattle.collections.specs.Homes.{in_calendar, in_home, with_calendar, without_calendar, charged, IsHome, AreHomes}
use Rattle.collections.proofs.NamedLemmas.{same_or_not, value_at_with_same, value_at_with_other, value_at_without_same, value_at_without_other, value_at_changed_same, value_at_changed_other}

-- Places

get_set_same : {X : Type 0} (xs : List X) (n : ℕ) (x old : X) → slice_get xs n ≡ Some old → slice_get (slice_set xs n x) n ≡ Some x
get_set_same [] n x old e = absurd cc
get_set_same (y ∷ ys) zero x old e = refl
get_set_same (y ∷ ys) (suc n) x old e = get_set_same ys n x old e

get_set_other : {X : Type 0} (xs : List X) (n m : ℕ) (x : X) → m ≢ n → slice_get (slice_set xs n x) m ≡ slice_get xs m
get_set_other [] n m x other = refl
get_set_other (y ∷ ys) zero zero x other = absurd (other refl)
get_set_other (y ∷ ys) zero (suc m) x other = refl
get_set_other (y ∷ ys) (suc n) zero x other = refl
get_set_other (y ∷ ys) (suc n) (suc m) x other = get_set_other ys n m x (λ e. other (ap suc e))

module _ (homes : List KeptHome) (number : ℕ) (change : KeptHome → KeptHome) where
  abbrev homes_with : Option KeptHome → List KeptHome
  homes_with None = homes
  homes_with (Some home) = slice_set homes number (change home)

  as_in_home : (found : Option KeptHome) → slice_get homes number ≡ found → in_home number change homes ≡ homes_with found
  as_in_home found is = rw (is, in_home) (by found) where
    by : (o : Option KeptHome) → (elim o [ None ↦ homes | Some home ↦ slice_set homes number (change home) ]) ≡ homes_with o
    by None = refl
    by (Some home) = refl

  pub in_home_some : (home : KeptHome) → slice_get homes number ≡ Some home → in_home number change homes ≡ slice_set homes number (change home)
  in_home_some home is = as_in_home (Some home) is

  pub in_home_none : slice_get homes number ≡ None → in_home number change homes ≡ homes
  in_home_none is = as_in_home None is

  get_by : (found : Option KeptHome) → slice_get homes number ≡ found → slice_get (homes_with found) number ≡ option_map change found
  get_by None is = is
  get_by (Some home) is = get_set_same homes number (change home) home is

  get_same : slice_get (in_home number change homes) number ≡ option_map change (slice_get homes number)
  get_same = ap (λ hs. slice_get hs number) (as_in_home (slice_get homes number) refl) ∙ get_by (slice_get homes number) refl

  other_by : (found : Option KeptHome) (m : ℕ) → m ≢ number → slice_get (homes_with found) m ≡ slice_get homes m
  other_by None m other = refl
  other_by (Some home) m other = get_set_other homes number m (change home) other

  get_other : (m : ℕ) → m ≢ number → slice_get (in_home number change homes) m ≡ slice_get homes m
  get_other m other = ap (λ hs. slice_get hs m) (as_in_home (slice_get homes number) refl) ∙ other_by (slice_get homes number) m other

  -- what holds of each home
  holds_by : (found : Option KeptHome) → slice_get homes number ≡ found → ((home : KeptHome) → slice_get homes number ≡ Some home → IsHome number home → IsHome number (change home)) → AreHomes homes
      → (home : KeptHome) → option_map change found ≡ Some home → IsHome number home
  holds_by None is keeps all home e = absurd cc
  holds_by (Some old) is keeps all home e = let same : change old ≡ home = cc in subst (IsHome number) same (keeps old is (all number old is))

  pub AreHomes-in_home : ((home : KeptHome) → slice_get homes number ≡ Some home → IsHome number home → IsHome number (change home)) → AreHomes homes → AreHomes (in_home number change homes)
  AreHomes-in_home keeps all m home at = elim (cases_eq m number) [
    | inl same ↦
        subst (λ n. IsHome n home) (sym same) (holds_by (slice_get homes number) refl keeps all home (sym get_same ∙ subst (λ n. slice_get (in_home number change homes) n ≡ Some home) same at))
    | inr other ↦ all m home (sym (get_other m other) ∙ at)
  ]

  -- its calendars
  pub kept_calendar_same : (name : List ℕ) → kept_calendar (in_home number change homes) number name ≡ option_and_then (λ (h : KeptHome). value_at (change h).calendars name) (slice_get homes number)
  kept_calendar_same name = ap (option_and_then (λ (h : KeptHome). value_at h.calendars name)) get_same ∙ twice (slice_get homes number) where
    twice : (o : Option KeptHome) → option_and_then (λ (h : KeptHome). value_at h.calendars name) (option_map change o) ≡ option_and_then (λ (h : KeptHome). value_at (change h).calendars name) o
    twice None = refl
    twice (Some h) = refl

  pub kept_calendar_other : (m : ℕ) (name : List ℕ) → m ≢ number → kept_calendar (in_home number change homes) m name ≡ kept_calendar homes m name
  kept_calendar_other m name other = ap (option_and_then (λ (h : KeptHome). value_at h.calendars name)) (get_other m other)

-- A calendar that is changed

module _ (home : KeptHome) (name : List ℕ) (change : KeptCalendar → KeptCalendar) where
  abbrev home_with : Option KeptCalendar → KeptHome
  home_with None = home
  home_with (Some kept) = record { accepted = home.accepted; calendars = with_changed home.calendars name (change kept) }

  pub as_in_calendar : (found : Option KeptCalendar) → value_at home.calendars name ≡ found → in_calendar name change home ≡ home_with found
  as_in_calendar found is = rw (is, in_calendar) (by found) where
    by : (o : Option KeptCalendar) → (elim o [ None ↦ home | Some kept ↦ record home { calendars = with_changed home.calendars name (change kept) } ]) ≡ home_with o
    by None = refl
    by (Some kept) = refl

  value_by : (found : Option KeptCalendar) → value_at home.calendars name ≡ found → value_at (home_with found).calendars name ≡ option_map change found
  value_by None is = is
  value_by (Some kept) is = value_at_changed_same home.calendars name (change kept) kept is

  pub value_in_same : value_at (in_calendar name change home).calendars name ≡ option_map change (value_at home.calendars name)
  value_in_same = ap (λ (h : KeptHome). value_at h.calendars name) (as_in_calendar (value_at home.calendars name) refl) ∙ value_by (value_at home.calendars name) refl

  apart_by : (found : Option KeptCalendar) (other_name : List ℕ) → value_at home.calendars name ≡ found → other_name ≢ name → value_at (home_with found).calendars other_name ≡ value_at home.calendars other_name
  apart_by None other_name is other = refl
  apart_by (Some kept) other_name is other = value_at_changed_other home.calendars name (change kept) kept other_name is other

  pub value_in_other : (other_name : List ℕ) → other_name ≢ name → value_at (in_calendar name change home).calendars other_name ≡ value_at home.calendars other_name
  value_in_other other_name other =
      ap (λ (h : KeptHome). value_at h.calendars other_name) (as_in_calendar (value_at home.calendars name) refl) ∙ apart_by (value_at home.calendars name) other_name refl other

  order_by : (found : Option KeptCalendar) → IsInOrder home.calendars → IsInOrder (home_with found).calendars
  order_by None in_order = in_order
  order_by (Some kept) in_order = subst (IsStrictlySortedBy name_order) (sym (keys-set_value _ home.calendars (change kept))) in_order

  accepted_by : (found : Option KeptCalendar) → (home_with found).accepted ≡ home.accepted
  accepted_by None = refl
  accepted_by (Some kept) = refl

  pub accepted_in : (in_calendar name change home).accepted ≡ home.accepted
  accepted_in = ap (λ (h : KeptHome). h.accepted) (as_in_calendar (value_at home.calendars name) refl) ∙ accepted_by (value_at home.calendars name)

  -- it is still a home, where calendars keep their place
  placed_by : (number : ℕ) → ((kept : KeptCalendar) → ((change kept).home ≡ kept.home) × ((change kept).name ≡ kept.name)) → IsHome number home
      → (found : Option KeptCalendar) → value_at home.calendars name ≡ found → (kept : KeptCalendar) → option_map change found ≡ Some kept → (kept.home ≡ number) × (kept.name ≡ name)
  placed_by number same is None found kept e = absurd cc
  placed_by number same is (Some old) found kept e =
      let now : change old ≡ kept = cc in
      let before = is.placed name old found in
      subst (λ (k : KeptCalendar). (k.home ≡ number) × (k.name ≡ name)) now ((same old).0 ∙ before.0, (same old).1 ∙ before.1)

  pub IsHome-in_calendar : (number : ℕ) → ((kept : KeptCalendar) → ((change kept).home ≡ kept.home) × ((change kept).name ≡ kept.name)) → IsHome number home → IsHome number (in_calendar name change home)
  IsHome-in_calendar number same is = record {
    within = subst (λ n. n ≤ home_limit) (sym accepted_in) is.within;
    in_order = subst (λ (h : KeptHome). IsInOrder h.calendars) (sym (as_in_calendar (value_at home.calendars name) refl)) (order_by (value_at home.calendars name) is.in_order);
    placed = λ other kept at. elim (same_or_not other name) [
      | inl here ↦
          subst (λ n. (kept.home ≡ number) × (kept.name ≡ n)) (sym here)
          (placed_by number same is (value_at home.calendars name) refl kept (sym value_in_same ∙ subst (λ n. value_at (in_calendar name change home).calendars n ≡ Some kept) here at))
      | inr apart ↦ is.placed other kept (sym (value_in_other other apart) ∙ at)
    ];
  }

-- more that is accepted
pub IsHome-charged : (number size : ℕ) (home : KeptHome) → home.accepted + change_cost size ≤ home_limit → IsHome number home → IsHome number (charged size home)
IsHome-charged number size home room is = record { within = room; in_order = is.in_order; placed = is.placed }

-- a calendar that is made
pub IsHome-with : (number : ℕ) (home : KeptHome) (name : List ℕ) (kept : KeptCalendar) → kept.home ≡ number → kept.name ≡ name → IsHome number home → IsHome number (with_calendar name kept home)
IsHome-with number home name kept home_is name_is is = record {
  within = is.within;
  in_order = sorted-insert nat_list_cmp_total home.calendars name kept is.in_order;
  placed = λ other found at. elim (same_or_not other name) [
    | inl here ↦
        let now = value_at_with_same home.calendars name kept in
        let there : value_at (with_value home.calendars name kept) name ≡ Some found = subst (λ n. value_at (with_value home.calendars name kept) n ≡ Some found) here at in
        let one : kept ≡ found = cc in
        subst (λ (k : KeptCalendar). (k.home ≡ number) × (k.name ≡ other)) one (home_is, name_is ∙ sym here)
    | inr apart ↦ is.placed other found (sym (value_at_with_other home.calendars name kept other apart) ∙ at)
  ];
}

-- one that is deleted
pub IsHome-without : (number : ℕ) (home : KeptHome) (name : List ℕ) → IsHome number home → IsHome number (without_calendar name home)
IsHome-without number home name is = record {
  within = is.within;
  in_order = sorted-remove nat_list_cmp_total _ home.calendars is.in_order;
  placed = λ other found at. elim (same_or_not other name) [
    | inl here ↦
        let gone = value_at_without_same home.calendars name is.in_order in
        let there : value_at (without home.calendars name) name ≡ Some found = subst (λ n. value_at (without home.calendars name) n ≡ Some found) here at in absurd cc
    | inr apart ↦ is.placed other found (sym (value_at_without_other home.calendars name other is.in_order apart) ∙ at)
  ];
}

-- The home that is lent

pub home_lent : (homes : List KeptHome) (number : ℕ) (home : KeptHome) → number < length homes → home ≡ get_or homes number home → slice_get homes number ≡ Some home
home_lent homes number home within is = slice_get-get_or homes number home within ∙ ap Some (sym is)

pub calendar_none : (homes : List KeptHome) (number : ℕ) (name : List ℕ) → slice_get homes number ≡ None → kept_calendar homes number name ≡ None
calendar_none homes number name none = ap (option_and_then (λ (h : KeptHome). value_at h.calendars name)) none

pub calendar_some : (homes : List KeptHome) (number : ℕ) (name : List ℕ) (home : KeptHome) → slice_get homes number ≡ Some home → kept_calendar homes number name ≡ value_at home.calendars name
calendar_some homes number name home some = ap (option_and_then (λ (h : KeptHome). value_at h.calendars name)) some

pub home_not_lent : (homes : List KeptHome) (number : ℕ) → ltb number (length homes) ≡ false → slice_get homes number ≡ None
home_not_lent homes number past = slice_get_past homes number (ltb-false number (length homes) past)
