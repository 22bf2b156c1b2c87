-- What a change of what is kept makes of the state that it stands for.
use Rattle.std.proofs.Common.{◌≡◌, ℕ, zero, suc, cond, List, [], ◌∷◌, map, Option, Some, None, refl, sym, ap, ◌∙◌}
use Rattle.std.specs.Prelude.{slice_get, slice_set, option_map, option_and_then}
use Rattle.std.specs.List.{AllByRecursion}
use Rattle.std.specs.List.Sorted.{IsStrictlySortedBy}
use Rattle.std.specs.Map.{keys_of}
use Rattle.std.specs.declared.cmp.Ordering.{Ordering}
use Rattle.std.specs.declared.cmp.Ordering.TheVariants.{Less, Equal, Greater}
use Rattle.std.specs.Ordering.{match_ordering, is_eq}
use Rattle.std.proofs.lemmas.Cmp.{nat_list_cmp_total}
use Rattle.std.proofs.lemmas.Option.{slice_get-map}
use Rattle.cal_base.specs.Lists.NameMap.{Named, name_order, IsInOrder, value_at, with_value, with_changed}
use Rattle.cal_model.specs.State.ServerState.{Calendar, Home, ServerState, home_at, calendar_at, octets_at, with_home, with_calendar as state_with_calendar}
use Rattle.cal_model.specs.Users.UsersFile.{Users}
use Rattle.collections.specs.declared.home.KeptHome.{KeptHome}
use Rattle.collections.specs.KeptCalendars.{KeptObject, KeptCalendar, each_value, calendar_of}
use Rattle.collections.specs.Kept.{home_of, state_of, kept_calendar, kept_object}
use Rattle.collections.specs.Homes.{in_calendar, in_home}
use Rattle.collections.proofs.NamedLemmas.{absent_below, value_at-each, with_value-each}

-- Look-ups

pub home_shown : (users : Users) (homes : List KeptHome) (number : ℕ) → home_at (state_of (record { users = users; homes = homes })) number ≡ option_map home_of (slice_get homes number)
home_shown users homes number = slice_get-map home_of homes number

calendar_in : (found : Option KeptHome) (name : List ℕ) → option_and_then (λ (h : Home). value_at h.calendars name) (option_map home_of found) ≡ option_map calendar_of (option_and_then (λ (h : KeptHome). value_at h.calendars name) found)
calendar_in None name = refl
calendar_in (Some home) name = value_at-each calendar_of home.calendars name

pub calendar_shown : (users : Users) (homes : List KeptHome) (number : ℕ) (name : List ℕ) → calendar_at (state_of (record { users = users; homes = homes })) number name ≡ option_map calendar_of (kept_calendar homes number name)
calendar_shown users homes number name =
    ap (option_and_then (λ (h : Home). value_at h.calendars name)) (home_shown users homes number) ∙ calendar_in (slice_get homes number) name

octets_in : (found : Option KeptCalendar) (name : List ℕ) → option_and_then (λ (c : Calendar). value_at c.objects name) (option_map calendar_of found) ≡ option_map (λ (object : KeptObject). object.octets) (option_and_then (λ (c : KeptCalendar). value_at c.objects name) found)
octets_in None name = refl
octets_in (Some kept) name = value_at-each (λ (object : KeptObject). object.octets) kept.objects name

pub octets_shown : (users : Users) (homes : List KeptHome) (number : ℕ) (calendar name : List ℕ)
    → octets_at (state_of (record { users = users; homes = homes })) number calendar name ≡ option_map (λ (object : KeptObject). object.octets) (kept_object homes number calendar name)
octets_shown users homes number calendar name =
    ap (option_and_then (λ (c : Calendar). value_at c.objects name)) (calendar_shown users homes number calendar) ∙ octets_in (kept_calendar homes number calendar) name

-- A home that is changed

map-set : {X Y : Type 0} (f : X → Y) (xs : List X) (n : ℕ) (x : X) → map f (slice_set xs n x) ≡ slice_set (map f xs) n (f x)
map-set f [] n x = refl
map-set f (y ∷ ys) zero x = refl
map-set f (y ∷ ys) (suc n) x = ap (λ rest. f y ∷ rest) (map-set f ys n x)

module _ (users : Users) (homes : List KeptHome) (number : ℕ) (change : KeptHome → KeptHome) (made : Home → Home) where
  abbrev with_found : Option Home → ServerState
  with_found None = state_of (record { users = users; homes = homes })
  with_found (Some home) = record { homes = slice_set (map home_of homes) number (made home) }

  abbrev changed_homes : Option KeptHome → List KeptHome
  changed_homes None = homes
  changed_homes (Some home) = slice_set homes number (change home)

  in_by : (found : Option KeptHome) → ((home : KeptHome) → found ≡ Some home → home_of (change home) ≡ made (home_of home))
      → ◌≡◌ {A = ServerState} (record { homes = map home_of (changed_homes found) }) (with_found (option_map home_of found))
  in_by None same = refl
  in_by (Some home) same = ap {B = ServerState} (λ hs. record { homes = hs }) (map-set home_of homes number (change home) ∙ ap (slice_set (map home_of homes) number) (same home refl))

  as_with_home : (found : Option Home) → home_at (state_of (record { users = users; homes = homes })) number ≡ found → with_found found ≡ with_home (state_of (record { users = users; homes = homes })) number made
  as_with_home found is = rw (is, with_home) (by found) where
    by : (o : Option Home) → with_found o ≡ (elim o [ None ↦ state_of (record { users = users; homes = homes }) | Some home ↦ record { homes = slice_set (map home_of homes) number (made home) } ])
    by None = refl
    by (Some home) = refl

  as_in_home : (found : Option KeptHome) → slice_get homes number ≡ found → changed_homes found ≡ in_home number change homes
  as_in_home found is = rw (is, in_home) (by found) where
    by : (o : Option KeptHome) → changed_homes o ≡ (elim o [ None ↦ homes | Some home ↦ slice_set homes number (change home) ])
    by None = refl
    by (Some home) = refl

  pub state_of-in_home : ((home : KeptHome) → slice_get homes number ≡ Some home → home_of (change home) ≡ made (home_of home))
      → state_of (record { users = users; homes = in_home number change homes }) ≡ with_home (state_of (record { users = users; homes = homes })) number made
  state_of-in_home same =
      ap {B = ServerState} (λ hs. record { homes = map home_of hs }) (sym (as_in_home (slice_get homes number) refl))
      ∙ (in_by (slice_get homes number) same ∙ as_with_home (option_map home_of (slice_get homes number)) (home_shown users homes number))

-- A calendar that is changed

still_below : (name key : List ℕ) (keys : List (List ℕ)) → name_order name key ≡ Less → AllByRecursion (λ other. name_order key other ≡ Less) keys → AllByRecursion (λ other. name_order name other ≡ Less) keys
still_below name key [] is all = tt
still_below name key (other ∷ keys) is all = (nat_list_cmp_total.trans name key other is all.0, still_below name key keys is all.1)

module _ {V : Type 0} (name : List ℕ) (value old : V) where
  changed_by : (entry : List ℕ × V) (named : Named V) (o : Ordering) → name_order name entry.0 ≡ o → AllByRecursion (λ key. name_order entry.0 key ≡ Less) (keys_of named)
      → cond (is_eq o) (Some entry.1) (value_at named name) ≡ Some old → (value_at named name ≡ Some old → with_changed named name value ≡ with_value named name value)
      → cond (is_eq o) ((entry.0, value) ∷ named) (entry ∷ with_changed named name value) ≡ match_ordering o ((name, value) ∷ entry ∷ named) ((entry.0, value) ∷ named) (entry ∷ with_value named name value)
  changed_by entry named Less is above there later = let gone = absent_below named name (still_below name entry.0 (keys_of named) is above) in absurd cc
  changed_by entry named Equal is above there later = refl
  changed_by entry named Greater is above there later = ap (λ rest. entry ∷ rest) (later there)

  -- writing over a value that is there is writing it
  pub changed_is_with : (named : Named V) → IsInOrder named → value_at named name ≡ Some old → with_changed named name value ≡ with_value named name value
  unfolding IsStrictlySortedBy
  changed_is_with [] in_order there = absurd cc
  changed_is_with (entry ∷ named) in_order there = changed_by entry named (name_order name entry.0) refl in_order.0 there (changed_is_with named in_order.1)

module _ (home : KeptHome) (name : List ℕ) (change : KeptCalendar → KeptCalendar) (made : Calendar → Calendar) (same : (kept : KeptCalendar) → calendar_of (change kept) ≡ made (calendar_of kept)) (in_order : IsInOrder home.calendars) where
  abbrev changed_home : Option KeptCalendar → KeptHome
  changed_home None = home
  changed_home (Some kept) = record { accepted = home.accepted; calendars = with_changed home.calendars name (change kept) }

  abbrev made_home : Option Calendar → Home
  made_home None = home_of home
  made_home (Some calendar) = record { accepted = home.accepted; calendars = with_value (each_value calendar_of home.calendars) name (made calendar) }

  calendar_by : (found : Option KeptCalendar) → value_at home.calendars name ≡ found → home_of (changed_home found) ≡ made_home (option_map calendar_of found)
  calendar_by None is = refl
  calendar_by (Some kept) is =
      ap {B = Home} (λ calendars. record { accepted = home.accepted; calendars = calendars })
      (ap (each_value calendar_of) (changed_is_with name (change kept) kept home.calendars in_order is)
      ∙ (with_value-each calendar_of home.calendars name (change kept) ∙ ap (with_value (each_value calendar_of home.calendars) name) (same kept)))

  as_in_calendar : (found : Option KeptCalendar) → value_at home.calendars name ≡ found → changed_home found ≡ in_calendar name change home
  as_in_calendar found is = rw (is, in_calendar) (by found) where
    by : (o : Option KeptCalendar) → changed_home o ≡ (elim o [ None ↦ home | Some kept ↦ record home { calendars = with_changed home.calendars name (change kept) } ])
    by None = refl
    by (Some kept) = refl

  as_with_calendar : (found : Option Calendar) → value_at (home_of home).calendars name ≡ found → made_home found ≡ state_with_calendar name made (home_of home)
  as_with_calendar found is = rw (is, state_with_calendar) (by found) where
    by : (o : Option Calendar) → made_home o ≡ (elim o [ None ↦ home_of home | Some calendar ↦ record (home_of home) { calendars = with_value (home_of home).calendars name (made calendar) } ])
    by None = refl
    by (Some calendar) = refl

  pub home_of-in_calendar : home_of (in_calendar name change home) ≡ state_with_calendar name made (home_of home)
  home_of-in_calendar =
      ap home_of (sym (as_in_calendar (value_at home.calendars name) refl))
      ∙ (calendar_by (value_at home.calendars name) refl ∙ as_with_calendar (option_map calendar_of (value_at home.calendars name)) (value_at-each calendar_of home.calendars name))
