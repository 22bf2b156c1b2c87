-- What a store shows of what it keeps: calendars, objects and their origins, and the next ones.
use Rattle.std.proofs.Common.{◌≡◌, ℕ, ◌≤◌, List, [], Option, Some, None, refl, sym, ap, ◌∙◌, subst, append-nil}
use Rattle.std.specs.Prelude.{flat_map, length, slice_get, option_map, option_and_then, option_to_list, IfSome, IsSome}
use Rattle.std.specs.Option.{option_map_or}
use Rattle.std.proofs.lemmas.List.{length-map}
use Rattle.cal_base.specs.Lists.NameMap.{value_at, next_above}
use Rattle.cal_model.specs.declared.store.CalendarData.{CalendarData}
use Rattle.cal_model.specs.Words.Limits.{home_limit}
use Rattle.cal_model.specs.State.ServerState.{Calendar, Home, home_at, calendar_at, octets_at}
use Rattle.cal_model.specs.State.StoredData.{data_of, data_at, next_calendar, next_object}
use Rattle.object_walk.specs.WalkedObjects.{objects_at}
use Rattle.collections.specs.declared.home.KeptHome.{KeptHome}
use Rattle.collections.specs.KeptCalendars.{KeptObject, KeptCalendar, calendar_of}
use Rattle.collections.specs.Kept.{Kept, home_of, state_of, origins_of, kept_calendar, kept_object}
use Rattle.collections.specs.Homes.{AreHomes}
use Rattle.collections.specs.Stores.{IsStore, HaveOrigins}
use Rattle.collections.specs.UidHolders.{with_uid, uid_holder_at, IsAloneWith, IsAloneWithAt}
use Rattle.collections.proofs.NamedLemmas.{value_at-each, next_above-each, next_found}
use Rattle.collections.proofs.StateLemmas.{home_shown, calendar_shown, octets_shown}

-- a calendar that is kept is in its home under its name
pub kept_placed : (homes : List KeptHome) (number : ℕ) (name : List ℕ) (c : KeptCalendar) → AreHomes homes → kept_calendar homes number name ≡ Some c → (c.home ≡ number) × (c.name ≡ name)
kept_placed homes number name c are at = by (slice_get homes number) refl at where
  by : (o : Option KeptHome) → slice_get homes number ≡ o → option_and_then (λ (h : KeptHome). value_at h.calendars name) o ≡ Some c → (c.home ≡ number) × (c.name ≡ name)
  by None is e = absurd cc
  by (Some home) is e = (are number home is).placed name c e

module _ (kept : Kept) (store : IsStore kept) (number : ℕ) where
  data_by : (found : Option KeptHome) (name : List ℕ) → option_and_then (λ (h : Home). option_map (data_of number) (value_at h.calendars name)) (option_map home_of found)
      ≡ option_map (λ c. data_of number (calendar_of c)) (option_and_then (λ (h : KeptHome). value_at h.calendars name) found)
  data_by None name = refl
  data_by (Some home) name = ap (option_map (data_of number)) (value_at-each calendar_of home.calendars name) ∙ twice (value_at home.calendars name) where
    twice : (o : Option KeptCalendar) → option_map (data_of number) (option_map calendar_of o) ≡ option_map (λ c. data_of number (calendar_of c)) o
    twice None = refl
    twice (Some c) = refl

  data_shown : (name : List ℕ) → data_at (state_of kept) number name ≡ option_map (λ c. data_of number (calendar_of c)) (kept_calendar kept.homes number name)
  data_shown name = ap (option_and_then (λ (h : Home). option_map (data_of number) (value_at h.calendars name))) (home_shown kept.users kept.homes number) ∙ data_by (slice_get kept.homes number) name

  pub data_some : (name : List ℕ) (c : KeptCalendar) → kept_calendar kept.homes number name ≡ Some c → Some (data_of c.home (calendar_of c)) ≡ data_at (state_of kept) number name
  data_some name c at =
      ap (λ n. Some (data_of n (calendar_of c))) (kept_placed kept.homes number name c store.homes at).0 ∙ sym (data_shown name ∙ ap (option_map (λ k. data_of number (calendar_of k))) at)

  pub data_none : (name : List ℕ) → kept_calendar kept.homes number name ≡ None → None ≡ data_at (state_of kept) number name
  data_none name at = sym (data_shown name ∙ ap (option_map (λ k. data_of number (calendar_of k))) at)

  -- the next calendar
  abbrev shown_state : List ℕ × Calendar → List ℕ × CalendarData
  shown_state entry = (entry.0, data_of number entry.1)

  abbrev shown_kept : List ℕ × KeptCalendar → List ℕ × CalendarData
  shown_kept entry = (entry.0, data_of number (calendar_of entry.1))

  twice_shown : (o : Option (List ℕ × KeptCalendar)) → option_map shown_state (option_map (λ (entry : List ℕ × KeptCalendar). (entry.0, calendar_of entry.1)) o) ≡ option_map shown_kept o
  twice_shown None = refl
  twice_shown (Some entry) = refl

  next_by : (found : Option KeptHome) (name : List ℕ) → option_and_then (λ (h : Home). option_map shown_state (next_above h.calendars name)) (option_map home_of found)
      ≡ option_map shown_kept (option_and_then (λ (h : KeptHome). next_above h.calendars name) found)
  next_by None name = refl
  next_by (Some home) name = ap (option_map shown_state) (next_above-each calendar_of home.calendars name) ∙ twice_shown (next_above home.calendars name)

  abbrev next_kept : List ℕ → Option (List ℕ × KeptCalendar)
  next_kept name = option_and_then (λ (h : KeptHome). next_above h.calendars name) (slice_get kept.homes number)

  next_calendar_shown : (name : List ℕ) → next_calendar (state_of kept) number name ≡ option_map shown_kept (next_kept name)
  next_calendar_shown name =
      ap (option_and_then (λ (h : Home). option_map shown_state (next_above h.calendars name))) (home_shown kept.users kept.homes number) ∙ next_by (slice_get kept.homes number) name

  next_home : (found : Option KeptHome) (name key : List ℕ) (c : KeptCalendar) → slice_get kept.homes number ≡ found → option_and_then (λ (h : KeptHome). next_above h.calendars name) found ≡ Some (key, c) → c.home ≡ number
  next_home None name key c is e = absurd cc
  next_home (Some home) name key c is e =
      let here = store.homes number home is in
      (here.placed key c (next_found home.calendars name key c here.in_order e)).0

  pub next_calendar_some : (name key : List ℕ) (c : KeptCalendar) → next_kept name ≡ Some (key, c) → Some (key, data_of c.home (calendar_of c)) ≡ next_calendar (state_of kept) number name
  next_calendar_some name key c at =
      ap (λ n. Some (key, data_of n (calendar_of c))) (next_home (slice_get kept.homes number) name key c refl at)
      ∙ sym (next_calendar_shown name ∙ ap (option_map shown_kept) at)

  pub next_calendar_none : (name : List ℕ) → next_kept name ≡ None → None ≡ next_calendar (state_of kept) number name
  next_calendar_none name at = sym (next_calendar_shown name ∙ ap (option_map shown_kept) at)

  -- objects
  pub octets_some : (calendar name : List ℕ) (c : KeptCalendar) → kept_calendar kept.homes number calendar ≡ Some c → option_map (λ (o : KeptObject). o.octets) (value_at c.objects name) ≡ octets_at (state_of kept) number calendar name
  octets_some calendar name c at =
      sym (octets_shown kept.users kept.homes number calendar name ∙ ap (λ found. option_map (λ (o : KeptObject). o.octets) (option_and_then (λ (k : KeptCalendar). value_at k.objects name) found)) at)

  pub octets_none : (calendar name : List ℕ) → kept_calendar kept.homes number calendar ≡ None → None ≡ octets_at (state_of kept) number calendar name
  octets_none calendar name at =
      sym (octets_shown kept.users kept.homes number calendar name ∙ ap (λ found. option_map (λ (o : KeptObject). o.octets) (option_and_then (λ (k : KeptCalendar). value_at k.objects name) found)) at)

  pub origin_some : (calendar name : List ℕ) (c : KeptCalendar) → kept_calendar kept.homes number calendar ≡ Some c → option_map (λ (o : KeptObject). o.origin) (value_at c.objects name) ≡ origins_of kept number calendar name
  origin_some calendar name c at = sym (ap (λ found. option_map (λ (o : KeptObject). o.origin) (option_and_then (λ (k : KeptCalendar). value_at k.objects name) found)) at)

  calendar_at_some : (calendar : List ℕ) (found : Option KeptCalendar) → kept_calendar kept.homes number calendar ≡ found → calendar_at (state_of kept) number calendar ≡ option_map calendar_of found
  calendar_at_some calendar found at = calendar_shown kept.users kept.homes number calendar ∙ ap (option_map calendar_of) at

  pub next_object_some : (calendar name : List ℕ) (c : KeptCalendar) → kept_calendar kept.homes number calendar ≡ Some c
      → option_map (λ (e : List ℕ × KeptObject). (e.0, e.1.octets)) (next_above c.objects name) ≡ next_object (state_of kept) number calendar name
  next_object_some calendar name c at =
      sym (ap (option_and_then (λ (k : Calendar). next_above k.objects name)) (calendar_at_some calendar (Some c) at) ∙ next_above-each (λ (o : KeptObject). o.octets) c.objects name)

  pub next_object_none : (calendar name : List ℕ) → kept_calendar kept.homes number calendar ≡ None → None ≡ next_object (state_of kept) number calendar name
  next_object_none calendar name at = sym (ap (option_and_then (λ (k : Calendar). next_above k.objects name)) (calendar_at_some calendar None at))

  -- all objects of a calendar
  pub objects_some : (calendar : List ℕ) (c : KeptCalendar) → kept_calendar kept.homes number calendar ≡ Some c → (calendar_of c).objects ≡ objects_at (state_of kept) number calendar
  objects_some calendar c at = sym (ap (λ found. flat_map (λ (k : Calendar). k.objects) (option_to_list found)) (calendar_at_some calendar (Some c) at) ∙ append-nil (calendar_of c).objects)

  pub objects_none : (calendar : List ℕ) → kept_calendar kept.homes number calendar ≡ None → [] ≡ objects_at (state_of kept) number calendar
  objects_none calendar at = sym (ap (λ found. flat_map (λ (k : Calendar). k.objects) (option_to_list found)) (calendar_at_some calendar None at))

  pub uid_some : (calendar uid : List ℕ) (c : KeptCalendar) → kept_calendar kept.homes number calendar ≡ Some c → with_uid (calendar_of c).objects uid ≡ uid_holder_at (state_of kept) number calendar uid
  uid_some calendar uid c at = sym (ap (option_and_then (λ (k : Calendar). with_uid k.objects uid)) (calendar_at_some calendar (Some c) at))

  pub uid_none : (calendar uid : List ℕ) → kept_calendar kept.homes number calendar ≡ None → None ≡ uid_holder_at (state_of kept) number calendar uid
  uid_none calendar uid at = sym (ap (option_and_then (λ (k : Calendar). with_uid k.objects uid)) (calendar_at_some calendar None at))

  pub alone_some : (calendar uid : List ℕ) (c : KeptCalendar) → kept_calendar kept.homes number calendar ≡ Some c → IsAloneWith (calendar_of c).objects uid → IsAloneWithAt (state_of kept) number calendar uid
  alone_some calendar uid c at alone other found =
      let same : calendar_of c ≡ other = let known = calendar_at_some calendar (Some c) at in cc in
      subst (λ (k : Calendar). IsAloneWith k.objects uid) same alone

  pub alone_none : (calendar uid : List ℕ) → kept_calendar kept.homes number calendar ≡ None → IsAloneWithAt (state_of kept) number calendar uid
  alone_none calendar uid at other found = let known = calendar_at_some calendar None at in absurd cc

  -- what a home's changes cost
  pub used_some : (home : KeptHome) → slice_get kept.homes number ≡ Some home → (home.accepted ≡ option_map_or (λ (h : Home). h.accepted) (home_at (state_of kept) number) 0) × (home.accepted ≤ home_limit)
  used_some home at = (sym (ap (λ o. option_map_or (λ (h : Home). h.accepted) o 0) (home_shown kept.users kept.homes number ∙ ap (option_map home_of) at)), (store.homes number home at).within)

  -- how many calendars a home has
  pub count_some : (home : KeptHome) → slice_get kept.homes number ≡ Some home → length home.calendars ≡ option_map_or (λ (h : Home). length h.calendars) (home_at (state_of kept) number) 0
  count_some home at =
      sym (ap (λ o. option_map_or (λ (h : Home). length h.calendars) o 0) (home_shown kept.users kept.homes number ∙ ap (option_map home_of) at) ∙ length-map home.calendars (λ entry. (entry.0, calendar_of entry.1)))

  pub count_none : slice_get kept.homes number ≡ None → 0 ≡ option_map_or (λ (h : Home). length h.calendars) (home_at (state_of kept) number) 0
  count_none at = sym (ap (λ o. option_map_or (λ (h : Home). length h.calendars) o 0) (home_shown kept.users kept.homes number ∙ ap (option_map home_of) at))

  pub used_none : slice_get kept.homes number ≡ None → 0 ≡ option_map_or (λ (h : Home). h.accepted) (home_at (state_of kept) number) 0
  used_none at = sym (ap (λ o. option_map_or (λ (h : Home). h.accepted) o 0) (home_shown kept.users kept.homes number ∙ ap (option_map home_of) at))

-- Each object has an origin
there_by : (o : Option KeptObject) (octets : List ℕ) → option_map (λ (k : KeptObject). k.octets) o ≡ Some octets → (n : ℕ) × (option_map (λ (k : KeptObject). k.origin) o ≡ Some n)
there_by None octets e = absurd cc
there_by (Some k) octets e = (k.origin, refl)

absent_by : (o : Option KeptObject) → option_map (λ (k : KeptObject). k.octets) o ≡ None → option_map (λ (k : KeptObject). k.origin) o ≡ None
absent_by None e = refl
absent_by (Some k) e = absurd cc

pub have_origins : (kept : Kept) → HaveOrigins (state_of kept) (origins_of kept)
have_origins kept = record {
  there = λ home calendar object octets at. there_by (kept_object kept.homes home calendar object) octets (sym (octets_shown kept.users kept.homes home calendar object) ∙ at);
  absent = λ home calendar object at. absent_by (kept_object kept.homes home calendar object) (sym (octets_shown kept.users kept.homes home calendar object) ∙ at);
}

pub mapped : {A B C : Type 0} (f : A → B) (g : B → C) (o : Option A) → option_map g (option_map f o) ≡ option_map (λ a. g (f a)) o
mapped f g None = refl
mapped f g (Some a) = refl

-- The name of a calendar that is taken out

some_by : (o : Option KeptCalendar) → IsSome (option_map calendar_of o) → IsSome (option_map (λ (c : KeptCalendar). c.name) o)
some_by None there = there
some_by (Some c) there = refl

pub some_name : (o : Option KeptCalendar) (result : Option (List ℕ)) {found shown : Option Calendar} → result ≡ option_map (λ (c : KeptCalendar). c.name) o → found ≡ option_map calendar_of o → found ≡ shown → IsSome shown → IsSome result
some_name o result is calendar shown_is there = subst IsSome (sym is) (some_by o (subst IsSome (sym shown_is ∙ calendar) there))

name_by : (o : Option KeptCalendar) (name : List ℕ) → ((c : KeptCalendar) → o ≡ Some c → c.name ≡ name) → IfSome (option_map (λ (c : KeptCalendar). c.name) o) (λ n. n ≡ name)
name_by None name own = tt
name_by (Some c) name own = own c refl

pub own_name : (homes : List KeptHome) (number : ℕ) (name : List ℕ) (result : Option (List ℕ)) → AreHomes homes → result ≡ option_map (λ (c : KeptCalendar). c.name) (kept_calendar homes number name) → IfSome result (λ n. n ≡ name)
own_name homes number name result are is = subst (λ r. IfSome r (λ n. n ≡ name)) (sym is) (name_by (kept_calendar homes number name) name (λ c at. (kept_placed homes number name c are at).1))
