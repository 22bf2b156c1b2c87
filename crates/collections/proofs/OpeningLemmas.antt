-- The homes at the start: they stand for the opening state, and have no objects.
use Rattle.std.proofs.Common.{◌≡◌, ℕ, zero, suc, ◌+◌, List, [], ◌∷◌, ◌++◌, map, length, false, cond, Option, Some, None, refl, sym, ap, ◌∙◌, subst, inl, inr, arith}
use Rattle.std.specs.Prelude.{slice_get, option_map, option_and_then, bytes_eq, if◌then◌else◌}
use Rattle.std.specs.List.Sorted.{IsStrictlySortedBy}
use Rattle.cal_base.specs.Lists.NameMap.{value_at}
use Rattle.cal_model.specs.Users.UsersFile.{User, Users}
use Rattle.cal_model.specs.declared.property.PropSet.{PropSet}
use Rattle.cal_model.specs.State.PropertyTexts.{with_text}
use Rattle.cal_model.specs.Properties.PropertyTable.{row_of}
use Rattle.cal_model.specs.Properties.Settings.{is_kinds, kinds_set, texts_after_all, kinds_after_all}
use Rattle.cal_model.specs.State.ServerState.{ServerState, displayname, every_kind, directory_of, first_home, opening_state}
use Rattle.cal_model.specs.State.SoundStates.{IsSound}
use Rattle.cal_model.specs.History.LiveObjects.{Placed, live_at}
use Rattle.cal_model.specs.History.Origins.{AreLive}
use Rattle.cal_model.proofs.State.SoundLaws.{opening-sound}
use Rattle.collections.specs.declared.home.KeptHome.{KeptHome}
use Rattle.collections.specs.KeptCalendars.{KeptObject, KeptCalendar}
use Rattle.collections.specs.Kept.{home_of, state_of, origins_of, kept_object}
use Rattle.collections.specs.Homes.{empty_calendar, opening_home, homes_from, opening_homes, first_name, IsHome, AreHomes}
use Rattle.collections.specs.Stores.{IsStore}
use Rattle.collections.proofs.SettingLemmas.{kinds_row}
use Rattle.collections.proofs.NamedLemmas.{same_or_not, at_name, bytes_same, bytes_differ}

-- one more
homes_more : (users number : ℕ) → homes_from (suc users) number ≡ homes_from users number ++ opening_home (number + users) ∷ []
homes_more zero number = ap (λ n. opening_home n ∷ []) (let same : number ≡ number + 0 = omega arith in same)
homes_more (suc users) number =
    ap (λ rest. opening_home number ∷ rest) (homes_more users (number + 1) ∙ ap (λ n. homes_from users (number + 1) ++ opening_home n ∷ []) (let same : number + 1 + users ≡ number + suc users = omega arith in same))

zero_more : (n : ℕ) → 0 + n ≡ n
zero_more n = omega arith

pub homes_more_one : (users : ℕ) → opening_homes (users + 1) ≡ opening_homes users ++ opening_home users ∷ []
homes_more_one users =
    ap opening_homes (let same : users + 1 ≡ suc users = omega arith in same) ∙ (homes_more users 0 ∙ ap (λ n. opening_homes users ++ opening_home n ∷ []) (zero_more users))

-- the state
homes_shown : (people : List User) (number : ℕ) → map home_of (homes_from (length people) number) ≡ map (λ name. first_home) (map (λ (user : User). user.name) people)
homes_shown [] number = refl
homes_shown (user ∷ people) number = ap (λ rest. first_home ∷ rest) (homes_shown people (number + 1))

pub opening_shown : (users : Users) → state_of (record { users = users; homes = opening_homes (length users.people) }) ≡ opening_state (directory_of users)
unfolding opening_state
opening_shown users = ap {B = ServerState} (λ homes. record { homes = homes }) (homes_shown users.people 0)

-- the homes
one_value : {V : Type 0} (key name : List ℕ) (value found : V) → value_at ((key, value) ∷ []) name ≡ Some found → (name ≡ key) × (value ≡ found)
one_value key name value found at = elim (same_or_not name key) [
  | inl same ↦
      let here : value_at ((key, value) ∷ []) name ≡ Some value = ap (λ b. cond b (Some value) None) (at_name name key ∙ (ap (λ n. bytes_eq n key) same ∙ bytes_same key)) in
      (same, cc)
  | inr other ↦
      let gone : value_at ((key, value) ∷ []) name ≡ None = ap (λ b. cond b (Some value) None) (at_name name key ∙ bytes_differ name key other) in
      absurd cc
]

opening_is : (number : ℕ) → IsHome number (opening_home number)
unfolding IsStrictlySortedBy
opening_is number = record {
  within = omega arith;
  in_order = (tt, tt);
  placed = λ name kept at.
      let one = one_value first_name name _ kept at in
      subst (λ (k : KeptCalendar). (k.home ≡ number) × (k.name ≡ name)) one.1 (refl, sym one.0);
}

found_from : (users number n : ℕ) (home : KeptHome) → slice_get (homes_from users number) n ≡ Some home → home ≡ opening_home (number + n)
found_from zero number n home at = absurd cc
found_from (suc users) number zero home at = let same : opening_home number ≡ home = cc in sym same ∙ ap opening_home (let n : number ≡ number + 0 = omega arith in n)
found_from (suc users) number (suc n) home at = found_from users (number + 1) n home at ∙ ap opening_home (let m : number + 1 + n ≡ number + suc n = omega arith in m)

opening_are : (users : ℕ) → AreHomes (opening_homes users)
opening_are users n home at = subst (IsHome n) (sym (found_from users 0 n home at ∙ ap opening_home (zero_more n))) (opening_is n)

pub opening_store : (users : Users) → IsStore (record { users = users; homes = opening_homes (length users.people) })
opening_store users = record {
  sound = subst (IsSound (directory_of users)) (sym (opening_shown users)) (opening-sound (directory_of users));
  homes = opening_are (length users.people);
}

-- no objects
nothing_in : (users home : ℕ) (calendar object : List ℕ) (kept : KeptObject) → kept_object (opening_homes users) home calendar object ≡ Some kept → ⊥
nothing_in users home calendar object kept at = by_home (slice_get (opening_homes users) home) refl at where
  by_calendar : (found : Option KeptCalendar) → value_at (opening_home home).calendars calendar ≡ found → option_and_then (λ (c : KeptCalendar). value_at c.objects object) found ≡ Some kept → ⊥
  by_calendar None is e = absurd cc
  by_calendar (Some c) is e =
      let one = one_value first_name calendar _ c is in
      let empty : c.objects ≡ [] = sym (ap (λ (k : KeptCalendar). k.objects) one.1) in
      let gone : value_at c.objects object ≡ None = ap (λ named. value_at named object) empty in
      absurd cc

  by_home : (found : Option KeptHome) → slice_get (opening_homes users) home ≡ found → option_and_then (λ (c : KeptCalendar). value_at c.objects object) (option_and_then (λ (h : KeptHome). value_at h.calendars calendar) found) ≡ Some kept → ⊥
  by_home None is e = absurd cc
  by_home (Some h) is e =
      let same = found_from users 0 home h is ∙ ap opening_home (zero_more home) in
      by_calendar (value_at (opening_home home).calendars calendar) refl (subst (λ (k : KeptHome). option_and_then (λ (c : KeptCalendar). value_at c.objects object) (value_at k.calendars calendar) ≡ Some kept) same e)

nothing_live : (n : ℕ) (placed : Placed) → live_at [] n ≡ Some placed → ⊥
nothing_live n placed e = absurd cc

no_origin : (found : Option KeptObject) (n : ℕ) → ((kept : KeptObject) → found ≡ Some kept → ⊥) → option_map (λ (o : KeptObject). o.origin) found ≡ Some n → ⊥
no_origin None n never e = absurd cc
no_origin (Some kept) n never e = never kept refl

pub opening_live : (users : Users) → AreLive [] (origins_of (record { users = users; homes = opening_homes (length users.people) }))
opening_live users = record {
  live = λ n placed e. absurd (nothing_live n placed e);
  known = λ home calendar object n e. absurd (no_origin (kept_object (opening_homes (length users.people)) home calendar object) n (nothing_in (length users.people) home calendar object) e);
}

-- the first calendar

abbrev first_set : PropSet
first_set = record { name = displayname; value = Some first_name }

no_kinds : is_kinds (row_of displayname).setting ≡ false
no_kinds = kinds_row displayname

first_texts : texts_after_all [] (first_set ∷ []) ≡ (displayname, first_name) ∷ []
first_texts = ap (λ b. if b then [] else with_text [] displayname first_name) no_kinds

first_kinds : kinds_after_all every_kind (first_set ∷ []) ≡ every_kind
first_kinds = ap (λ b. if b then kinds_set first_name else every_kind) no_kinds

pub first_made : (number : ℕ) (name : List ℕ) (kept : KeptCalendar) (sets : List PropSet) → kept ≡ record { home = number; name = name; grants = []; kinds = every_kind; texts = []; objects = [] }
    → sets ≡ record { name = displayname; value = Some first_name } ∷ [] → name ≡ first_name
    → ◌≡◌ {A = KeptCalendar} (record kept { texts = texts_after_all kept.texts sets; kinds = kinds_after_all kept.kinds sets }) (record (empty_calendar number first_name) { texts = (displayname, first_name) ∷ [] })
first_made number name kept sets kept_is sets_are named =
    ap {B = KeptCalendar} (λ (k : KeptCalendar). record k { texts = texts_after_all k.texts sets; kinds = kinds_after_all k.kinds sets }) kept_is
    ∙ (ap {B = KeptCalendar} (λ (s : List PropSet). record { home = number; name = name; grants = []; kinds = kinds_after_all every_kind s; texts = texts_after_all [] s; objects = [] }) sets_are
    ∙ (ap {B = KeptCalendar} (λ (n : List ℕ). record { home = number; name = n; grants = []; kinds = kinds_after_all every_kind (first_set ∷ []); texts = texts_after_all [] (first_set ∷ []); objects = [] }) named
    ∙ (λ i. record { home = number; name = first_name; grants = []; kinds = first_kinds i; texts = first_texts i; objects = [] })))
