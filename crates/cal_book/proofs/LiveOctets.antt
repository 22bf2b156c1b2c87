-- In a legal journal the octets of an object that is still there are those that the state has at its place.
use Rattle.std.proofs.Common.{◌≡◌, ◌≢◌, ℕ, ◌<◌, ◌≤◌, Bool, true, false, ◌&&◌, cond, List, [], ◌∷◌, ◌++◌, length, Option, Some, None, refl, sym, ap, ◌∙◌, subst, arith, ◌⊎◌, inl, inr}
use Rattle.std.specs.Prelude.{bytes_eq, slice_get, slice_set, option_and_then}
use Rattle.std.specs.BTreeMap.{is_at}
use Rattle.std.proofs.lemmas.Bool.{cases_lt, cases_eq, cases_Bool, false≢true, eq-eqb, and_from}
use Rattle.std.proofs.lemmas.List.{length-append, append-nil, get_or-set_same, get_or-set_other, length-set}
use Rattle.std.proofs.lemmas.List.Elements.{All-head, All-tail}
use Rattle.std.proofs.lemmas.Map.Text.{is_eq-slice_cmp}
use Rattle.std.proofs.lemmas.Option.{slice_get-get_or, slice_get_past, slice_get_within}
use Rattle.std.proofs.lemmas.Slice.Eq.{bytes_eq-Decides}
use Rattle.std.proofs.Math.Seq.{append_snoc}
use Rattle.cal_base.specs.Lists.NameMap.{Named, name_order, value_at, with_value, without}
use Rattle.cal_base.proofs.Lists.NameMapLemmas.{value_at_with}
use Rattle.cal_model.specs.History.Journal.{Entry, replay, IsAcceptedAt, IsLegal, IsLegalFrom}
use Rattle.cal_model.specs.History.KeptChanges.{IsAcceptable}
use Rattle.cal_model.specs.History.LiveObjects.{Placed, placed_by, ends, kept_unless, live_at}
use Rattle.cal_model.specs.Properties.Settings.{set_on, made_by}
use Rattle.cal_model.specs.State.Changes.{Change, put, delete_object, delete_calendar, make, patch, acl, effect, with_octets, without_octets, with_grants, with_new_calendar}
use Rattle.cal_model.specs.State.ServerState.{Directory, Calendar, Home, ServerState, opening_state, home_at, calendar_at, octets_at, with_home, with_calendar, charged}
use Rattle.cal_model.specs.State.SoundStates.{IsSound, IsSoundChange}
use Rattle.cal_model.specs.State.UserNames.{AreToldApart}
use Rattle.cal_model.proofs.History.JournalLaws.{replay_from-append}
use Rattle.cal_model.proofs.History.LiveObjectLaws.{live_at-push, live_at-last}
use Rattle.cal_model.proofs.History.OriginLaws.{live_within}
use Rattle.cal_model.proofs.History.ReplayLaws.{some≢none}
use Rattle.cal_model.proofs.State.SoundLaws.{effect-sound, opening-sound}
use Rattle.cal_journal.specs.KeptEntries.{AreSound}
use Rattle.cal_journal.proofs.OwnChanges.{asked_is_own, state_after-effect}
use Rattle.collections.proofs.AcceptedLemmas.{accepted_put, accepted_make}
use Rattle.cal_book.proofs.StepLemmas.{same_octets}

-- Look-ups in maps and lists

abbrev value_or : {X : Type 0} → X → Option X → X
value_or other None = other
value_or other (Some x) = x

some_is : {X : Type 0} (a b : X) → Some a ≡ Some b → a ≡ b
some_is a b e = ap (value_or a) e

-- what was written is at its name
written : {V : Type 0} (named : Named V) (name : List ℕ) (value : V) → value_at (with_value named name value) name ≡ Some value
written named name value = value_at_with name value name named ∙ ap (λ b. cond b (Some value) (value_at named name)) (same_octets name)

-- other names keep what they have
written_beside : {V : Type 0} (named : Named V) (name other : List ℕ) (value : V) → bytes_eq other name ≡ false → value_at (with_value named name value) other ≡ value_at named other
written_beside named name other value apart = value_at_with name value other named ∙ ap (λ b. cond b (Some value) (value_at named other)) apart

taken_beside : {V : Type 0} (named : Named V) (name other : List ℕ) → bytes_eq other name ≡ false → value_at (without named name) other ≡ value_at named other
taken_beside [] name other apart = refl
taken_beside (entry ∷ named) name other apart = elim (cases_Bool (is_at (name_order name) entry.0)) [
  | inl here ↦
      let same : name ≡ entry.0 = (bytes_eq-Decides name entry.0).0 (sym (is_eq-slice_cmp name entry.0) ∙ here) in
      let away : is_at (name_order other) entry.0 ≡ false = is_eq-slice_cmp other entry.0 ∙ ap (bytes_eq other) (sym same) ∙ apart in
      rw (here, away) refl
  | inr there ↦ rw there (ap (λ rest. cond (is_at (name_order other) entry.0) (Some entry.1) rest) (taken_beside named name other apart))
]

get-set_same : {X : Type 0} (xs : List X) (n : ℕ) (old new : X) → slice_get xs n ≡ Some old → slice_get (slice_set xs n new) n ≡ Some new
get-set_same xs n old new e =
    let within = slice_get_within xs n old e in
    slice_get-get_or (slice_set xs n new) n new (omega (arith, within, length-set xs n new)) ∙ ap Some (get_or-set_same xs n new new within)

get-set_other : {X : Type 0} (xs : List X) (n m : ℕ) (new : X) → m ≢ n → slice_get (slice_set xs n new) m ≡ slice_get xs m
get-set_other xs n m new other = by (cases_lt m (length xs)) where
  by : (m < length xs) ⊎ (length xs ≤ m) → slice_get (slice_set xs n new) m ≡ slice_get xs m
  by (inl within) =
      slice_get-get_or (slice_set xs n new) m new (omega (arith, within, length-set xs n new))
      ∙ ap Some (get_or-set_other xs n m new new other)
      ∙ sym (slice_get-get_or xs m new within)
  by (inr past) = slice_get_past (slice_set xs n new) m (omega (arith, past, length-set xs n new)) ∙ sym (slice_get_past xs m past)

-- Places in a state

-- the home, the calendar and the octets at a place
record IsThere (state : ServerState) (home : ℕ) (calendar object octets : List ℕ) : Type 0 where
  within : Home
  home_is : home_at state home ≡ Some within
  inside : Calendar
  calendar_is : value_at within.calendars calendar ≡ Some inside
  octets_are : value_at inside.objects object ≡ Some octets

there : (state : ServerState) (home : ℕ) (calendar object octets : List ℕ) → octets_at state home calendar object ≡ Some octets → IsThere state home calendar object octets
there state home calendar object octets e = in_home (home_at state home) refl e where
  in_calendar : (h : Home) → home_at state home ≡ Some h → (found : Option Calendar) → value_at h.calendars calendar ≡ found
      → option_and_then (λ (c : Calendar). value_at c.objects object) found ≡ Some octets → IsThere state home calendar object octets
  in_calendar h is None there e = absurd (some≢none octets (sym e))
  in_calendar h is (Some c) there e = record { within = h; home_is = is; inside = c; calendar_is = there; octets_are = e }

  in_home : (found : Option Home) → home_at state home ≡ found
      → option_and_then (λ (c : Calendar). value_at c.objects object) (option_and_then (λ (h : Home). value_at h.calendars calendar) found) ≡ Some octets → IsThere state home calendar object octets
  in_home None is e = absurd (some≢none octets (sym e))
  in_home (Some h) is e = in_calendar h is (value_at h.calendars calendar) refl e

at_there : (state : ServerState) (home : ℕ) (calendar object octets : List ℕ) → IsThere state home calendar object octets → octets_at state home calendar object ≡ Some octets
at_there state home calendar object octets is =
    ap (λ o. option_and_then (λ (c : Calendar). value_at c.objects object) (option_and_then (λ (h : Home). value_at h.calendars calendar) o)) is.home_is
    ∙ ap (λ o. option_and_then (λ (c : Calendar). value_at c.objects object) o) is.calendar_is
    ∙ is.octets_are

-- a calendar of a home that has the octets
record IsInHome (home : Home) (calendar object octets : List ℕ) : Type 0 where
  inside : Calendar
  calendar_is : value_at home.calendars calendar ≡ Some inside
  octets_are : value_at inside.objects object ≡ Some octets

-- another home stays as it is, and the home that changes has what it is changed to
home_same : (state : ServerState) (home : ℕ) (h : Home) (change : Home → Home) → home_at state home ≡ Some h → home_at (with_home state home change) home ≡ Some (change h)
home_same state home h change is =
    ap (λ o. home_at (elim o as (λ x. ServerState) [ None ↦ state | Some k ↦ record { homes = slice_set state.homes home (change k) } ]) home) is
    ∙ get-set_same state.homes home h (change h) is

home_other : (state : ServerState) (home other : ℕ) (change : Home → Home) → other ≢ home → home_at (with_home state home change) other ≡ home_at state other
home_other state home other change apart = by (home_at state home) where
  by : (o : Option Home) → home_at (elim o as (λ x. ServerState) [ None ↦ state | Some k ↦ record { homes = slice_set state.homes home (change k) } ]) other ≡ home_at state other
  by None = refl
  by (Some k) = get-set_other state.homes home other (change k) apart

-- the octets at a place stay where the change of their home keeps them
stay_in : (state : ServerState) (home : ℕ) (change : Home → Home) (place : ℕ) (calendar object octets : List ℕ) → IsThere state place calendar object octets
    → (place ≡ home → (h : Home) → home_at state home ≡ Some h → IsInHome h calendar object octets → IsInHome (change h) calendar object octets)
    → octets_at (with_home state home change) place calendar object ≡ Some octets
stay_in state home change place calendar object octets is keeps = by (cases_eq place home) where
  by : (place ≡ home) ⊎ (place ≢ home) → octets_at (with_home state home change) place calendar object ≡ Some octets
  by (inl same) =
      let here : home_at state home ≡ Some is.within = ap (home_at state) (sym same) ∙ is.home_is in
      let kept = keeps same is.within here (record { inside = is.inside; calendar_is = is.calendar_is; octets_are = is.octets_are }) in
      at_there (with_home state home change) place calendar object octets (record {
        within = change is.within;
        home_is = ap (home_at (with_home state home change)) same ∙ home_same state home is.within change here;
        inside = kept.inside;
        calendar_is = kept.calendar_is;
        octets_are = kept.octets_are;
      })
  by (inr other) =
      at_there (with_home state home change) place calendar object octets (record {
        within = is.within;
        home_is = home_other state home place change other ∙ is.home_is;
        inside = is.inside;
        calendar_is = is.calendar_is;
        octets_are = is.octets_are;
      })

-- a change of one calendar keeps what it keeps in that one
stay_beside : (h : Home) (name : List ℕ) (change : Calendar → Calendar) (calendar object octets : List ℕ) → IsInHome h calendar object octets
    → (bytes_eq calendar name ≡ true → (c : Calendar) → value_at c.objects object ≡ Some octets → value_at (change c).objects object ≡ Some octets)
    → IsInHome (with_calendar name change h) calendar object octets
stay_beside h name change calendar object octets is keeps = by (value_at h.calendars name) refl where
  changed : Option Calendar → Home
  changed o = elim o as (λ x. Home) [ None ↦ h | Some c ↦ record h { calendars = with_value h.calendars name (change c) } ]

  in_found : (c : Calendar) → value_at h.calendars name ≡ Some c → (same : Bool) → bytes_eq calendar name ≡ same → IsInHome (changed (Some c)) calendar object octets
  in_found c found true same =
      let names : calendar ≡ name = (bytes_eq-Decides calendar name).0 same in
      let one : is.inside ≡ c = some_is _ _ (sym is.calendar_is ∙ ap (value_at h.calendars) names ∙ found) in
      record {
        inside = change c;
        calendar_is = ap (value_at (with_value h.calendars name (change c))) names ∙ written h.calendars name (change c);
        octets_are = keeps same c (ap (λ (k : Calendar). value_at k.objects object) (sym one) ∙ is.octets_are);
      }
  in_found c found false apart = record {
    inside = is.inside;
    calendar_is = written_beside h.calendars name calendar (change c) apart ∙ is.calendar_is;
    octets_are = is.octets_are;
  }

  by : (o : Option Calendar) → value_at h.calendars name ≡ o → IsInHome (with_calendar name change h) calendar object octets
  by None found = subst (λ o. IsInHome (changed o) calendar object octets) (sym found) is
  by (Some c) found = subst (λ o. IsInHome (changed o) calendar object octets) (sym found) (in_found c found (bytes_eq calendar name) refl)

charged-stays : (size : ℕ) (h : Home) (calendar object octets : List ℕ) → IsInHome h calendar object octets → IsInHome (charged size h) calendar object octets
charged-stays size h calendar object octets is = record { inside = is.inside; calendar_is = is.calendar_is; octets_are = is.octets_are }

-- a part of a test that fails where the others hold
last_fails : (a b : Bool) → (a && b) ≡ false → a ≡ true → b ≡ false
last_fails true b e is = e
last_fails false b e is = absurd (false≢true is)

-- What a change leaves

-- a calendar that is made was not there
abbrev IsNew : ServerState → Change → Type 0
IsNew state (make home calendar sets size) = calendar_at state home calendar ≡ None
IsNew state other = Unit {0}

octets-kept : (change : Change) (state : ServerState) (placed : Placed) → IsNew state change → ends placed change ≡ false
    → octets_at state placed.home placed.calendar placed.object ≡ Some placed.octets → octets_at (effect change state) placed.home placed.calendar placed.object ≡ Some placed.octets
unfolding effect
octets-kept (put home calendar object octets) state placed new stays e =
    stay_in state home _ placed.home placed.calendar placed.object placed.octets (there state _ _ _ _ e)
    (λ same h is within. charged-stays (length octets) (with_calendar calendar (with_octets object octets) h) _ _ _
    (stay_beside h calendar (with_octets object octets) _ _ _ within
    (λ named c has. written_beside c.objects object placed.object octets (last_fails _ _ stays (and_from _ _ (eq-eqb _ _ same) named)) ∙ has)))
octets-kept (delete_object home calendar object) state placed new stays e =
    stay_in state home _ placed.home placed.calendar placed.object placed.octets (there state _ _ _ _ e)
    (λ same h is within. stay_beside h calendar (without_octets object) _ _ _ within
    (λ named c has. taken_beside c.objects object placed.object (last_fails _ _ stays (and_from _ _ (eq-eqb _ _ same) named)) ∙ has))
octets-kept (delete_calendar home calendar) state placed new stays e =
    stay_in state home _ placed.home placed.calendar placed.object placed.octets (there state _ _ _ _ e)
    (λ same h is within. record {
      inside = within.inside;
      calendar_is = taken_beside h.calendars calendar placed.calendar (last_fails _ _ stays (eq-eqb _ _ same)) ∙ within.calendar_is;
      octets_are = within.octets_are;
    })
octets-kept (make home calendar sets size) state placed new stays e =
    stay_in state home _ placed.home placed.calendar placed.object placed.octets (there state _ _ _ _ e)
    (λ same h is within. charged-stays size (with_new_calendar calendar (made_by sets) h) _ _ _ (record {
      inside = within.inside;
      calendar_is = written_beside h.calendars calendar placed.calendar (made_by sets) (apart h is within (bytes_eq placed.calendar calendar) refl) ∙ within.calendar_is;
      octets_are = within.octets_are;
    })) where
      apart : (h : Home) → home_at state home ≡ Some h → IsInHome h placed.calendar placed.object placed.octets → (b : Bool) → bytes_eq placed.calendar calendar ≡ b → bytes_eq placed.calendar calendar ≡ false
      apart h is within true named =
          let names : placed.calendar ≡ calendar = (bytes_eq-Decides placed.calendar calendar).0 named in
          absurd (some≢none within.inside (sym within.calendar_is ∙ ap (value_at h.calendars) names ∙ sym (ap (option_and_then (λ (k : Home). value_at k.calendars calendar)) is) ∙ new))
      apart h is within false named = named
octets-kept (patch home calendar sets size) state placed new stays e =
    stay_in state home _ placed.home placed.calendar placed.object placed.octets (there state _ _ _ _ e)
    (λ same h is within. charged-stays size (with_calendar calendar (set_on sets) h) _ _ _ (stay_beside h calendar (set_on sets) _ _ _ within (λ named c has. has)))
octets-kept (acl home calendar grants size) state placed new stays e =
    stay_in state home _ placed.home placed.calendar placed.object placed.octets (there state _ _ _ _ e)
    (λ same h is within. charged-stays size (with_calendar calendar (with_grants grants) h) _ _ _ (stay_beside h calendar (with_grants grants) _ _ _ within (λ named c has. has)))

abbrev with_object : List ℕ → List ℕ → List ℕ → Home → Home
with_object calendar object octets h = charged (length octets) (with_calendar calendar (with_octets object octets) h)

-- an object that is put is there
octets-put : (home : ℕ) (calendar object octets : List ℕ) (state : ServerState) (c : Calendar) → calendar_at state home calendar ≡ Some c
    → octets_at (effect (put home calendar object octets) state) home calendar object ≡ Some octets
unfolding effect
octets-put home calendar object octets state c e = in_home (home_at state home) refl e where
  in_home : (found : Option Home) → home_at state home ≡ found → option_and_then (λ (h : Home). value_at h.calendars calendar) found ≡ Some c
      → octets_at (with_home state home (with_object calendar object octets)) home calendar object ≡ Some octets
  in_home None is e = absurd (some≢none c (sym e))
  in_home (Some h) is e =
      at_there (with_home state home (with_object calendar object octets)) home calendar object octets (record {
        within = with_object calendar object octets h;
        home_is = home_same state home h (with_object calendar object octets) is;
        inside = with_octets object octets c;
        calendar_is =
            ap (λ o. value_at (elim o as (λ x. Home) [ None ↦ h | Some k ↦ record h { calendars = with_value h.calendars calendar (with_octets object octets k) } ]).calendars calendar) e
            ∙ written h.calendars calendar (with_octets object octets c);
        octets_are = written c.objects object octets;
      })

-- Journals

-- what is kept passes the test and was there
kept-some : (test : Placed → Bool) (o : Option Placed) (placed : Placed) → kept_unless test o ≡ Some placed → (o ≡ Some placed) × (test placed ≡ false)
kept-some test None placed e = absurd (some≢none placed (sym e))
kept-some test (Some x) placed e = one (test x) refl e where
  one : (b : Bool) → test x ≡ b → elim b [ true ↦ None | false ↦ Some x ] ≡ Some placed → (Some x ≡ Some placed) × (test placed ≡ false)
  one true t e = absurd (some≢none placed (sym e))
  one false t e = (e, ap test (sym (some_is _ _ e)) ∙ t)

module _ (directory : Directory) (told : AreToldApart directory) where
  -- the state is sound, and has the octets of each object that is still there
  record Holds (journal : List Entry) : Type 0 where
    sound : IsSound directory (replay directory journal)
    octets : (n : ℕ) (placed : Placed) → live_at journal n ≡ Some placed → octets_at (replay directory journal) placed.home placed.calendar placed.object ≡ Some placed.octets

  module _ (journal : List Entry) (entry : Entry) (holds : Holds journal) (done : IsAcceptedAt directory (replay directory journal) entry) (sound : IsSoundChange directory entry.change) where
    abbrev state : ServerState
    state = replay directory journal

    acceptable : IsAcceptable directory state entry.change
    acceptable = record { entry = entry; entry_is = refl; asked_is = asked_is_own directory state entry told done; accepted_is = done }

    new : (change : Change) → entry.change ≡ change → IsNew state change
    new (put home calendar object octets) is = tt
    new (delete_object home calendar object) is = tt
    new (delete_calendar home calendar) is = tt
    new (make home calendar sets size) is = (accepted_make directory state holds.sound home calendar sets size (subst (IsAcceptable directory state) is acceptable)).1
    new (patch home calendar sets size) is = tt
    new (acl home calendar grants size) is = tt

    made : (change : Change) → entry.change ≡ change → (placed : Placed) → placed_by change ≡ Some placed → octets_at (effect change state) placed.home placed.calendar placed.object ≡ Some placed.octets
    made (put home calendar object octets) is placed e =
        let may = (accepted_put directory state holds.sound home calendar object octets (subst (IsAcceptable directory state) is acceptable)).1 in
        subst (λ (p : Placed). octets_at (effect (put home calendar object octets) state) p.home p.calendar p.object ≡ Some p.octets) (some_is _ _ e)
        (octets-put home calendar object octets state may.within may.there)
    made (delete_object home calendar object) is placed e = absurd (some≢none placed (sym e))
    made (delete_calendar home calendar) is placed e = absurd (some≢none placed (sym e))
    made (make home calendar sets size) is placed e = absurd (some≢none placed (sym e))
    made (patch home calendar sets size) is placed e = absurd (some≢none placed (sym e))
    made (acl home calendar grants size) is placed e = absurd (some≢none placed (sym e))

    after_is : replay directory (journal ++ entry ∷ []) ≡ effect entry.change state
    after_is = replay_from-append directory (opening_state directory) journal (entry ∷ []) ∙ state_after-effect directory state entry told done

    octets_after : (n : ℕ) (placed : Placed) → live_at (journal ++ entry ∷ []) n ≡ Some placed → octets_at (effect entry.change state) placed.home placed.calendar placed.object ≡ Some placed.octets
    octets_after n placed e = by (cases_lt n (length journal)) where
      by : (n < length journal) ⊎ (length journal ≤ n) → octets_at (effect entry.change state) placed.home placed.calendar placed.object ≡ Some placed.octets
      by (inl within) =
          let kept = kept-some (λ p. ends p entry.change) (live_at journal n) placed (sym (live_at-push journal entry n within) ∙ e) in
          octets-kept entry.change state placed (new entry.change refl) kept.1 (holds.octets n placed kept.0)
      by (inr past) =
          let inside = live_within (journal ++ entry ∷ []) n placed e in
          let last : n ≡ length journal = omega (arith, past, inside, length-append journal (entry ∷ [])) in
          made entry.change refl placed (sym (live_at-last journal entry) ∙ ap (live_at (journal ++ entry ∷ [])) (sym last) ∙ e)

    Holds-next : Holds (journal ++ entry ∷ [])
    Holds-next = record {
      sound = subst (IsSound directory) (sym after_is) (effect-sound directory entry.change state sound holds.sound);
      octets = λ n placed e. ap (λ s. octets_at s placed.home placed.calendar placed.object) after_is ∙ octets_after n placed e;
    }

  Holds-all : (journal more : List Entry) → Holds journal → IsLegalFrom directory (replay directory journal) more → AreSound directory more → Holds (journal ++ more)
  Holds-all journal [] holds legal sound = subst Holds (sym (append-nil journal)) holds
  Holds-all journal (entry ∷ more) holds legal sound =
      subst Holds (append_snoc journal entry more)
      (Holds-all (journal ++ entry ∷ []) more
      (Holds-next journal entry holds legal.0 (All-head (λ (e : Entry). IsSoundChange directory e.change) entry more sound))
      (subst (λ s. IsLegalFrom directory s more) (sym (replay_from-append directory (opening_state directory) journal (entry ∷ []))) legal.1)
      (All-tail (λ (e : Entry). IsSoundChange directory e.change) entry more sound))

  none_live : (n : ℕ) (placed : Placed) → live_at [] n ≡ Some placed → ⊥
  none_live n placed e = omega (arith, live_within [] n placed e)

  -- The octets of an object that is still there are those of the state, at its place.
  pub live-octets : (journal : List Entry) → IsLegal directory journal → AreSound directory journal → (n : ℕ) (placed : Placed) → live_at journal n ≡ Some placed
      → octets_at (replay directory journal) placed.home placed.calendar placed.object ≡ Some placed.octets
  live-octets journal legal sound =
      (Holds-all [] journal (record { sound = opening-sound directory; octets = λ n placed e. absurd (none_live n placed e) }) legal sound).octets

  -- The state that a journal leads to is sound.
  pub replay-sound : (journal : List Entry) → IsLegal directory journal → AreSound directory journal → IsSound directory (replay directory journal)
  replay-sound journal legal sound =
      (Holds-all [] journal (record { sound = opening-sound directory; octets = λ n placed e. absurd (none_live n placed e) }) legal sound).sound
