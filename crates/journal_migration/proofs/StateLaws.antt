-- A legal journal of old users and the same of new ones lead to states that have the same homes.
use Rattle.std.proofs.Common.{◌≡◌, ◌≢◌, inl, inr, ℕ, false, ◌<◌, ◌≤◌, ◌⊎◌, List, [], ◌∷◌, length, Option, Some, None, refl, sym, ◌∙◌, ap, subst, arith}
use Rattle.std.specs.Prelude.{slice_get, slice_set, option_map}
use Rattle.std.specs.List.{AllByRecursion}
use Rattle.std.proofs.lemmas.Bool.{cases_lt, cases_eq}
use Rattle.std.proofs.lemmas.List.{length-map, length-set, get_or-set_same, get_or-set_other}
use Rattle.std.proofs.lemmas.Option.{slice_get-get_or, slice_get_past, slice_get_within, slice_get-map}
use Rattle.cal_model.specs.History.Journal.{Entry, asked, request_for, replay, replay_from, IsAcceptedAt, IsLegal, IsLegalFrom}
use Rattle.cal_model.specs.Serving.EventReplies.{state_after}
use Rattle.cal_model.specs.Serving.Outcomes.{is_reading}
use Rattle.cal_model.specs.Serving.ServingLaws.{AcceptedHasItsEffect}
use Rattle.cal_model.specs.State.Changes.{Change, put, delete_object, delete_calendar, make, patch, acl, effect}
use Rattle.cal_model.specs.State.ServerState.{Home, ServerState, directory_of, user_number, user_name, home_at, with_home, opening_state, first_home}
use Rattle.cal_model.specs.State.UserNames.{AreToldApart}
use Rattle.cal_model.specs.Users.UsersFile.{User, Users}
use Rattle.journal_migration.specs.Renumbering.{AreAllIn, moved_user, moved_home, moved_change, moved_entry, moved_entries}
use Rattle.cal_keeper.specs.Files.Payloads.{home_of}
use Rattle.journal_migration.specs.MovedStates.{HaveSameHomes}
use Rattle.journal_migration.proofs.EntryLaws.{own_change}
use Rattle.journal_migration.proofs.NameLaws.{found_again, moved_within, not_both}
use Rattle.journal_migration.proofs.HomeLaws.{IsSameFor, put-same, delete_object-same, delete_calendar-same, make-same, patch-same, acl-same}

-- A place of a list that is written

get-set_same : {X : Type 0} (xs : List X) (n : ℕ) (was is : X) → slice_get xs n ≡ Some was → slice_get (slice_set xs n is) n ≡ Some is
get-set_same xs n was is found =
    let within = slice_get_within xs n was found in
    slice_get-get_or (slice_set xs n is) n is (omega (arith, within, length-set xs n is)) ∙ ap Some (get_or-set_same xs n is is within)

get-set_other : {X : Type 0} (xs : List X) (n m : ℕ) (is : X) → m ≢ n → slice_get (slice_set xs n is) m ≡ slice_get xs m
get-set_other xs n m is apart = by (cases_lt m (length xs)) where
  by : (m < length xs) ⊎ (length xs ≤ m) → slice_get (slice_set xs n is) m ≡ slice_get xs m
  by (inl within) =
      slice_get-get_or (slice_set xs n is) m is (omega (arith, within, length-set xs n is)) ∙ ap Some (get_or-set_other xs n m is is apart) ∙ sym (slice_get-get_or xs m is within)
  by (inr past) = slice_get_past (slice_set xs n is) m (omega (arith, past, length-set xs n is)) ∙ sym (slice_get_past xs m past)

-- A home that is changed

module _ (state : ServerState) (user : ℕ) (change : Home → Home) where
  abbrev changed_at : Option Home → ServerState
  changed_at None = state
  changed_at (Some home) = record { homes = slice_set state.homes user (change home) }

  same_by : (found : Option Home) → home_at state user ≡ found → home_at (changed_at found) user ≡ option_map change found
  same_by None is = is
  same_by (Some home) is = get-set_same state.homes user home (change home) is

  home_same : home_at (with_home state user change) user ≡ option_map change (home_at state user)
  home_same = same_by (home_at state user) refl

  other_by : (other : ℕ) → other ≢ user → (found : Option Home) → home_at (changed_at found) other ≡ home_at state other
  other_by other apart None = refl
  other_by other apart (Some home) = get-set_other state.homes user other (change home) apart

  home_other : (other : ℕ) → other ≢ user → home_at (with_home state user change) other ≡ home_at state other
  home_other other apart = other_by other apart (home_at state user)

-- the home of a user at the start
home_there : (users : Users) (user : ℕ) → user < length users.people → home_at (opening_state (directory_of users)) user ≡ Some first_home
unfolding opening_state
home_there users user within =
    slice_get-map (λ (name : List ℕ). first_home) (directory_of users).names user
    ∙ ap (option_map (λ (name : List ℕ). first_home)) (slice_get-get_or (directory_of users).names user [] (omega (arith, within, length-map users.people (λ (u : User). u.name))))

option_map-same : {A B : Type 0} (own : A → B) (change : A → A) (moved : B → B) → ((a : A) → moved (own a) ≡ own (change a)) → (o : Option A) → option_map moved (option_map own o) ≡ option_map own (option_map change o)
option_map-same own change moved same None = refl
option_map-same own change moved same (Some a) = ap Some (same a)

module _ (old new : Users) (all : AreAllIn old new) (told : AreToldApart (directory_of old)) where
  -- a home that is changed in both states
  changed_home : (before after : ServerState) (home : ℕ) (change moved : Home → Home) → home < length old.people → IsSameFor old new change moved
      → HaveSameHomes old new before after → HaveSameHomes old new (with_home before home change) (with_home after (moved_user old new home) moved)
  changed_home before after home change moved within same homes = record { kept = λ user known. kept user known (cases_eq user home); first = first } where
    own : Home → Home
    own = moved_home old new

    kept : (user : ℕ) → user < length old.people → (user ≡ home) ⊎ (user ≢ home)
        → home_at (with_home after (moved_user old new home) moved) (moved_user old new user) ≡ option_map (moved_home old new) (home_at (with_home before home change) user)
    kept user known (inl is) =
        ap (λ (n : ℕ). home_at (with_home after (moved_user old new home) moved) (moved_user old new n)) is
        ∙ home_same after (moved_user old new home) moved
        ∙ ap (option_map moved) (homes.kept home within)
        ∙ option_map-same (moved_home old new) change moved same (home_at before home)
        ∙ sym (ap (option_map (moved_home old new)) (ap (home_at (with_home before home change)) is ∙ home_same before home change))
    kept user known (inr apart) =
        home_other after (moved_user old new home) moved (moved_user old new user) (not_both old new all told home user within known apart)
        ∙ homes.kept user known
        ∙ sym (ap (option_map (moved_home old new)) (home_other before home change user apart))

    first : (user : ℕ) → user < length new.people → user_number (directory_of old) (user_name (directory_of new) user) ≡ None → home_at (with_home after (moved_user old new home) moved) user ≡ Some first_home
    first user known none =
        home_other after (moved_user old new home) moved user
        (λ is. absurd (some_none (sym (found_again old new all home within told) ∙ sym (ap (λ (n : ℕ). user_number (directory_of old) (user_name (directory_of new) n)) is) ∙ none)))
        ∙ homes.first user known none
      where
        some_none : Some home ≡ None → ⊥
        some_none e = absurd cc

  -- the same change, made in both states
  pub changed : (before after : ServerState) (change : Change) → home_of change < length old.people → HaveSameHomes old new before after
      → HaveSameHomes old new (effect change before) (effect (moved_change old new change) after)
  unfolding effect
  changed before after (put home calendar object octets) within homes = changed_home before after home _ _ within (put-same old new calendar object octets) homes
  changed before after (delete_object home calendar object) within homes = changed_home before after home _ _ within (delete_object-same old new calendar object) homes
  changed before after (delete_calendar home calendar) within homes = changed_home before after home _ _ within (delete_calendar-same old new calendar) homes
  changed before after (make home calendar sets size) within homes = changed_home before after home _ _ within (make-same old new calendar sets size) homes
  changed before after (patch home calendar sets size) within homes = changed_home before after home _ _ within (patch-same old new calendar sets size) homes
  changed before after (acl home calendar grants size) within homes = changed_home before after home _ _ within (acl-same old new calendar grants size) homes

  -- the states at the start
  pub opened : HaveSameHomes old new (opening_state (directory_of old)) (opening_state (directory_of new))
  opened = record {
    kept = λ user within. home_there new (moved_user old new user) (moved_within old new all user within) ∙ sym (ap (option_map (moved_home old new)) (home_there old user within));
    first = λ user within none. home_there new user within;
  }

-- A change of these users has its effect where it is accepted

module _ (law : AcceptedHasItsEffect) (users : Users) (told : AreToldApart (directory_of users)) where
  reads_not : (change : Change) → is_reading (request_for (directory_of users) change).method ≡ false
  reads_not (put home calendar object octets) = refl
  reads_not (delete_object home calendar object) = refl
  reads_not (delete_calendar home calendar) = refl
  reads_not (make home calendar sets size) = refl
  reads_not (patch home calendar sets size) = refl
  reads_not (acl home calendar grants size) = refl

  has_effect : (state : ServerState) (entry : Entry) → home_of entry.change < length users.people → IsAcceptedAt (directory_of users) state entry
      → state_after (directory_of users) state (asked (directory_of users) entry) ≡ effect entry.change state
  has_effect state entry within accepted_is =
      (law (directory_of users) state (state_after (directory_of users) state (asked (directory_of users) entry)) (asked (directory_of users) entry) entry.status entry.change
      (reads_not entry.change) (own_change users told entry.change within) accepted_is).0

-- Whole journals

pub moved_home_of : (old new : Users) (change : Change) → home_of (moved_change old new change) ≡ moved_user old new (home_of change)
moved_home_of old new (put home calendar object octets) = refl
moved_home_of old new (delete_object home calendar object) = refl
moved_home_of old new (delete_calendar home calendar) = refl
moved_home_of old new (make home calendar sets size) = refl
moved_home_of old new (patch home calendar sets size) = refl
moved_home_of old new (acl home calendar grants size) = refl

module _ (law : AcceptedHasItsEffect) (old new : Users) (all : AreAllIn old new) (told : AreToldApart (directory_of old)) (told_new : AreToldApart (directory_of new)) where
  pub moved_home_within : (change : Change) → home_of change < length old.people → home_of (moved_change old new change) < length new.people
  moved_home_within change within = subst (λ (n : ℕ). n < length new.people) (sym (moved_home_of old new change)) (moved_within old new all (home_of change) within)

  same_from : (entries : List Entry) → AllByRecursion (λ (entry : Entry). home_of entry.change < length old.people) entries → (before after : ServerState) → HaveSameHomes old new before after
      → IsLegalFrom (directory_of old) before entries → IsLegalFrom (directory_of new) after (moved_entries old new entries)
      → HaveSameHomes old new (replay_from (directory_of old) before entries) (replay_from (directory_of new) after (moved_entries old new entries))
  same_from [] within before after homes legal legal_new = homes
  same_from (entry ∷ entries) within before after homes legal legal_new =
      same_from entries within.1 (state_after (directory_of old) before (asked (directory_of old) entry)) (state_after (directory_of new) after (asked (directory_of new) (moved_entry old new entry)))
      (subst (λ (s : ServerState). HaveSameHomes old new s (state_after (directory_of new) after (asked (directory_of new) (moved_entry old new entry)))) (sym (has_effect law old told before entry within.0 legal.0))
      (subst (λ (s : ServerState). HaveSameHomes old new (effect entry.change before) s) (sym (has_effect law new told_new after (moved_entry old new entry) (moved_home_within entry.change within.0) legal_new.0))
      (changed old new all told before after entry.change within.0 homes)))
      legal.1 legal_new.1

  -- A legal journal, for whose entries the new users have a legal one too, leads both to the same homes.
  pub same_homes : (entries : List Entry) → AllByRecursion (λ (entry : Entry). home_of entry.change < length old.people) entries
      → IsLegal (directory_of old) entries → IsLegal (directory_of new) (moved_entries old new entries)
      → HaveSameHomes old new (replay (directory_of old) entries) (replay (directory_of new) (moved_entries old new entries))
  same_homes entries within legal legal_new = same_from entries within (opening_state (directory_of old)) (opening_state (directory_of new)) (opened old new all told) legal legal_new
