-- The laws of the entries of a file.
use Rattle.std.proofs.Common.{◌≡◌, ℕ, ◌<◌, Bool, true, false, IsTrue, List, [], ◌∷◌, length, map, get_or, Option, Some, None, refl, sym, ◌∙◌, ap, subst, arith}
use Rattle.std.proofs.lemmas.List.{length-map}
use Rattle.std.proofs.lemmas.Bool.{ne_eqb}
use Rattle.cal_model.specs.declared.privilege.Who.{Who}
use Rattle.cal_model.specs.declared.privilege.Who.TheVariants.{Everyone, Owner, Principal, Group}
use Rattle.cal_model.specs.Bodies.AclLaws.{IsAmong}
use Rattle.cal_model.specs.History.Journal.{asked, request_for, replay_from, IsLegalFrom}
use Rattle.cal_model.specs.Paths.TargetPaths.{is_path}
use Rattle.cal_model.specs.Requests.MethodContents.{Suits}
use Rattle.cal_model.specs.Requests.ContentBounds.{GrantsAmong, SizeIsTold, ZoneIsShort, PropertiesAreFew}
use Rattle.cal_model.specs.Requests.Methods.{has_method}
use Rattle.cal_model.specs.Serving.Outcomes.{outcome, outcome_where, is_reading, accepted}
use Rattle.cal_model.specs.Serving.EventReplies.{state_of, state_after}
use Rattle.cal_model.specs.State.Changes.{Change, put, delete_object, delete_calendar, make, patch, acl}
use Rattle.cal_model.specs.State.ServerState.{ServerState, directory_of, user_name, user_number}
use Rattle.cal_model.specs.State.UserNames.{AreToldApart}
use Rattle.cal_model.specs.Users.UsersFile.{User, Users}
use Rattle.cal_model.specs.Words.Lists.{is_empty}
use Rattle.cal_keeper.specs.Files.EntryLaws.{FormIsBookable, SessionsAreAlike, RecordedIsLegal, RecordedLeadsAlike}
use Rattle.cal_keeper.specs.Files.Payloads.{home_of, calendar_of, IsName, IsKnown, ChangeHasForm}
use Rattle.cal_keeper.specs.Files.Standing.{recorded}
use Rattle.cal_keeper.specs.Principals.{counts_of}

-- Sessions

pub sessions_are_alike : SessionsAreAlike
unfolding outcome
sessions_are_alike directory state event session = alike (is_reading event.request.method)
  where
    alike : (reads : Bool) → outcome_where reads directory state (record event { session = session }) ≡ outcome_where reads directory state event
    alike true = refl
    alike false = refl

pub recorded_is_legal : RecordedIsLegal
recorded_is_legal directory state [] legal = tt
recorded_is_legal directory state (entry ∷ entries) legal =
    let alike = sessions_are_alike directory state (asked directory entry) 0 in
    let after : state_after directory state (asked directory (recorded entry)) ≡ state_after directory state (asked directory entry) = ap (state_of state) alike in (
      alike ∙ legal.0 ∙ ap (accepted entry.status) (sym after),
      subst (λ (s : ServerState). IsLegalFrom directory s (map recorded entries)) (sym after) (recorded_is_legal directory (state_after directory state (asked directory entry)) entries legal.1),
    )

pub recorded_leads_alike : RecordedLeadsAlike
recorded_leads_alike directory state [] = refl
recorded_leads_alike directory state (entry ∷ entries) =
    let after : state_after directory state (asked directory (recorded entry)) ≡ state_after directory state (asked directory entry) = ap (state_of state) (sessions_are_alike directory state (asked directory entry) 0) in
    recorded_leads_alike directory (state_after directory state (asked directory (recorded entry))) entries ∙ ap (λ (s : ServerState). replay_from directory s entries) after

-- What can be booked

module _ (users : Users) (told : AreToldApart (directory_of users)) where
  -- no user is without a name
  named : (home : ℕ) → home < length users.people → is_empty (user_name (directory_of users) home) ≡ false
  named home within = not_empty (user_name (directory_of users) home) (λ none.
      let own = told.own home (omega (arith, within, length-map users.people (λ (user : User). user.name))) in
      different (user_number (directory_of users) []) (user_number (directory_of users) (user_name (directory_of users) home)) told.named own (ap (user_number (directory_of users)) (sym none)))
    where
      different : (a b : Option ℕ) → a ≡ None → b ≡ Some home → a ≡ b → ⊥
      different a b absent there same = cc

      not_empty : (xs : List ℕ) → (xs ≡ [] → ⊥) → is_empty xs ≡ false
      not_empty [] some = absurd (some refl)
      not_empty (x ∷ xs) some = ne_eqb (length (x ∷ xs)) 0 (λ same. omega (arith, same))

  among : (who : Who) → IsKnown (counts_of users) who → IsAmong users who
  among Everyone known = tt
  among Owner known = tt
  among (Principal user) known = known
  among (Group group) known = known

  grants_among : (change : Change) → ChangeHasForm (counts_of users) change → GrantsAmong users (request_for (directory_of users) change).content
  grants_among (put home calendar object octets) form = tt
  grants_among (delete_object home calendar object) form = tt
  grants_among (delete_calendar home calendar) form = tt
  grants_among (make home calendar sets size) form = tt
  grants_among (patch home calendar sets size) form = tt
  grants_among (acl home calendar grants size) form = λ k d within.
      let grant = form.1 k d within in (among (get_or grants k d).who grant.0, omega (arith, grant.1))

  size_told : (change : Change) → SizeIsTold (request_for (directory_of users) change).size (request_for (directory_of users) change).content
  size_told (put home calendar object octets) = refl
  size_told (delete_object home calendar object) = tt
  size_told (delete_calendar home calendar) = tt
  size_told (make home calendar sets size) = tt
  size_told (patch home calendar sets size) = tt
  size_told (acl home calendar grants size) = tt

  zone_short : (change : Change) → ZoneIsShort (request_for (directory_of users) change).content
  zone_short (put home calendar object octets) = tt
  zone_short (delete_object home calendar object) = tt
  zone_short (delete_calendar home calendar) = tt
  zone_short (make home calendar sets size) = tt
  zone_short (patch home calendar sets size) = tt
  zone_short (acl home calendar grants size) = tt

  few : (change : Change) → ChangeHasForm (counts_of users) change → PropertiesAreFew (request_for (directory_of users) change).content
  few (put home calendar object octets) form = tt
  few (delete_object home calendar object) form = tt
  few (delete_calendar home calendar) form = tt
  few (make home calendar sets size) form = form.0
  few (patch home calendar sets size) form = form.0
  few (acl home calendar grants size) form = tt

  suits : (change : Change) → ChangeHasForm (counts_of users) change → Suits (request_for (directory_of users) change).method (request_for (directory_of users) change).content
  suits (put home calendar object octets) form = refl
  suits (delete_object home calendar object) form = refl
  suits (delete_calendar home calendar) form = refl
  suits (make home calendar sets size) form = refl
  suits (patch home calendar sets size) form = refl
  suits (acl home calendar grants size) form = (refl, form.0)

  allowed : (change : Change) → IsTrue (has_method (request_for (directory_of users) change).path (request_for (directory_of users) change).method)
  allowed (put home calendar object octets) = refl
  allowed (delete_object home calendar object) = refl
  allowed (delete_calendar home calendar) = refl
  allowed (make home calendar sets size) = refl
  allowed (patch home calendar sets size) = refl
  allowed (acl home calendar grants size) = refl

  calendar_path : (home : ℕ) (calendar : List ℕ) → home < length users.people → IsName calendar → IsTrue (is_path (request_for (directory_of users) (delete_calendar home calendar)).path)
  calendar_path home calendar within name = rw (named home within, name) refl

  object_path : (home : ℕ) (calendar object : List ℕ) → home < length users.people → IsName calendar → IsName object → IsTrue (is_path (request_for (directory_of users) (delete_object home calendar object)).path)
  object_path home calendar object within name own = rw (named home within, name, own) refl

  path_is : (change : Change) → home_of change < length users.people → IsName (calendar_of change) → ChangeHasForm (counts_of users) change → IsTrue (is_path (request_for (directory_of users) change).path)
  path_is (put home calendar object octets) within name form = object_path home calendar object within name form
  path_is (delete_object home calendar object) within name form = object_path home calendar object within name form
  path_is (delete_calendar home calendar) within name form = calendar_path home calendar within name
  path_is (make home calendar sets size) within name form = calendar_path home calendar within name
  path_is (patch home calendar sets size) within name form = calendar_path home calendar within name
  path_is (acl home calendar grants size) within name form = calendar_path home calendar within name

pub form_is_bookable : FormIsBookable
form_is_bookable users entry told form = record {
  user = form.who;
  grants = grants_among users told entry.change form.change;
  size = size_told users told entry.change;
  zone = zone_short users told entry.change;
  few = few users told entry.change form.change;
  suits = suits users told entry.change form.change;
  allowed = allowed users told entry.change;
  path = path_is users told entry.change form.home form.calendar form.change;
}
