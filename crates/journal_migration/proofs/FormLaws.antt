-- An entry in the form is in the form for the new users, and has a payload of the same length.
use Rattle.std.proofs.Common.{◌≡◌, ℕ, suc, ◌+◌, ◌<◌, ◌≤◌, List, [], ◌∷◌, length, map, refl, sym, ◌∙◌, ap, subst, length-append}
use Rattle.std.specs.Prelude.{flat_map}
use Rattle.std.specs.List.{AllByRecursion}
use Rattle.std.proofs.lemmas.List.{length-map}
use Rattle.std.proofs.lemmas.List.Elements.{All-map}
use Rattle.cal_model.specs.declared.privilege.Grant.{Grant}
use Rattle.cal_model.specs.declared.privilege.Who.{Who}
use Rattle.cal_model.specs.declared.privilege.Who.TheVariants.{Everyone, Owner, Principal, Group}
use Rattle.cal_model.specs.Bodies.AclBodies.{grant_limit}
use Rattle.cal_model.specs.History.Journal.{Entry}
use Rattle.cal_model.specs.State.Changes.{Change, put, delete_object, delete_calendar, make, patch, acl}
use Rattle.cal_model.specs.Users.UsersFile.{Users}
use Rattle.cal_keeper.specs.Files.Payloads.{home_of, calendar_of, shared_text, own_text, grant_text, payload_of, IsName, IsKnown, GrantHasForm, ChangeHasForm, HasForm}
use Rattle.cal_keeper.specs.Files.RecordForm.{payload_limit}
use Rattle.cal_keeper.specs.Files.Standing.{IsRecorded}
use Rattle.cal_keeper.specs.Principals.{counts_of}
use Rattle.journal_migration.specs.Renumbering.{AreAllIn, moved_who, moved_grant, moved_change, moved_entry, moved_entries}
use Rattle.journal_migration.proofs.NameLaws.{moved_within, group_within}
use Rattle.journal_migration.proofs.StateLaws.{moved_home_of}

module _ (old new : Users) where
  -- Lengths

  grant_length : (grant : Grant) → length (grant_text (moved_grant old new grant)) ≡ length (grant_text grant)
  grant_length grant = by grant.who where
    by : (who : Who) → length (grant_text (record { who = moved_who old new who; held = grant.held })) ≡ length (grant_text (record { who = who; held = grant.held }))
    by Everyone = refl
    by Owner = refl
    by (Principal user) = refl
    by (Group group) = refl

  grants_length : (grants : List Grant) → length (flat_map grant_text (map (moved_grant old new) grants)) ≡ length (flat_map grant_text grants)
  grants_length [] = refl
  grants_length (grant ∷ grants) =
      length-append (grant_text (moved_grant old new grant)) (flat_map grant_text (map (moved_grant old new) grants))
      ∙ ap (λ (n : ℕ). n + length (flat_map grant_text (map (moved_grant old new) grants))) (grant_length grant)
      ∙ ap (λ (n : ℕ). length (grant_text grant) + n) (grants_length grants)
      ∙ sym (length-append (grant_text grant) (flat_map grant_text grants))

  shared_length : (entry : Entry) → length (shared_text (moved_entry old new entry)) ≡ length (shared_text entry)
  shared_length entry = by entry.change where
    by : (change : Change) → length (shared_text (moved_entry old new (record entry { change = change }))) ≡ length (shared_text (record entry { change = change }))
    by (put home calendar object octets) = refl
    by (delete_object home calendar object) = refl
    by (delete_calendar home calendar) = refl
    by (make home calendar sets size) = refl
    by (patch home calendar sets size) = refl
    by (acl home calendar grants size) = refl

  own_length : (change : Change) → length (own_text (moved_change old new change)) ≡ length (own_text change)
  own_length (put home calendar object octets) = refl
  own_length (delete_object home calendar object) = refl
  own_length (delete_calendar home calendar) = refl
  own_length (make home calendar sets size) = refl
  own_length (patch home calendar sets size) = refl
  own_length (acl home calendar grants size) = ap (λ (n : ℕ). suc (suc (suc (suc (suc n))))) (grants_length grants)

  pub payload_length : (entry : Entry) → length (payload_of (moved_entry old new entry)) ≡ length (payload_of entry)
  payload_length entry =
      length-append (shared_text (moved_entry old new entry)) (own_text (moved_change old new entry.change))
      ∙ ap (λ (n : ℕ). n + length (own_text (moved_change old new entry.change))) (shared_length entry)
      ∙ ap (λ (n : ℕ). length (shared_text entry) + n) (own_length entry.change)
      ∙ sym (length-append (shared_text entry) (own_text entry.change))

  -- The form

  calendar_kept : (change : Change) → calendar_of (moved_change old new change) ≡ calendar_of change
  calendar_kept (put home calendar object octets) = refl
  calendar_kept (delete_object home calendar object) = refl
  calendar_kept (delete_calendar home calendar) = refl
  calendar_kept (make home calendar sets size) = refl
  calendar_kept (patch home calendar sets size) = refl
  calendar_kept (acl home calendar grants size) = refl

  module _ (all : AreAllIn old new) where
    known_moved : (who : Who) → IsKnown (counts_of old) who → IsKnown (counts_of new) (moved_who old new who)
    known_moved Everyone known = tt
    known_moved Owner known = tt
    known_moved (Principal user) known = moved_within old new all user known
    known_moved (Group group) known = group_within old new all group known

    change_moved : (change : Change) → ChangeHasForm (counts_of old) change → ChangeHasForm (counts_of new) (moved_change old new change)
    change_moved (put home calendar object octets) form = form
    change_moved (delete_object home calendar object) form = form
    change_moved (delete_calendar home calendar) form = form
    change_moved (make home calendar sets size) form = form
    change_moved (patch home calendar sets size) form = form
    change_moved (acl home calendar grants size) form = (
      subst (λ (n : ℕ). n ≤ grant_limit) (sym (length-map grants (moved_grant old new))) form.0,
      All-map (GrantHasForm (counts_of new)) (moved_grant old new) grants (λ d k within. (known_moved _ (form.1 d k within).0, (form.1 d k within).1)),
      form.2,
    )

    pub form_moved : (entry : Entry) → HasForm (counts_of old) entry → HasForm (counts_of new) (moved_entry old new entry)
    form_moved entry form = record {
      who = moved_within old new all entry.who form.who;
      home = subst (λ (n : ℕ). n < length new.people) (sym (moved_home_of old new entry.change)) (moved_within old new all (home_of entry.change) form.home);
      moment = form.moment;
      to_9999 = form.to_9999;
      status = form.status;
      calendar = subst IsName (sym (calendar_kept entry.change)) form.calendar;
      change = change_moved entry.change form.change;
      short = subst (λ (n : ℕ). n ≤ payload_limit) (sym (payload_length entry)) form.short;
    }

    pub recorded_moved : (entry : Entry) → IsRecorded old entry → IsRecorded new (moved_entry old new entry)
    recorded_moved entry is = record { session = is.session; form = form_moved entry is.form }

    pub all_recorded : (entries : List Entry) → AllByRecursion (IsRecorded old) entries → AllByRecursion (IsRecorded new) (moved_entries old new entries)
    all_recorded [] is = tt
    all_recorded (entry ∷ entries) is = (recorded_moved entry is.0, all_recorded entries is.1)
