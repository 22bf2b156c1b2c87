-- The change that a request asks for, once its path, its content and its user are known.
use Rattle.std.proofs.Common.{◌≡◌, ℕ, ◌<◌, true, List, length, Some, sym, ap, ◌∙◌, subst, arith}
use Rattle.std.specs.Prelude.{option_and_then, IsTrue}
use Rattle.std.proofs.lemmas.List.{length-map}
use Rattle.std.proofs.lemmas.List.Elements.{All-weaker}
use Rattle.cal_base.proofs.Xml.XmlNameLemmas.{both_true}
use Rattle.cal_model.specs.declared.path.Path.{Path}
use Rattle.cal_model.specs.declared.path.Path.TheVariants.{Root, Principal, Home, Calendar, Object}
use Rattle.cal_model.specs.declared.privilege.Grant.{Grant}
use Rattle.cal_model.specs.declared.privilege.Who.{Who}
use Rattle.cal_model.specs.declared.privilege.Who.TheVariants.{Everyone, Owner, Principal as ToPrincipal, Group as ToGroup}
use Rattle.cal_model.specs.declared.request.Content.{Content}
use Rattle.cal_model.specs.declared.request.Content.TheVariants as content
use Rattle.cal_model.specs.declared.request.Request.{Request}
use Rattle.cal_model.specs.Bodies.AclLaws.{IsAmong, IsGrantAmong}
use Rattle.cal_model.specs.Paths.TargetPaths.{is_path, is_resource_name}
use Rattle.cal_model.specs.Sight.Scenes.{scene_at, user_in, calendar_in}
use Rattle.cal_model.specs.Sight.Views.{whole_sight, view_by}
use Rattle.cal_model.specs.State.Changes.{change_at, change_of, change_of_object, change_of_calendar}
use Rattle.cal_model.specs.State.ServerState.{Directory, ServerState, directory_of, user_number}
use Rattle.cal_model.specs.State.SoundStates.{IsToUser, AreToUsers}
use Rattle.cal_model.specs.Requests.ContentBounds.{GrantsAmong}
use Rattle.cal_model.specs.Users.UsersFile.{User, Users}
use Rattle.request_checks.specs.declared.scenes.Scene.{Scene}
use Rattle.cal_book.specs.declared.changes.places.Place.{Place}
use Rattle.cal_book.specs.Checking.Checks.{IsAskedOf}
use Rattle.cal_book.specs.Checking.Passed.{IsPassed, IsOfCalendar, sighted}
use Rattle.cal_book.specs.Checking.Places.{IsPlace}
use Rattle.cal_book.proofs.Checking.PassedLemmas.{is_of_calendars, of_calendar}

-- Names

pub object_named : (path : Path) (user calendar object : List ℕ) → path ≡ Object user calendar object → IsTrue (is_path path) → IsTrue (is_resource_name object)
object_named path user calendar object at is = (both_true _ _ (subst (λ p. IsTrue (is_path p)) at is)).1

pub calendar_named : (path : Path) (user calendar : List ℕ) → path ≡ Calendar user calendar → IsTrue (is_path path) → IsTrue (is_resource_name calendar)
calendar_named path user calendar at is = (both_true _ _ (subst (λ p. IsTrue (is_path p)) at is)).1

-- the number of the user in a path
pub user_known : (directory : Directory) (state : ServerState) (who : ℕ) (path : Path) (home : ℕ) (user : List ℕ) → (scene_at directory (view_by whole_sight directory state who) who path).user ≡ Some home
    → user_in path ≡ Some user → user_number directory user ≡ Some home
unfolding scene_at
user_known directory state who path home user known named = sym (ap (option_and_then (user_number directory)) named) ∙ known

-- who asks is a user that there is
pub asker_known : (directory : Directory) (who : ℕ) (request : Request) → IsAskedOf directory who request → who < length directory.names
asker_known directory who request asked =
    subst (λ (d : Directory). who < length d.names) asked.users_are (omega (arith, asked.bookable.user, length-map asked.users.people (λ (user : User). user.name)))

-- Changes

pub change_of_object_is : (directory : Directory) (request : Request) (home : ℕ) (user calendar object : List ℕ) → request.path ≡ Object user calendar object → user_number directory user ≡ Some home
    → change_of directory request ≡ change_of_object request.method request.content home calendar object
unfolding change_of
change_of_object_is directory request home user calendar object path_is known =
    ap (change_at directory request) path_is ∙ ap (option_and_then (λ n. change_of_object request.method request.content n calendar object)) known

pub change_of_calendar_is : (directory : Directory) (request : Request) (home : ℕ) (user calendar : List ℕ) → request.path ≡ Calendar user calendar → user_number directory user ≡ Some home
    → change_of directory request ≡ change_of_calendar request.method request.content home calendar request.size
unfolding change_of
change_of_calendar_is directory request home user calendar path_is known =
    ap (change_at directory request) path_is ∙ ap (option_and_then (λ n. change_of_calendar request.method request.content n calendar request.size)) known

-- a path of a calendar, by its name
pub calendar_path : (path : Path) (name : List ℕ) → IsOfCalendar path → calendar_in path ≡ Some name → (user : List ℕ) × (path ≡ Calendar user name)
calendar_path Root name is named = absurd is
calendar_path (Principal user) name is named = absurd is
calendar_path (Home user) name is named = absurd is
calendar_path (Calendar user calendar) name is named = (user, ap (Calendar user) (let same : Some calendar ≡ Some name = named in cc))
calendar_path (Object user calendar object) name is named = absurd is

module _ (directory : Directory) (state : ServerState) (shown : Scene) (request : Request) (passed : IsPassed directory state shown request) (of_calendars : is_of_calendars request.method ≡ true) where
  pub change_at_place : (place : Place) → IsPlace directory state (sighted directory state shown) place
      → change_of directory request ≡ change_of_calendar request.method request.content place.home place.calendar.now request.size
  change_at_place place is =
      let here = sym passed.path_is ∙ passed.scene.path in
      let at = calendar_path request.path place.calendar.now (of_calendar request.path request.method passed.asked.bookable.allowed of_calendars) (ap calendar_in here ∙ is.named) in
      change_of_calendar_is directory request place.home at.0 place.calendar.now at.1
      (user_known directory state shown.who shown.path.now place.home at.0 is.user_is (ap user_in (passed.path_is ∙ at.1)))

-- grants to the users and the groups of a file are grants to users and groups that there are
pub grants_to_users : (directory : Directory) (users : Users) (what : Content) (grants : List Grant) → directory_of users ≡ directory → what ≡ content.Acl grants → GrantsAmong users what → AreToUsers directory grants
grants_to_users directory users what grants are is among =
    subst (λ d. AreToUsers d grants) are
    (All-weaker (IsGrantAmong users) (λ (grant : Grant). IsToUser (directory_of users) grant.who) to_user grants (subst (GrantsAmong users) is among)) where
      to_user : (grant : Grant) → IsGrantAmong users grant → IsToUser (directory_of users) grant.who
      to_user grant is = by grant.who is.0 where
        by : (who : Who) → IsAmong users who → IsToUser (directory_of users) who
        by Everyone is = tt
        by Owner is = tt
        by (ToPrincipal number) is = omega (arith, is, length-map users.people (λ (user : User). user.name))
        by (ToGroup number) is = is
