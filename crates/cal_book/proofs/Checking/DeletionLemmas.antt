-- What a DELETE deletes is there.
use Rattle.std.proofs.Common.{◌≡◌, ℕ, false, ◌&&◌, List, Option, Some, None, refl, sym, ap, ◌∙◌, subst}
use Rattle.std.specs.Prelude.{is_some, is_none, option_and_then, IsSome}
use Rattle.std.proofs.lemmas.Bool.{false≢true}
use Rattle.cal_base.specs.Lists.NameMap.{value_at}
use Rattle.cal_model.specs.declared.path.Path.{Path}
use Rattle.cal_model.specs.declared.path.Path.TheVariants.{Root, Principal, Home, Calendar, Object}
use Rattle.cal_model.specs.declared.request.Method.TheVariants.{Delete}
use Rattle.cal_model.specs.declared.request.Request.{Request}
use Rattle.cal_model.specs.Objects.ObjectReading.{first_there}
use Rattle.cal_model.specs.Refusals.ChangeRefusals.{own_rows}
use Rattle.cal_model.specs.Refusals.SharedRefusals.{needs_object}
use Rattle.cal_model.specs.Serving.Outcomes.{accepted_status}
use Rattle.cal_model.specs.Sight.Scenes.{Scene as Sighted, user_in, calendar_in, object_in}
use Rattle.cal_model.specs.State.Changes.{delete_object, delete_calendar, change_of_object, change_of_calendar}
use Rattle.cal_model.specs.State.ServerState.{Directory, Calendar as CalendarState, ServerState, octets_at}
use Rattle.request_checks.specs.declared.scenes.Scene.{Scene}
use Rattle.cal_book.specs.declared.changes.places.Place.{Place}
use Rattle.cal_book.specs.Checking.Checks.{IsDeleted}
use Rattle.cal_book.specs.Checking.OwnChecks.{IsOwnDeletion}
use Rattle.cal_book.specs.Checking.Passed.{IsPassed, sighted}
use Rattle.cal_book.specs.Checking.Places.{IsPlace}
use Rattle.cal_book.proofs.Checking.PassedLemmas.{object_not_missing}
use Rattle.cal_book.proofs.Checking.PlaceLemmas.{path_with, object_seen}
use Rattle.cal_book.proofs.Checking.ChangeLemmas.{user_known, change_of_object_is, change_of_calendar_is}

not_none : {X : Type 0} (o : Option X) → is_none o ≡ false → IsSome o
not_none None e = absurd (false≢true (sym e))
not_none (Some x) e = refl

module _ (directory : Directory) (state : ServerState) (shown : Scene) (request : Request) (passed : IsPassed directory state shown request) (how : request.method ≡ Delete)
    (place : Place) (is : IsPlace directory state (sighted directory state shown) place) where
  abbrev scene : Sighted
  scene = sighted directory state shown

  status_is : accepted_status scene request.method ≡ 204
  status_is = ap (accepted_status scene) how

  passes : first_there (own_rows state scene request request.method) ≡ None
  passes = ap (λ method. first_there (own_rows state scene request method)) how

  -- the path as the calendar's place has it
  named : calendar_in request.path ≡ Some place.calendar.now
  named = ap calendar_in (sym passed.path_is ∙ passed.scene.path) ∙ is.named

  of_object : (user calendar object : List ℕ) → request.path ≡ Object user calendar object → IsOwnDeletion directory state scene request place.home
  of_object user calendar object path_is =
      let at = path_with request.path user calendar object place.calendar.now path_is named in
      let shown_at = passed.path_is ∙ at in
      let scene_path = sym passed.scene.path ∙ shown_at in
      let missing : is_none scene.object ≡ false =
      sym ((λ i. needs_object (how i) && is_some (object_in (scene_path i)) && is_none scene.object)) ∙ object_not_missing directory state shown request passed in
      let seen = object_seen directory state shown request passed place is user object shown_at in
      let there : IsSome (octets_at state place.home place.calendar.now object) =
      subst IsSome (sym (ap (option_and_then (λ (c : CalendarState). value_at c.objects object)) is.there)) (subst IsSome seen (not_none scene.object missing)) in
      let change = delete_object place.home place.calendar.now object in
      record {
        passes = passes;
        change = change;
        asked_is = change_of_object_is directory request place.home user place.calendar.now object at
            (user_known directory state shown.who shown.path.now place.home user is.user_is (ap user_in shown_at))
            ∙ ap (λ method. change_of_object method request.content place.home place.calendar.now object) how;
        status_is = status_is;
        deletes = refl;
        deleted = subst (λ path. IsDeleted state place.home path change) (sym at) (refl, there);
      }

  of_calendar : (user calendar : List ℕ) → request.path ≡ Calendar user calendar → IsOwnDeletion directory state scene request place.home
  of_calendar user calendar path_is =
      let same : Some calendar ≡ Some place.calendar.now = sym (ap calendar_in path_is) ∙ named in
      let names : calendar ≡ place.calendar.now = cc in
      let at = path_is ∙ ap (Calendar user) names in
      let change = delete_calendar place.home place.calendar.now in
      record {
        passes = passes;
        change = change;
        asked_is = change_of_calendar_is directory request place.home user place.calendar.now at
            (user_known directory state shown.who shown.path.now place.home user is.user_is (ap user_in (passed.path_is ∙ at)))
            ∙ ap (λ method. change_of_calendar method request.content place.home place.calendar.now request.size) how;
        status_is = status_is;
        deletes = refl;
        deleted = subst (λ path. IsDeleted state place.home path change) (sym at) (refl, ap is_some is.there);
      }

  by_path : (path : Path) → request.path ≡ path → IsSome (calendar_in path) → IsOwnDeletion directory state scene request place.home
  by_path Root path_is has = absurd (false≢true has)
  by_path (Principal user) path_is has = absurd (false≢true has)
  by_path (Home user) path_is has = absurd (false≢true has)
  by_path (Calendar user calendar) path_is has = of_calendar user calendar path_is
  by_path (Object user calendar object) path_is has = of_object user calendar object path_is

  pub deletion : IsOwnDeletion directory state scene request place.home
  deletion = by_path request.path refl (ap is_some named)
