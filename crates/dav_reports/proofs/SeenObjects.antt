-- An object of a calendar that a user may read is seen at its path.
use Rattle.std.proofs.Common.{◌≡◌, ℕ, ◌<◌, true, cond, List, [], ◌∷◌, length, map, Option, Some, None, refl, ap, ◌∙◌, arith}
use Rattle.std.specs.Prelude.{option_and_then, option_to_list}
use Rattle.std.proofs.lemmas.Option.{slice_get_within}
use Rattle.cal_base.specs.Lists.NameMap.{value_at}
use Rattle.cal_model.specs.declared.path.Path.TheVariants.{Object as ObjectPath}
use Rattle.cal_model.specs.Access.Privileges.{read}
use Rattle.cal_model.specs.State.ServerState.{Directory, Calendar, Home as UserHome, ServerState, user_name, user_number, home_at, calendar_at}
use Rattle.cal_model.specs.State.SoundStates.{IsSound}
use Rattle.cal_model.specs.State.UserNames.{AreToldApart}
use Rattle.cal_model.specs.Sight.Views.{sight_of}
use Rattle.cal_model.specs.Sight.Resources.{object}
use Rattle.cal_model.specs.Serving.SeenResources.{resources_seen}
use Rattle.cal_model.proofs.Sight.CalendarSights.{objects_read}
use Rattle.std.specs.Prelude.{Ok}
use Rattle.std.specs.Result.{result_ok}
use Rattle.cal_model.specs.declared.object.Object.{Object}
use Rattle.cal_model.specs.declared.row.Row.{Row}
use Rattle.cal_model.specs.declared.selection.Selection.{Selection}
use Rattle.cal_model.specs.declared.zone.ZoneTable.{ZoneTable}
use Rattle.cal_model.specs.Objects.ObjectReading.{read_object}
use Rattle.cal_model.specs.Selections.Picks.{picked_text}
use Rattle.cal_model.specs.Selections.ShownData.{shown as shown_by, shown_of_object, shown_tree, takes_all}
use Rattle.cal_model.specs.Serving.ReportReplies.{shown_octets}
use Rattle.dav_reports.specs.SeenCalendars.{MayRead}
use Rattle.dav_reports.specs.ShownObjects.{IsShown}

module _ (directory : Directory) (state : ServerState) (who : ℕ) where
  -- the object of a calendar that may be read
  pub object_seen : (user within name octets : List ℕ) (owner : ℕ) (c : Calendar) → IsSound directory state → user_number directory user ≡ Some owner → MayRead directory state who owner within c
      → value_at c.objects name ≡ Some octets → resources_seen directory state who (ObjectPath user within name) ≡ object user within name (sight_of directory owner who c) octets ∷ []
  object_seen user within name octets owner c sound known may found =
      objects_read directory state who user within name owner c sound known may.there may.may_read
      ∙ ap (λ o. map (object user within name (sight_of directory owner who c)) (option_to_list o)) found

-- a home of a calendar has a user
pub owner_known : (directory : Directory) (state : ServerState) (home : ℕ) (name : List ℕ) (c : Calendar) → IsSound directory state → calendar_at state home name ≡ Some c → home < length directory.names
owner_known directory state home name c sound there = by (home_at state home) refl there
  where
    by : (found : Option UserHome) → home_at state home ≡ found → option_and_then (λ (h : UserHome). value_at h.calendars name) found ≡ Some c → home < length directory.names
    by None e none = absurd cc
    by (Some h) e some = let below = slice_get_within state.homes home h e in let one = sound.one_each in omega (arith, below, one)

-- what a report shows of it is shown by a text
pub is_shown : (directory : Directory) (state : ServerState) (who home : ℕ) (name : List ℕ) (c : Calendar) (object_name octets text : List ℕ) (shown : List ℕ → List ℕ)
    → IsSound directory state → AreToldApart directory → MayRead directory state who home name c → value_at c.objects object_name ≡ Some octets → shown octets ≡ text
    → IsShown directory state who (ObjectPath (user_name directory home) name object_name) text shown (object (user_name directory home) name object_name (sight_of directory home who c) octets)
is_shown directory state who home name c object_name octets text shown sound told may found is =
    record {
      there = object_seen directory state who (user_name directory home) name object_name octets home c sound (told.own home (owner_known directory state home name c sound may.there)) may found;
      is_object = refl;
      may_read = may.may_read;
      is_text = is;
    }

-- what a report shows of stored octets
pub shown_is : (select : Selection) (zone : ZoneTable) (octets : List ℕ) (it : Object) → read_object octets ≡ Ok it → shown_octets select zone octets ≡ shown_of_object octets it select zone
shown_is select zone octets it reading = ap (λ (found : Option Object). elim found [ None ↦ octets | Some read ↦ shown_of_object octets read select zone ]) (ap result_ok reading)

-- stored octets that are shown as they are
pub shown_all : (octets : List ℕ) (it : Object) (rows : List Row) (select : Selection) (zone : ZoneTable) → takes_all select ≡ true → shown_by octets it rows select zone ≡ octets
shown_all octets it rows select zone all = ap (λ b. cond b octets (picked_text select.comp (shown_tree it rows select zone))) all
