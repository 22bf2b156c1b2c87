-- Sound changes keep states sound.
use Rattle.std.proofs.Common.{◌≡◌, ℕ, cond, List, [], ◌∷◌, length, Option, Some, None, refl, sym, ◌∙◌, subst, arith}
use Rattle.std.specs.Prelude.{bytes_eq, get_or, slice_set, All, IfSome, IsTrue}
use Rattle.std.specs.declared.cmp.Ordering.{Ordering}
use Rattle.std.specs.declared.cmp.Ordering.TheVariants.{Less, Equal, Greater}
use Rattle.std.specs.Ordering.{is_eq}
use Rattle.std.specs.List.Sorted.{IsStrictlySortedBy}
use Rattle.std.specs.Str.{is_utf8, chars}
use lib.Utf8.{encode}
use Rattle.std.proofs.lemmas.Cmp.{nat_list_cmp_total}
use Rattle.std.proofs.lemmas.List.{length-set, length-map}
use Rattle.std.proofs.lemmas.List.Elements.{All-set, All-nil, All-cons, All-map}
use Rattle.std.proofs.lemmas.Map.Lookups.{exact_bytes}
use Rattle.std.proofs.lemmas.Map.Views.{IfSome-lookup_from_All, All-values-insert_entry, All-map-remove_entry}
use Rattle.std.proofs.lemmas.List.Quantifiers.{position-Some}
use Rattle.std.proofs.lemmas.Option.{slice_get-get_or}
use Rattle.cal_base.specs.Lists.NameMap.{Named, value_at, with_value, name_order}
use Rattle.cal_model.proofs.Words.AllLemmas.{All-slice_get}
use Rattle.cal_model.specs.declared.property.PropSet.{PropSet}
use Rattle.cal_model.specs.declared.privilege.Grant.{Grant}
use Rattle.cal_model.specs.Paths.TargetPaths.{is_resource_name}
use Rattle.cal_model.specs.State.ServerState.{Directory, Calendar, Home, ServerState, user_number, home_at, with_home, with_calendar, charged, opening_state, first_home, first_calendar}
use Rattle.cal_model.specs.Properties.Settings.{set_on, made_by}
use Rattle.cal_model.specs.State.Changes.{Change, put, delete_object, delete_calendar, make, patch, acl, effect, with_octets, without_octets, with_grants, without_calendar, with_new_calendar}
use Rattle.cal_model.specs.Refusals.Preconditions.{IsServable}
use Rattle.cal_model.specs.State.SoundStates.{AreToUsers, AreNamed, IsSoundCalendar, IsSoundHome, IsSound, IsSoundChange}
use Rattle.cal_model.proofs.State.OrderLaws.{all_keys-insert, all_keys-remove, sorted-insert, sorted-remove}
use Rattle.cal_model.proofs.State.TextOrder.{in_order-after_all}
use Rattle.cal_model.specs.Serving.ServingLaws.{StatesStaySound}

-- a home that is changed
at_home : (directory : Directory) (state : ServerState) (user : ℕ) (change : Home → Home) (found : Option Home) → home_at state user ≡ found
    → ((home : Home) → IsSoundHome directory home → IsSoundHome directory (change home)) → IsSound directory state
    → IsSound directory (elim found [ None ↦ state | Some home ↦ record { homes = slice_set state.homes user (change home) } ])
at_home directory state user change None e keeps sound = sound
at_home directory state user change (Some home) e keeps sound = record {
  one_each = length-set state.homes user (change home) ∙ sound.one_each;
  homes = All-set (IsSoundHome directory) state.homes user (change home)
      (keeps home (All-slice_get (IsSoundHome directory) state.homes user home sound.homes e)) sound.homes;
}

with_home-sound : (directory : Directory) (state : ServerState) (user : ℕ) (change : Home → Home)
    → ((home : Home) → IsSoundHome directory home → IsSoundHome directory (change home)) → IsSound directory state → IsSound directory (with_home state user change)
with_home-sound directory state user change keeps sound = at_home directory state user change (home_at state user) refl keeps sound

-- what holds of a value that is there
in_option : {X : Type 0} (P : X → Type 0) (o : Option X) (x : X) → IfSome o P → o ≡ Some x → P x
in_option P o x holds e = subst (λ r. IfSome r P) e holds

-- a name that is there is one of them
named_there : {X : Type 0} (named : Named X) (name : List ℕ) (x : X) → AreNamed named → value_at named name ≡ Some x → IsTrue (is_resource_name name)
named_there [] name x all e = absurd cc
named_there (first ∷ named) name x all e = by (name_order name first.0) refl (named_there named name x all.1) e where
  by : (order : Ordering) → name_order name first.0 ≡ order → (value_at named name ≡ Some x → IsTrue (is_resource_name name))
      → cond (is_eq order) (Some first.1) (value_at named name) ≡ Some x → IsTrue (is_resource_name name)
  by Equal same later e = subst (λ other. IsTrue (is_resource_name other)) (sym (exact_bytes name first.0 same)) all.0
  by Less other later e = later e
  by Greater other later e = later e

-- a calendar that is changed
at_calendar : (directory : Directory) (name : List ℕ) (change : Calendar → Calendar) (home : Home) (found : Option Calendar) → value_at home.calendars name ≡ found
    → ((calendar : Calendar) → IsSoundCalendar directory calendar → IsSoundCalendar directory (change calendar)) → IsSoundHome directory home
    → IsSoundHome directory (elim found [ None ↦ home | Some calendar ↦ record home { calendars = with_value home.calendars name (change calendar) } ])
at_calendar directory name change home None e keeps sound = sound
at_calendar directory name change home (Some calendar) e keeps sound = record {
  named = all_keys-insert nat_list_cmp_total (λ other. IsTrue (is_resource_name other)) home.calendars name (change calendar) (named_there home.calendars name calendar sound.named e) sound.named;
  in_order = sorted-insert nat_list_cmp_total home.calendars name (change calendar) sound.in_order;
  calendars = All-values-insert_entry name_order name (change calendar) (IsSoundCalendar directory) home.calendars sound.calendars
      (keeps calendar (in_option (IsSoundCalendar directory) (value_at home.calendars name) calendar (IfSome-lookup_from_All (IsSoundCalendar directory) _ home.calendars sound.calendars) e));
}

with_calendar-sound : (directory : Directory) (name : List ℕ) (change : Calendar → Calendar)
    → ((calendar : Calendar) → IsSoundCalendar directory calendar → IsSoundCalendar directory (change calendar))
    → (home : Home) → IsSoundHome directory home → IsSoundHome directory (with_calendar name change home)
with_calendar-sound directory name change keeps home sound = at_calendar directory name change home (value_at home.calendars name) refl keeps sound

charged-sound : (directory : Directory) (size : ℕ) (home : Home) → IsSoundHome directory home → IsSoundHome directory (charged size home)
charged-sound directory size home sound = record { named = sound.named; in_order = sound.in_order; calendars = sound.calendars }

-- Changes of a calendar

with_octets-sound : (directory : Directory) (name octets : List ℕ) → IsTrue (is_resource_name name) × IsServable octets → (calendar : Calendar) → IsSoundCalendar directory calendar → IsSoundCalendar directory (with_octets name octets calendar)
with_octets-sound directory name octets new calendar sound = record {
  grants = sound.grants;
  texts_in_order = sound.texts_in_order;
  objects_named = all_keys-insert nat_list_cmp_total (λ other. IsTrue (is_resource_name other)) calendar.objects name octets new.0 sound.objects_named;
  objects_in_order = sorted-insert nat_list_cmp_total calendar.objects name octets sound.objects_in_order;
  servable = All-values-insert_entry name_order name octets IsServable calendar.objects sound.servable new.1;
}

without_octets-sound : (directory : Directory) (name : List ℕ) (calendar : Calendar) → IsSoundCalendar directory calendar → IsSoundCalendar directory (without_octets name calendar)
without_octets-sound directory name calendar sound = record {
  grants = sound.grants;
  texts_in_order = sound.texts_in_order;
  objects_named = all_keys-remove nat_list_cmp_total (λ other. IsTrue (is_resource_name other)) _ calendar.objects sound.objects_named;
  objects_in_order = sorted-remove nat_list_cmp_total _ calendar.objects sound.objects_in_order;
  servable = All-map-remove_entry _ (λ entry. entry.1) IsServable calendar.objects sound.servable;
}

with_grants-sound : (directory : Directory) (grants : List Grant) → AreToUsers directory grants → (calendar : Calendar) → IsSoundCalendar directory calendar → IsSoundCalendar directory (with_grants grants calendar)
with_grants-sound directory grants users calendar sound = record {
  grants = users;
  texts_in_order = sound.texts_in_order;
  objects_named = sound.objects_named;
  objects_in_order = sound.objects_in_order;
  servable = sound.servable;
}

-- properties
set_on-sound : (directory : Directory) (sets : List PropSet) (calendar : Calendar) → IsSoundCalendar directory calendar → IsSoundCalendar directory (set_on sets calendar)
set_on-sound directory sets calendar sound = record {
  grants = sound.grants;
  texts_in_order = in_order-after_all sets calendar.texts sound.texts_in_order;
  objects_named = sound.objects_named;
  objects_in_order = sound.objects_in_order;
  servable = sound.servable;
}

made_by-sound : (directory : Directory) (sets : List PropSet) → IsSoundCalendar directory (made_by sets)
unfolding IsStrictlySortedBy
made_by-sound directory sets = set_on-sound directory sets _ (record { grants = All-nil _; texts_in_order = tt; objects_named = tt; objects_in_order = tt; servable = All-nil _ })

without_calendar-sound : (directory : Directory) (name : List ℕ) (home : Home) → IsSoundHome directory home → IsSoundHome directory (without_calendar name home)
without_calendar-sound directory name home sound = record {
  named = all_keys-remove nat_list_cmp_total (λ other. IsTrue (is_resource_name other)) _ home.calendars sound.named;
  in_order = sorted-remove nat_list_cmp_total _ home.calendars sound.in_order;
  calendars = All-map-remove_entry _ (λ entry. entry.1) (IsSoundCalendar directory) home.calendars sound.calendars;
}

with_new_calendar-sound : (directory : Directory) (name : List ℕ) (calendar : Calendar) → IsTrue (is_resource_name name) → IsSoundCalendar directory calendar → (home : Home) → IsSoundHome directory home → IsSoundHome directory (with_new_calendar name calendar home)
with_new_calendar-sound directory name calendar fits new home sound = record {
  named = all_keys-insert nat_list_cmp_total (λ other. IsTrue (is_resource_name other)) home.calendars name calendar fits sound.named;
  in_order = sorted-insert nat_list_cmp_total home.calendars name calendar sound.in_order;
  calendars = All-values-insert_entry name_order name calendar (IsSoundCalendar directory) home.calendars sound.calendars new;
}

-- The state after a sound change is sound.
pub effect-sound : (directory : Directory) (change : Change) (state : ServerState) → IsSoundChange directory change → IsSound directory state → IsSound directory (effect change state)
unfolding effect
effect-sound directory (put home calendar object octets) state new sound =
    with_home-sound directory state home _ (λ h s. charged-sound directory (length octets) (with_calendar calendar (with_octets object octets) h)
    (with_calendar-sound directory calendar (with_octets object octets) (with_octets-sound directory object octets new) h s)) sound
effect-sound directory (delete_object home calendar object) state new sound =
    with_home-sound directory state home _ (with_calendar-sound directory calendar (without_octets object) (without_octets-sound directory object)) sound
effect-sound directory (delete_calendar home calendar) state new sound = with_home-sound directory state home _ (without_calendar-sound directory calendar) sound
effect-sound directory (make home calendar sets size) state new sound =
    with_home-sound directory state home _ (λ h s. charged-sound directory size (with_new_calendar calendar (made_by sets) h)
    (with_new_calendar-sound directory calendar (made_by sets) new (made_by-sound directory sets) h s)) sound
effect-sound directory (patch home calendar sets size) state new sound =
    with_home-sound directory state home _ (λ h s. charged-sound directory size (with_calendar calendar (set_on sets) h)
    (with_calendar-sound directory calendar (set_on sets) (set_on-sound directory sets) h s)) sound
effect-sound directory (acl home calendar grants size) state new sound =
    with_home-sound directory state home _ (λ h s. charged-sound directory size (with_calendar calendar (with_grants grants) h)
    (with_calendar-sound directory calendar (with_grants grants) (with_grants-sound directory grants new) h s)) sound

-- The state at the start is sound.
first-sound : (directory : Directory) → IsSoundHome directory first_home
unfolding IsStrictlySortedBy is_utf8 chars encode
first-sound directory = record {
  named = (refl, tt);
  in_order = (tt, tt);
  calendars = All-cons (IsSoundCalendar directory) first_calendar [] (record { grants = All-nil _; texts_in_order = (tt, tt); objects_named = tt; objects_in_order = tt; servable = All-nil _ }) (All-nil (IsSoundCalendar directory));
}

pub opening-sound : (directory : Directory) → IsSound directory (opening_state directory)
unfolding opening_state
opening-sound directory = record {
  one_each = length-map directory.names (λ name. first_home);
  homes = All-map (IsSoundHome directory) (λ name. first_home) directory.names (All-everywhere directory.names);
} where
  All-everywhere : (names : List (List ℕ)) → All (λ name. IsSoundHome directory first_home) names
  All-everywhere [] = All-nil (λ name. IsSoundHome directory first_home)
  All-everywhere (name ∷ names) = All-cons (λ name. IsSoundHome directory first_home) name names (first-sound directory) (All-everywhere names)

-- each user has a home
pub home_there : (directory : Directory) (state : ServerState) (name : List ℕ) (owner : ℕ) → IsSound directory state → user_number directory name ≡ Some owner
    → (home : Home) × (home_at state owner ≡ Some home)
home_there directory state name owner sound known =
    let within = (position-Some (bytes_eq name) directory.names owner [] known).0 in
    (get_or state.homes owner first_home, slice_get-get_or state.homes owner first_home (omega (arith, within, sound.one_each)))

pub states_stay_sound : StatesStaySound
states_stay_sound = record { opening = opening-sound; changed = effect-sound }
