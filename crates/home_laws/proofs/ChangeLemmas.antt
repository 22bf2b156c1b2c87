-- The change that a request asks for is in the home that it is about, and is an effect on that home alone.
use Rattle.std.proofs.Common.{◌≡◌, ◌≢◌, ℕ, ◌<◌, ◌≤◌, List, length, Option, Some, None, refl, sym, ap, ◌∙◌, subst, arith, ◌⊎◌, inl, inr}
use Rattle.std.specs.Prelude.{slice_get, slice_set, option_map, option_and_then, get_or}
use Rattle.std.proofs.lemmas.List.{get_or-set_same, get_or-set_other, length-set}
use Rattle.std.proofs.lemmas.Option.{slice_get-get_or, slice_get_cases, slice_get_past}
use Rattle.cal_model.specs.declared.path.Path.{Path}
use Rattle.cal_model.specs.declared.path.Path.TheVariants as path
use Rattle.cal_model.specs.declared.request.Content.{Content}
use Rattle.cal_model.specs.declared.request.Content.TheVariants as content
use Rattle.cal_model.specs.declared.request.Method.{Method}
use Rattle.cal_model.specs.declared.request.Method.TheVariants as method
use Rattle.cal_model.specs.declared.request.Request.{Request}
use Rattle.cal_model.specs.Properties.Settings.{set_on, made_by}
use Rattle.cal_model.specs.Sight.Scenes.{user_in}
use Rattle.cal_model.specs.State.Changes.{Change, put, delete_object, delete_calendar, make, patch, acl, effect, change_of, change_at, change_of_object, change_of_calendar, with_octets, without_octets, with_grants, without_calendar, with_new_calendar}
use Rattle.cal_model.specs.State.ServerState.{Directory, Home, ServerState, user_number, home_at, with_home, with_calendar, charged}

-- the home of a change, and what the change makes of it
abbrev pub home_of : Change → ℕ
home_of (put home calendar object octets) = home
home_of (delete_object home calendar object) = home
home_of (delete_calendar home calendar) = home
home_of (make home calendar sets size) = home
home_of (patch home calendar sets size) = home
home_of (acl home calendar grants size) = home

abbrev pub made_of : Change → Home → Home
made_of (put home calendar object octets) h = charged (length octets) (with_calendar calendar (with_octets object octets) h)
made_of (delete_object home calendar object) h = with_calendar calendar (without_octets object) h
made_of (delete_calendar home calendar) h = without_calendar calendar h
made_of (make home calendar sets size) h = charged size (with_new_calendar calendar (made_by sets) h)
made_of (patch home calendar sets size) h = charged size (with_calendar calendar (set_on sets) h)
made_of (acl home calendar grants size) h = charged size (with_calendar calendar (with_grants grants) h)

effect-home : (change : Change) (state : ServerState) → effect change state ≡ with_home state (home_of change) (made_of change)
unfolding effect
effect-home (put home calendar object octets) state = refl
effect-home (delete_object home calendar object) state = refl
effect-home (delete_calendar home calendar) state = refl
effect-home (make home calendar sets size) state = refl
effect-home (patch home calendar sets size) state = refl
effect-home (acl home calendar grants size) state = refl

-- One home is changed

slice_get-set_same : {X : Type 0} (xs : List X) (n : ℕ) (x y : X) → slice_get xs n ≡ Some x → slice_get (slice_set xs n y) n ≡ Some y
slice_get-set_same xs n x y found = by_place (slice_get_cases xs n).1 where
  by_place : ((z : _) × (n < length xs) × (slice_get xs n ≡ Some z) × (get_or xs n z ≡ z)) ⊎ ((length xs ≤ n) × (slice_get xs n ≡ None)) → slice_get (slice_set xs n y) n ≡ Some y
  by_place (inl there) = slice_get-get_or (slice_set xs n y) n y (omega (arith, there.1, length-set xs n y)) ∙ ap Some (get_or-set_same xs n y y there.1)
  by_place (inr past) = absurd (cc (past.1, found))

slice_get-set_other : {X : Type 0} (xs : List X) (n m : ℕ) (y : X) → m ≢ n → slice_get (slice_set xs n y) m ≡ slice_get xs m
slice_get-set_other xs n m y apart = by_place (slice_get_cases xs m).1 where
  by_place : ((z : _) × (m < length xs) × (slice_get xs m ≡ Some z) × (get_or xs m z ≡ z)) ⊎ ((length xs ≤ m) × (slice_get xs m ≡ None)) → slice_get (slice_set xs n y) m ≡ slice_get xs m
  by_place (inl there) =
      slice_get-get_or (slice_set xs n y) m there.0 (omega (arith, there.1, length-set xs n y))
      ∙ ap Some (get_or-set_other xs n m y there.0 apart ∙ there.3)
      ∙ sym there.2
  by_place (inr past) = slice_get_past (slice_set xs n y) m (omega (arith, past.0, length-set xs n y)) ∙ sym past.1

at_found : (state : ServerState) (home : ℕ) (change : Home → Home) (found : Option Home) → home_at state home ≡ found
    → home_at (elim found [ None ↦ state | Some h ↦ record { homes = slice_set state.homes home (change h) } ]) home ≡ option_map change found
at_found state home change None e = e
at_found state home change (Some h) e = slice_get-set_same state.homes home h (change h) e

pub with_home-same : (state : ServerState) (home : ℕ) (change : Home → Home) → home_at (with_home state home change) home ≡ option_map change (home_at state home)
with_home-same state home change = at_found state home change (home_at state home) refl

at_other : (state : ServerState) (home other : ℕ) (change : Home → Home) (found : Option Home) → other ≢ home
    → home_at (elim found [ None ↦ state | Some h ↦ record { homes = slice_set state.homes home (change h) } ]) other ≡ home_at state other
at_other state home other change None apart = refl
at_other state home other change (Some h) apart = slice_get-set_other state.homes home other (change h) apart

pub with_home-other : (state : ServerState) (home other : ℕ) (change : Home → Home) → other ≢ home → home_at (with_home state home change) other ≡ home_at state other
with_home-other state home other change apart = at_other state home other change (home_at state home) apart

pub effect-same : (change : Change) (a b : ServerState) (home : ℕ) → home_of change ≡ home → home_at a home ≡ home_at b home → home_at (effect change a) home ≡ home_at (effect change b) home
effect-same change a b home at same =
    let of_a = ap (λ state. home_at state home) (effect-home change a ∙ ap (λ h. with_home a h (made_of change)) at) ∙ with_home-same a home (made_of change) in
    let of_b = ap (λ state. home_at state home) (effect-home change b ∙ ap (λ h. with_home b h (made_of change)) at) ∙ with_home-same b home (made_of change) in
    of_a ∙ ap (option_map (made_of change)) same ∙ sym of_b

pub effect-other : (change : Change) (state : ServerState) (home other : ℕ) → home_of change ≡ home → other ≢ home → home_at (effect change state) other ≡ home_at state other
effect-other change state home other at apart =
    ap (λ after. home_at after other) (effect-home change state ∙ ap (λ h. with_home state h (made_of change)) at) ∙ with_home-other state home other (made_of change) apart

-- The change that is asked for

-- if there is one, it is in that home
abbrev pub IsIn : ℕ → Option Change → Type 0
IsIn home None = Unit {0}
IsIn home (Some change) = home_of change ≡ home

object_in : (how : Method) (what : Content) (home : ℕ) (calendar object : List ℕ) → IsIn home (change_of_object how what home calendar object)
object_in method.Options what home calendar object = tt
object_in method.Get what home calendar object = tt
object_in method.Head what home calendar object = tt
object_in method.Put content.None home calendar object = tt
object_in method.Put (content.Put media_ok octets) home calendar object = refl
object_in method.Put (content.Find props deep) home calendar object = tt
object_in method.Put (content.Patch sets) home calendar object = tt
object_in method.Put (content.Make sets) home calendar object = tt
object_in method.Put (content.Acl grants) home calendar object = tt
object_in method.Put (content.Report report) home calendar object = tt
object_in method.Put (content.Bad refusal) home calendar object = tt
object_in method.Delete what home calendar object = refl
object_in method.Propfind what home calendar object = tt
object_in method.Proppatch what home calendar object = tt
object_in method.Report what home calendar object = tt
object_in method.Mkcalendar what home calendar object = tt
object_in method.Acl what home calendar object = tt

calendar_in : (how : Method) (what : Content) (home : ℕ) (calendar : List ℕ) (size : ℕ) → IsIn home (change_of_calendar how what home calendar size)
calendar_in method.Options what home calendar size = tt
calendar_in method.Get what home calendar size = tt
calendar_in method.Head what home calendar size = tt
calendar_in method.Put what home calendar size = tt
calendar_in method.Delete what home calendar size = refl
calendar_in method.Propfind what home calendar size = tt
calendar_in method.Proppatch content.None home calendar size = tt
calendar_in method.Proppatch (content.Put media_ok octets) home calendar size = tt
calendar_in method.Proppatch (content.Find props deep) home calendar size = tt
calendar_in method.Proppatch (content.Patch sets) home calendar size = refl
calendar_in method.Proppatch (content.Make sets) home calendar size = tt
calendar_in method.Proppatch (content.Acl grants) home calendar size = tt
calendar_in method.Proppatch (content.Report report) home calendar size = tt
calendar_in method.Proppatch (content.Bad refusal) home calendar size = tt
calendar_in method.Report what home calendar size = tt
calendar_in method.Mkcalendar content.None home calendar size = tt
calendar_in method.Mkcalendar (content.Put media_ok octets) home calendar size = tt
calendar_in method.Mkcalendar (content.Find props deep) home calendar size = tt
calendar_in method.Mkcalendar (content.Patch sets) home calendar size = tt
calendar_in method.Mkcalendar (content.Make sets) home calendar size = refl
calendar_in method.Mkcalendar (content.Acl grants) home calendar size = tt
calendar_in method.Mkcalendar (content.Report report) home calendar size = tt
calendar_in method.Mkcalendar (content.Bad refusal) home calendar size = tt
calendar_in method.Acl content.None home calendar size = tt
calendar_in method.Acl (content.Put media_ok octets) home calendar size = tt
calendar_in method.Acl (content.Find props deep) home calendar size = tt
calendar_in method.Acl (content.Patch sets) home calendar size = tt
calendar_in method.Acl (content.Make sets) home calendar size = tt
calendar_in method.Acl (content.Acl grants) home calendar size = refl
calendar_in method.Acl (content.Report report) home calendar size = tt
calendar_in method.Acl (content.Bad refusal) home calendar size = tt

change_at-in : (directory : Directory) (request : Request) (at : Path) (home : ℕ) → option_and_then (user_number directory) (user_in at) ≡ Some home → IsIn home (change_at directory request at)
change_at-in directory request path.Root home about = tt
change_at-in directory request (path.Principal user) home about = tt
change_at-in directory request (path.Home user) home about = tt
change_at-in directory request (path.Calendar user calendar) home about =
    subst (λ found. IsIn home (option_and_then (λ h. change_of_calendar request.method request.content h calendar request.size) found)) (sym about)
    (calendar_in request.method request.content home calendar request.size)
change_at-in directory request (path.Object user calendar object) home about =
    subst (λ found. IsIn home (option_and_then (λ h. change_of_object request.method request.content h calendar object) found)) (sym about)
    (object_in request.method request.content home calendar object)

pub change_of-in : (directory : Directory) (request : Request) (home : ℕ) → option_and_then (user_number directory) (user_in request.path) ≡ Some home → IsIn home (change_of directory request)
unfolding change_of
change_of-in directory request home about = change_at-in directory request request.path home about
