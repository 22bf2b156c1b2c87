-- The entry of a change is about the home of the request that asked for it.
use Rattle.std.proofs.Common.{◌≡◌, ℕ, List, Option, Some, None, sym, ap, ◌∙◌, subst}
use Rattle.std.specs.Prelude.{option_and_then}
use Rattle.cal_model.specs.History.Journal.{request_for}
use Rattle.cal_model.specs.Sight.Scenes.{user_in}
use Rattle.cal_model.specs.State.Changes.{Change, put, delete_object, delete_calendar, make, patch, acl}
use Rattle.cal_model.specs.State.ServerState.{Directory, user_number, user_name}
use Rattle.cal_model.proofs.History.ReplayLaws.{user_name-number}
use Rattle.home_laws.specs.Homes.{IsAbout, EntriesStayInHomes}
use Rattle.home_laws.proofs.ChangeLemmas.{home_of, IsIn, change_of-in}

-- a home's number has a name that is the number's
known-number : (directory : Directory) (user : Option (List ℕ)) (home : ℕ) → option_and_then (user_number directory) user ≡ Some home → user_number directory (user_name directory home) ≡ Some home
known-number directory None home about = absurd cc
known-number directory (Some name) home about = ap (user_number directory) (user_name-number directory name home about) ∙ about

request_for-about : (directory : Directory) (change : Change) (home : ℕ) → home_of change ≡ home → user_number directory (user_name directory home) ≡ Some home → IsAbout directory (request_for directory change) home
request_for-about directory (put h calendar object octets) home at known = subst (λ n. user_number directory (user_name directory n) ≡ Some home) (sym at) known
request_for-about directory (delete_object h calendar object) home at known = subst (λ n. user_number directory (user_name directory n) ≡ Some home) (sym at) known
request_for-about directory (delete_calendar h calendar) home at known = subst (λ n. user_number directory (user_name directory n) ≡ Some home) (sym at) known
request_for-about directory (make h calendar sets size) home at known = subst (λ n. user_number directory (user_name directory n) ≡ Some home) (sym at) known
request_for-about directory (patch h calendar sets size) home at known = subst (λ n. user_number directory (user_name directory n) ≡ Some home) (sym at) known
request_for-about directory (acl h calendar grants size) home at known = subst (λ n. user_number directory (user_name directory n) ≡ Some home) (sym at) known

pub entries_stay_in_homes : EntriesStayInHomes
entries_stay_in_homes directory request change home about asks =
    request_for-about directory change home (subst (IsIn home) asks (change_of-in directory request home about)) (known-number directory (user_in request.path) home about)
