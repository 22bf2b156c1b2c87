-- Users and groups that are kept, by number, and one more.
use Rattle.std.proofs.Common.{◌≡◌, ℕ, ◌<◌, ◌≤◌, Bool, true, false, ◌||◌, List, [], ◌∷◌, ◌++◌, length, get_or, Some, None, refl, sym, ap, ◌∙◌, subst, zero-add}
use Rattle.std.specs.Prelude.{map, slice_get, unwrap_or, option_to_list}
use Rattle.std.specs.Option.{option_map}
use Rattle.std.specs.List.{list_any}
use Rattle.std.proofs.lemmas.List.{length-map, map-append}
use Rattle.std.proofs.lemmas.Option.{slice_get-map, slice_get-get_or}
use Rattle.cal_base.specs.Lists.NameMap.{Named, with_value}
use Rattle.cal_model.specs.State.ServerState.{directory_of, has_member, is_member, user_name, group_name}
use Rattle.cal_model.specs.Users.UsersFile.{number_of, group_number_of, user_limit, group_limit}
use Rattle.privileges.specs.KnownUsers.{AreKnown, and_user, and_group, name_limit}
use Rattle.privileges.specs.declared.users.KnownUser.{KnownUser}
use Rattle.privileges.specs.declared.users.KnownGroup.{KnownGroup}
use Rattle.privileges.specs.ShownUsers.{shown_user, shown_group, shown}
use Rattle.privileges.proofs.Numbered.{has-numbers}
use Rattle.privileges.proofs.UserNumbers.{name_of_user, name_of_group, name_in-directory, AreKnown-user, AreKnown-group}

-- By number

group_there : (groups : List KnownGroup) (number : ℕ) (group : KnownGroup) → number < length groups → group ≡ get_or groups number group → slice_get (map shown_group groups) number ≡ Some (shown_group group)
group_there groups number group within is = slice_get-map shown_group groups number ∙ ap (option_map shown_group) (slice_get-get_or groups number group within ∙ ap Some (sym is))

-- the name of a number, of the users that are kept
pub user_name-shown : (users : List KnownUser) (groups : List KnownGroup) (who : ℕ) (user : KnownUser) → who < length users → user ≡ get_or users who user
    → user.name ≡ user_name (directory_of (shown users groups)) who
user_name-shown users groups who user within is =
    let there : slice_get (map shown_user users) who ≡ Some (shown_user user) =
    slice_get-map shown_user users who ∙ ap (option_map shown_user) (slice_get-get_or users who user within ∙ ap Some (sym is)) in
    sym (name_in-directory (shown users groups) who ∙ ap (λ o. unwrap_or (option_map name_of_user o) []) there)

-- and of the groups
pub group_name-shown : (users : List KnownUser) (groups : List KnownGroup) (number : ℕ) (group : KnownGroup) → number < length groups → group ≡ get_or groups number group
    → group.name ≡ group_name (directory_of (shown users groups)) number
group_name-shown users groups number group within is =
    sym (ap (λ o. unwrap_or (option_map name_of_group o) []) (group_there groups number group within is))

-- who is marked is a member
pub is_member-shown : (users : List KnownUser) (groups : List KnownGroup) (number who : ℕ) (group : KnownGroup) → number < length groups → group ≡ get_or groups number group → who < length group.members
    → get_or group.members who false ≡ is_member (directory_of (shown users groups)) number who
is_member-shown users groups number who group within is marked =
    sym (ap (λ o. list_any (has_member who) (option_to_list o)) (group_there groups number group within is)
    ∙ or_none (has_member who (shown_group group))
    ∙ has-numbers (λ (mark : Bool). mark) 0 who group.members who (sym (zero-add who))
    ∙ ap (λ o. list_any (λ (mark : Bool). mark) (option_to_list o)) (slice_get-get_or group.members who false marked)
    ∙ or_none (get_or group.members who false)) where
      or_none : (b : Bool) → (b || false) ≡ b
      or_none true = refl
      or_none false = refl

-- One more

pub AreKnown-kept_user : (users : List KnownUser) (groups : List KnownGroup) (numbers group_numbers : Named ℕ) (user : KnownUser) (kept : List KnownUser) (name : List ℕ) (number : ℕ) (with_it : Named ℕ)
    → kept ≡ users ++ user ∷ [] → with_it ≡ with_value numbers name number → name ≡ user.name → number ≡ length users
    → AreKnown (shown users groups) numbers group_numbers → length (map shown_user users) < user_limit → 0 < length user.name → length user.name ≤ name_limit
    → number_of (shown users groups) user.name ≡ None → group_number_of (shown users groups) user.name ≡ None
    → AreKnown (shown kept groups) with_it group_numbers
AreKnown-kept_user users groups numbers group_numbers user kept name number with_it kept_is with_is name_is number_is known room some short new no_group =
    let all : shown kept groups ≡ and_user (shown users groups) (shown_user user) =
    ap (λ us. shown us groups) kept_is ∙ ap (λ people. record { people = people; groups = map shown_group groups }) (map-append shown_user users (user ∷ [])) in
    let count : number ≡ length (map shown_user users) = number_is ∙ sym (length-map users shown_user) in
    let put : with_it ≡ with_value numbers user.name (length (map shown_user users)) = with_is ∙ (λ i. with_value numbers (name_is i) (count i)) in
    subst (λ them. AreKnown them with_it group_numbers) (sym all)
    (subst (λ them. AreKnown (and_user (shown users groups) (shown_user user)) them group_numbers) (sym put)
    (AreKnown-user (shown users groups) numbers group_numbers (shown_user user) known room some short new no_group))

pub AreKnown-kept_group : (users : List KnownUser) (groups : List KnownGroup) (numbers group_numbers : Named ℕ) (group : KnownGroup) (kept : List KnownGroup) (name : List ℕ) (number : ℕ) (with_it : Named ℕ)
    → kept ≡ groups ++ group ∷ [] → with_it ≡ with_value group_numbers name number → name ≡ group.name → number ≡ length groups
    → AreKnown (shown users groups) numbers group_numbers → length (map shown_group groups) < group_limit → 0 < length group.name → length group.name ≤ name_limit
    → number_of (shown users groups) group.name ≡ None → group_number_of (shown users groups) group.name ≡ None
    → AreKnown (shown users kept) numbers with_it
AreKnown-kept_group users groups numbers group_numbers group kept name number with_it kept_is with_is name_is number_is known room some short apart new =
    let all : shown users kept ≡ and_group (shown users groups) (shown_group group) =
    ap (λ gs. shown users gs) kept_is ∙ ap (λ them. record { people = map shown_user users; groups = them }) (map-append shown_group groups (group ∷ [])) in
    let count : number ≡ length (map shown_group groups) = number_is ∙ sym (length-map groups shown_group) in
    let put : with_it ≡ with_value group_numbers group.name (length (map shown_group groups)) = with_is ∙ (λ i. with_value group_numbers (name_is i) (count i)) in
    subst (λ them. AreKnown them numbers with_it) (sym all)
    (subst (AreKnown (and_group (shown users groups) (shown_group group)) numbers) (sym put)
    (AreKnown-group (shown users groups) numbers group_numbers (shown_group group) known room some short apart new))
