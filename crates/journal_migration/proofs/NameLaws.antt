-- Numbers that are mapped by names: who is found by a name has it, and no two old users have one number.
use Rattle.std.proofs.Common.{◌≡◌, ◌≢◌, ℕ, ◌<◌, List, [], length, get_or, Option, Some, None, refl, sym, ◌∙◌, ap, arith}
use Rattle.std.specs.Prelude.{bytes_eq, position, slice_get, unwrap_or, IsSome}
use Rattle.std.proofs.lemmas.List.{length-map}
use Rattle.std.proofs.lemmas.List.Quantifiers.{position-Some}
use Rattle.std.proofs.lemmas.Option.{slice_get-get_or}
use Rattle.std.proofs.lemmas.Slice.Eq.{bytes_eq-Decides}
use Rattle.std.proofs.lemmas.Bool.{false≢true}
use Rattle.cal_model.specs.State.ServerState.{directory_of, user_number, user_name, group_number, group_name}
use Rattle.cal_model.specs.State.UserNames.{AreToldApart}
use Rattle.cal_model.specs.Users.UsersFile.{User, Group, Users}
use Rattle.journal_migration.specs.Renumbering.{AreAllIn, moved_user, moved_group}

-- what is there is what stands in place of nothing
some_is : (found : Option ℕ) → IsSome found → found ≡ Some (unwrap_or found 0)
some_is None none = absurd (false≢true none)
some_is (Some number) some = refl

-- Users

-- a name that was found is that of the number
named : (names : List (List ℕ)) (name : List ℕ) (user : ℕ) → position (bytes_eq name) names ≡ Some user → unwrap_or (slice_get names user) [] ≡ name
named names name user found =
    let first = position-Some (bytes_eq name) names user [] found in
    ap (λ (o : Option (List ℕ)). unwrap_or o []) (slice_get-get_or names user [] first.0) ∙ sym ((bytes_eq-Decides name (get_or names user [])).0 first.1)

module _ (old new : Users) (all : AreAllIn old new) (user : ℕ) (within : user < length old.people) where
  pub found_user : user_number (directory_of new) (user_name (directory_of old) user) ≡ Some (moved_user old new user)
  found_user = some_is (user_number (directory_of new) (user_name (directory_of old) user)) (all.users user within)

  pub same_name : user_name (directory_of new) (moved_user old new user) ≡ user_name (directory_of old) user
  same_name = named (directory_of new).names (user_name (directory_of old) user) (moved_user old new user) found_user

  pub moved_within : moved_user old new user < length new.people
  moved_within =
      let first = position-Some (bytes_eq (user_name (directory_of old) user)) (directory_of new).names (moved_user old new user) [] found_user in
      omega (arith, first.0, length-map new.people (λ (u : User). u.name))

  -- by its name the old user is found again
  pub found_again : AreToldApart (directory_of old) → user_number (directory_of old) (user_name (directory_of new) (moved_user old new user)) ≡ Some user
  found_again told = ap (user_number (directory_of old)) same_name ∙ told.own user (omega (arith, within, length-map old.people (λ (u : User). u.name)))

pub not_both : (old new : Users) → AreAllIn old new → AreToldApart (directory_of old) → (user other : ℕ) → user < length old.people → other < length old.people → other ≢ user → moved_user old new other ≢ moved_user old new user
not_both old new all told user other within other_within apart same =
    apart (some_inj (sym (found_again old new all other other_within told) ∙ ap (λ (n : ℕ). user_number (directory_of old) (user_name (directory_of new) n)) same ∙ found_again old new all user within told))
  where
    some_inj : {m n : ℕ} → Some m ≡ Some n → m ≡ n
    some_inj {m} {n} e = ap (λ (o : Option ℕ). unwrap_or o m) e

-- Groups

module _ (old new : Users) (all : AreAllIn old new) (group : ℕ) (within : group < length old.groups) where
  pub found_group : group_number (directory_of new) (group_name (directory_of old) group) ≡ Some (moved_group old new group)
  found_group = some_is (group_number (directory_of new) (group_name (directory_of old) group)) (all.groups group within)

  pub group_within : moved_group old new group < length new.groups
  group_within = (position-Some (λ (g : Group). bytes_eq (group_name (directory_of old) group) g.name) new.groups (moved_group old new group) (record { name = []; members = [] }) found_group).0
