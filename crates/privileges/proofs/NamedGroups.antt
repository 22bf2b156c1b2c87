-- A group of some names: taken where they can be marked.
use Rattle.std.proofs.Common.{◌≡◌, ℕ, ◌<◌, ◌≤◌, Bool, true, false, not, ◌&&◌, List, length, nat_lt, Some, None, Result, Ok, Err, refl, sym, ap, ◌∙◌}
use Rattle.std.specs.Prelude.{is_some, if◌then◌else◌}
use Rattle.std.specs.List.{list_all}
use Rattle.std.proofs.lemmas.Bool.{lt-ltb, and_parts}
use Rattle.cal_model.specs.State.ServerState.{directory_of}
use Rattle.cal_model.specs.State.UserNames.{AreToldApart}
use Rattle.cal_model.specs.Users.UsersFile.{NamedGroup, Users, number_of, user_limit, group_limit, are_apart, numbered_group}
use Rattle.privileges.specs.KnownUsers.{and_group}
use Rattle.privileges.specs.LineReading.{is_taken, with_named}
use Rattle.privileges.specs.Marks.{marked_group, no_marks, with_marks}
use Rattle.privileges.proofs.Marking.{marks_found, marks_lost}

module _ (users : Users) (place : ℕ) (name : List ℕ) (names : List (List ℕ)) where
  abbrev named : NamedGroup
  named = record { name = name; members = names }

  abbrev by_tests : Bool → Bool → Bool → Bool → Result Users ℕ
  by_tests apart room taken known = if apart then (if room && not taken && known then Ok (and_group users (numbered_group users.people named)) else Err place) else Err place

  pub with_named-found : (marks : List Bool) → AreToldApart (directory_of users) → length users.people ≤ user_limit → length users.groups < group_limit → is_taken users name ≡ false
      → with_marks users names no_marks ≡ Some marks → with_named users place named ≡ Ok (and_group users (marked_group name marks))
  with_named-found marks told few room new is =
      let found = marks_found users told few names marks is in
      let can = and_parts (list_all (λ member. is_some (number_of users member)) names) (are_apart names) found.can in
      (λ i. by_tests (can.1 i) (lt-ltb (length users.groups) group_limit room i) (new i) (can.0 i))
      ∙ ap (λ group. Ok (and_group users group)) (sym (found.members name))

  pub with_named-lost : length users.people ≤ user_limit → with_marks users names no_marks ≡ None → with_named users place named ≡ Err place
  with_named-lost few is =
      by (are_apart names) (nat_lt (length users.groups) group_limit) (is_taken users name) (list_all (λ member. is_some (number_of users member)) names) (marks_lost users names few is) where
        by : (apart room taken known : Bool) → (known && apart) ≡ false → by_tests apart room taken known ≡ Err place
        by false room taken known e = refl
        by true false taken known e = refl
        by true true true known e = refl
        by true true false false e = refl
        by true true false true e = absurd cc
