-- Users and groups by number and by name, and one more.
use Rattle.std.proofs.Common.{◌≡◌, ℕ, ◌<◌, ◌≤◌, Bool, true, false, cond, List, [], ◌∷◌, ◌++◌, length, Option, Some, None, refl, sym, ap, ◌∙◌, subst, arith, inl, inr}
use Rattle.std.specs.Prelude.{All, bytes_eq, slice_get, unwrap_or}
use Rattle.std.specs.Option.{option_map}
use Rattle.std.specs.List.{position}
use Rattle.std.proofs.lemmas.Bool.{cases_Bool, cases_lt}
use Rattle.std.proofs.lemmas.List.{length_push, get_or_append_left, length-map, map-append}
use Rattle.std.proofs.lemmas.List.Elements.{All-append, All-cons, All-nil}
use Rattle.std.proofs.Math.Seq.{get_or-append_seam}
use Rattle.std.proofs.lemmas.Option.{slice_get-map, slice_get-get_or}
use Rattle.std.proofs.lemmas.Slice.Eq.{bytes_eq-Decides}
use Rattle.cal_base.specs.Lists.NameMap.{Named, value_at, with_value}
use Rattle.cal_base.proofs.Lists.NameMapLemmas.{value_at_with}
use Rattle.cal_model.specs.State.ServerState.{directory_of, user_name, user_number}
use Rattle.cal_model.specs.State.UserNames.{AreToldApart}
use Rattle.cal_model.specs.Users.UsersFile.{User, Group, Users, number_of, group_number_of, user_limit, group_limit}
use Rattle.privileges.specs.KnownUsers.{AreKnown, and_user, and_group, name_limit}
use Rattle.privileges.proofs.Places.{or_last, position-push, position-map}

-- Names of a list, each with its number

-- the number of a name, where items have names
abbrev pub number_in : {X : Type 0} → (X → List ℕ) → List X → List ℕ → Option ℕ
number_in name_of xs name = position (λ x. bytes_eq name (name_of x)) xs

-- and the name of a number
abbrev pub name_in : {X : Type 0} → (X → List ℕ) → List X → ℕ → List ℕ
name_in name_of xs n = unwrap_or (option_map name_of (slice_get xs n)) []

-- each is found by the own name, and none is without one
pub record AreApart {X : Type 0} (name_of : X → List ℕ) (xs : List X) : Type 0 where
  pub own : (n : ℕ) → n < length xs → number_in name_of xs (name_in name_of xs n) ≡ Some n
  pub named : number_in name_of xs [] ≡ None

pub some≢none : (n : ℕ) → Some n ≡ None → ⊥
some≢none n e = cc

-- the items before a further one, and that one
slice_get_before : {X : Type 0} (xs : List X) (x : X) (n : ℕ) → n < length xs → slice_get (xs ++ x ∷ []) n ≡ slice_get xs n
slice_get_before xs x n within =
    slice_get-get_or (xs ++ x ∷ []) n x (omega (arith, within, length_push xs x))
    ∙ ap Some (get_or_append_left xs (x ∷ []) x n within)
    ∙ sym (slice_get-get_or xs n x within)

slice_get_last : {X : Type 0} (xs : List X) (x : X) → slice_get (xs ++ x ∷ []) (length xs) ≡ Some x
slice_get_last xs x = slice_get-get_or (xs ++ x ∷ []) (length xs) x (omega (arith, length_push xs x)) ∙ ap Some (get_or-append_seam xs x [] x)

pub same_name : (name : List ℕ) → bytes_eq name name ≡ true
same_name name = (bytes_eq-Decides name name).1 refl

-- nobody is without a name
unnamed : (name : List ℕ) → 0 < length name → bytes_eq [] name ≡ false
unnamed name some = elim (cases_Bool (bytes_eq [] name)) [
  | inl same ↦ absurd (omega (arith, some, ap length ((bytes_eq-Decides [] name).0 same)))
  | inr other ↦ other
]

module _ {X : Type 0} (name_of : X → List ℕ) (xs : List X) (x : X) where
  -- with one item more
  number-push : (name : List ℕ) → number_in name_of (xs ++ x ∷ []) name ≡ or_last (λ other. bytes_eq name (name_of other)) xs x (number_in name_of xs name)
  number-push name = position-push (λ other. bytes_eq name (name_of other)) xs x

  name_before : (n : ℕ) → n < length xs → name_in name_of (xs ++ x ∷ []) n ≡ name_in name_of xs n
  name_before n within = ap (λ o. unwrap_or (option_map name_of o) []) (slice_get_before xs x n within)

  name_last : name_in name_of (xs ++ x ∷ []) (length xs) ≡ name_of x
  name_last = ap (λ o. unwrap_or (option_map name_of o) []) (slice_get_last xs x)

  -- the number that a name has, with an item more behind the others
  or_new : (o : Option ℕ) (same : Bool) → (same ≡ true → o ≡ None) → cond same (Some (length xs)) o ≡ elim o [ None ↦ cond same (Some (length xs)) None | Some n ↦ Some n ]
  or_new None same apart = refl
  or_new (Some n) true apart = absurd (some≢none n (apart refl))
  or_new (Some n) false apart = refl

  -- the map with the item's number
  agree-push : (numbers : Named ℕ) (name : List ℕ) → ((name : List ℕ) → value_at numbers name ≡ number_in name_of xs name) → number_in name_of xs (name_of x) ≡ None
      → value_at (with_value numbers (name_of x) (length xs)) name ≡ number_in name_of (xs ++ x ∷ []) name
  agree-push numbers name agree new =
      value_at_with (name_of x) (length xs) name numbers
      ∙ ap (cond (bytes_eq name (name_of x)) (Some (length xs))) (agree name)
      ∙ or_new (number_in name_of xs name) (bytes_eq name (name_of x)) (λ same. ap (number_in name_of xs) ((bytes_eq-Decides name (name_of x)).0 same) ∙ new)
      ∙ sym (number-push name)

  -- names that tell the items apart do so with a new one
  apart-push : AreApart name_of xs → 0 < length (name_of x) → number_in name_of xs (name_of x) ≡ None → AreApart name_of (xs ++ x ∷ [])
  apart-push apart some new = record {
    own = λ n within. elim (cases_lt n (length xs)) [
      | inl before ↦
          ap (number_in name_of (xs ++ x ∷ [])) (name_before n before)
          ∙ number-push (name_in name_of xs n)
          ∙ ap (or_last (λ other. bytes_eq (name_in name_of xs n) (name_of other)) xs x) (apart.own n before)
      | inr behind ↦
          let last : n ≡ length xs = omega (arith, within, behind, length_push xs x) in
          ap (λ m. number_in name_of (xs ++ x ∷ []) (name_in name_of (xs ++ x ∷ []) m)) last
          ∙ ap (number_in name_of (xs ++ x ∷ [])) name_last
          ∙ number-push (name_of x)
          ∙ ap (or_last (λ other. bytes_eq (name_of x) (name_of other)) xs x) new
          ∙ ap (λ b. cond b (Some (length xs)) None) (same_name (name_of x))
          ∙ ap Some (sym last)
    ];
    named =
        number-push []
        ∙ ap (or_last (λ other. bytes_eq [] (name_of other)) xs x) apart.named
        ∙ ap (λ b. cond b (Some (length xs)) None) (unnamed (name_of x) some);
  }

-- Users and groups

abbrev pub name_of_user : User → List ℕ
name_of_user user = user.name

abbrev pub name_of_group : Group → List ℕ
name_of_group group = group.name

-- the number of a name in the directory
pub number_of-directory : (users : Users) (name : List ℕ) → number_of users name ≡ user_number (directory_of users) name
number_of-directory users name = sym (position-map name_of_user (bytes_eq name) users.people)

pub name_in-directory : (users : Users) (who : ℕ) → user_name (directory_of users) who ≡ name_in name_of_user users.people who
name_in-directory users who = ap (λ o. unwrap_or o []) (slice_get-map name_of_user users.people who)

directory_size : (users : Users) → length (directory_of users).names ≡ length users.people
directory_size users = length-map users.people name_of_user

-- what tells apart is each of the two, and that no user has a group's name
pub people_apart : (users : Users) → AreToldApart (directory_of users) → AreApart name_of_user users.people
people_apart users told = record {
  own = λ who within.
      number_of-directory users (name_in name_of_user users.people who)
      ∙ ap (user_number (directory_of users)) (sym (name_in-directory users who))
      ∙ told.own who (omega (arith, within, directory_size users));
  named = number_of-directory users [] ∙ told.named;
}

groups_apart : (users : Users) → AreToldApart (directory_of users) → AreApart name_of_group users.groups
groups_apart users told = record { own = told.own_group; named = told.named_group }

told_by : (users : Users) → AreApart name_of_user users.people → AreApart name_of_group users.groups
    → ((group : ℕ) → group < length users.groups → number_of users (name_in name_of_group users.groups group) ≡ None) → AreToldApart (directory_of users)
told_by users people groups apart = record {
  own = λ who within.
      ap (user_number (directory_of users)) (name_in-directory users who)
      ∙ sym (number_of-directory users (name_in name_of_user users.people who))
      ∙ people.own who (omega (arith, within, directory_size users));
  named = sym (number_of-directory users []) ∙ people.named;
  own_group = groups.own;
  named_group = groups.named;
  apart = λ group within. sym (number_of-directory users (name_in name_of_group users.groups group)) ∙ apart group within;
}

-- of no group the name is a user's
names_apart : (users : Users) → AreToldApart (directory_of users) → (group : ℕ) → group < length users.groups → number_of users (name_in name_of_group users.groups group) ≡ None
names_apart users told group within = number_of-directory users (name_in name_of_group users.groups group) ∙ told.apart group within

-- With a user more

-- a group's name is not the new user's
not_new : (users : Users) (user : User) (group : ℕ) → AreToldApart (directory_of users) → group_number_of users user.name ≡ None → group < length users.groups
    → bytes_eq (name_in name_of_group users.groups group) user.name ≡ false
not_new users user group told new within = elim (cases_Bool (bytes_eq (name_in name_of_group users.groups group) user.name)) [
  | inl same ↦ absurd (some≢none group (sym (told.own_group group within) ∙ ap (group_number_of users) ((bytes_eq-Decides (name_in name_of_group users.groups group) user.name).0 same) ∙ new))
  | inr other ↦ other
]

told-user : (users : Users) (user : User) → AreToldApart (directory_of users) → 0 < length user.name → number_of users user.name ≡ None → group_number_of users user.name ≡ None
    → AreToldApart (directory_of (and_user users user))
told-user users user told some new no_group =
    told_by (and_user users user) (apart-push name_of_user users.people user (people_apart users told) some new) (groups_apart users told)
    (λ group within.
    let name = name_in name_of_group users.groups group in
    number-push name_of_user users.people user name
    ∙ ap (or_last (λ (other : User). bytes_eq name other.name) users.people user) (names_apart users told group within)
    ∙ ap (λ b. cond b (Some (length users.people)) None) (not_new users user group told no_group within))

-- names that are short are so with a short one more
abbrev IsShort : List ℕ → Type 0
IsShort name = length name ≤ name_limit

short-user : (users : Users) (user : User) → All IsShort (directory_of users).names → length user.name ≤ name_limit → All IsShort (directory_of (and_user users user)).names
short-user users user are is =
    subst (All IsShort) (sym (map-append name_of_user users.people (user ∷ [])))
    (All-append IsShort (directory_of users).names (user.name ∷ []) are (All-cons IsShort user.name [] is (All-nil IsShort)))

pub AreKnown-user : (users : Users) (numbers group_numbers : Named ℕ) (user : User) → AreKnown users numbers group_numbers → length users.people < user_limit → 0 < length user.name → length user.name ≤ name_limit
    → number_of users user.name ≡ None → group_number_of users user.name ≡ None → AreKnown (and_user users user) (with_value numbers user.name (length users.people)) group_numbers
AreKnown-user users numbers group_numbers user known room some short new no_group = record {
  agree = λ name. agree-push name_of_user users.people user numbers name known.agree new;
  agree_groups = known.agree_groups;
  few = omega (arith, room, length_push users.people user);
  few_groups = known.few_groups;
  told = told-user users user known.told some new no_group;
  short = short-user users user known.short short;
  short_groups = known.short_groups;
}

-- With a group more

told-group : (users : Users) (group : Group) → AreToldApart (directory_of users) → 0 < length group.name → number_of users group.name ≡ None → group_number_of users group.name ≡ None
    → AreToldApart (directory_of (and_group users group))
told-group users group told some apart new =
    told_by (and_group users group) (people_apart users told) (apart-push name_of_group users.groups group (groups_apart users told) some new)
    (λ number within. elim (cases_lt number (length users.groups)) [
      | inl before ↦ ap (number_of users) (name_before name_of_group users.groups group number before) ∙ names_apart users told number before
      | inr behind ↦
          let last : number ≡ length users.groups = omega (arith, within, behind, length_push users.groups group) in
          ap (λ n. number_of users (name_in name_of_group (users.groups ++ group ∷ []) n)) last
          ∙ ap (number_of users) (name_last name_of_group users.groups group)
          ∙ apart
    ])

pub AreKnown-group : (users : Users) (numbers group_numbers : Named ℕ) (group : Group) → AreKnown users numbers group_numbers → length users.groups < group_limit → 0 < length group.name → length group.name ≤ name_limit
    → number_of users group.name ≡ None → group_number_of users group.name ≡ None
    → AreKnown (and_group users group) numbers (with_value group_numbers group.name (length users.groups))
AreKnown-group users numbers group_numbers group known room some short apart new = record {
  agree = known.agree;
  agree_groups = λ name. agree-push name_of_group users.groups group group_numbers name known.agree_groups new;
  few = known.few;
  few_groups = omega (arith, room, length_push users.groups group);
  told = told-group users group known.told some apart new;
  short = known.short;
  short_groups = let P : Group → Type 0 = λ g. IsShort g.name in
      All-append P users.groups (group ∷ []) known.short_groups (All-cons P group [] short (All-nil P));
}
