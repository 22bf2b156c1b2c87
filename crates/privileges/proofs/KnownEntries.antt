-- The users and the groups that some lines name, and one line more: who has a name, and what a group's members are.
use Rattle.std.proofs.Common.{◌≡◌, ℕ, suc, ◌<◌, ◌≤◌, Bool, true, false, not, ◌&&◌, ◌||◌, cond, List, [], ◌∷◌, ◌++◌, map, length, Option, Some, None, refl, sym, ap, subst, ◌∙◌, arith, append-nil}
use Rattle.std.specs.Prelude.{is_some, bytes_eq, position}
use Rattle.std.specs.Option.{option_map}
use Rattle.std.specs.List.{list_any, list_all, filter_map, cons_option}
use Rattle.std.proofs.lemmas.Bool.{false≢true}
use Rattle.std.proofs.lemmas.Bool.Decides.{same_from_decides}
use Rattle.std.proofs.lemmas.List.{map-append, length_push}
use Rattle.std.proofs.lemmas.List.Elements.{filter_map-append}
use Rattle.std.proofs.lemmas.List.Folds.{list_any-append}
use Rattle.std.proofs.lemmas.Slice.Eq.{bytes_eq-Decides}
use Rattle.cal_model.specs.Users.UsersFile.{User, Group, NamedGroup, Entry, a_user, a_group, name_of, user_in, group_in, number_of, numbered_group, users_named, has_stranger, user_limit, group_limit}
use Rattle.privileges.specs.KnownUsers.{and_user, and_group}
use Rattle.privileges.specs.LineReading.{is_taken}
use Rattle.privileges.proofs.Numbered.{numbers-push}
use Rattle.privileges.proofs.Places.{place_in, position-place_in}

abbrev pub people_in : List Entry → List User
people_in entries = filter_map user_in entries

abbrev pub groups_in : List Entry → List NamedGroup
groups_in entries = filter_map group_in entries

abbrev pub names_in : List Entry → List (List ℕ)
names_in entries = map (λ (user : User). user.name) (people_in entries)

-- an entry among some has a name
abbrev pub has_name : List Entry → List ℕ → Bool
has_name entries name = list_any (λ entry. bytes_eq (name_of entry) name) entries

pub same_names : (one other : List ℕ) → bytes_eq one other ≡ bytes_eq other one
same_names one other =
    same_from_decides _ _ (bytes_eq-Decides one other)
    (λ e. sym ((bytes_eq-Decides other one).0 e), λ e. (bytes_eq-Decides other one).1 (sym e))

-- what is found is somewhere
pub found-any : {X : Type 0} (test : X → Bool) (xs : List X) → is_some (position test xs) ≡ list_any test xs
found-any {X} test xs = ap is_some (position-place_in test xs) ∙ walked xs where
  step : (here : Bool) (o : Option ℕ) (rest : Bool) → is_some o ≡ rest → is_some (cond here (Some 0) (option_map suc o)) ≡ (here || rest)
  step true o rest e = refl
  step false None rest e = e
  step false (Some n) rest e = e

  walked : (xs : List X) → is_some (place_in test xs) ≡ list_any test xs
  walked [] = refl
  walked (x ∷ xs) = step (test x) (place_in test xs) (list_any test xs) (walked xs)

pub any-map : {X Y : Type 0} (test : Y → Bool) (f : X → Y) (xs : List X) → list_any test (map f xs) ≡ list_any (λ x. test (f x)) xs
any-map test f [] = refl
any-map test f (x ∷ xs) = ap (λ b. test (f x) || b) (any-map test f xs)

between : (a b c : Bool) → (b || (a || c)) ≡ (a || (b || c))
between true true c = refl
between true false c = refl
between false true c = refl
between false false c = refl

beside : (a b c : Bool) → ((a || b) || c) ≡ (a || (b || c))
beside true b c = refl
beside false b c = refl

-- Who has a name.
any_named : (entries : List Entry) (name : List ℕ)
    → (list_any (λ (user : User). bytes_eq name user.name) (people_in entries) || list_any (λ (group : NamedGroup). bytes_eq name group.name) (groups_in entries)) ≡ has_name entries name
any_named [] name = refl
any_named (a_user user ∷ entries) name =
    beside (bytes_eq name user.name) _ _ ∙ (λ i. same_names name user.name i || any_named entries name i)
any_named (a_group group ∷ entries) name =
    between (bytes_eq name group.name) (list_any (λ (user : User). bytes_eq name user.name) (people_in entries)) _ ∙ (λ i. same_names name group.name i || any_named entries name i)

pub is_taken-named : (entries : List Entry) (name : List ℕ) → is_taken (users_named entries) name ≡ has_name entries name
is_taken-named entries name =
    (λ i. found-any (λ (user : User). bytes_eq name user.name) (people_in entries) i || found-any (λ (group : Group). bytes_eq name group.name) (map (numbered_group (people_in entries)) (groups_in entries)) i)
    ∙ ap (λ b. list_any (λ (user : User). bytes_eq name user.name) (people_in entries) || b)
    (any-map (λ (group : Group). bytes_eq name group.name) (numbered_group (people_in entries)) (groups_in entries))
    ∙ any_named entries name

-- a user's name is among the names
pub is_user-named : (entries : List Entry) (name : List ℕ) → is_some (number_of (users_named entries) name) ≡ list_any (bytes_eq name) (names_in entries)
is_user-named entries name =
    found-any (λ (user : User). bytes_eq name user.name) (people_in entries)
    ∙ sym (any-map (bytes_eq name) (λ (user : User). user.name) (people_in entries))

pub are_users-named : (entries : List Entry) (group : NamedGroup) → list_all (λ member. is_some (number_of (users_named entries) member)) group.members ≡ not (has_stranger (names_in entries) group)
are_users-named entries group = walked group.members where
  step : (here : Bool) (rest other : Bool) → rest ≡ not other → (here && rest) ≡ not (not here || other)
  step true rest other e = e
  step false rest other e = refl

  walked : (members : List (List ℕ)) → list_all (λ member. is_some (number_of (users_named entries) member)) members ≡ not (list_any (λ member. not (list_any (bytes_eq member) (names_in entries))) members)
  walked [] = refl
  walked (member ∷ members) =
      ap (λ b. b && list_all (λ m. is_some (number_of (users_named entries) m)) members) (is_user-named entries member)
      ∙ step (list_any (bytes_eq member) (names_in entries)) _ _ (walked members)

-- One line more

pub people-push : (entries : List Entry) (entry : Entry) → people_in (entries ++ entry ∷ []) ≡ people_in entries ++ cons_option (user_in entry) []
people-push entries entry = filter_map-append user_in entries (entry ∷ [])

pub groups-push : (entries : List Entry) (entry : Entry) → groups_in (entries ++ entry ∷ []) ≡ groups_in entries ++ cons_option (group_in entry) []
groups-push entries entry = filter_map-append group_in entries (entry ∷ [])

pub names-push : (entries : List Entry) (entry : Entry) → names_in (entries ++ entry ∷ []) ≡ names_in entries ++ map (λ (user : User). user.name) (cons_option (user_in entry) [])
names-push entries entry = ap (map (λ (user : User). user.name)) (people-push entries entry) ∙ map-append (λ (user : User). user.name) (people_in entries) (cons_option (user_in entry) [])

-- every group has users alone as members
abbrev pub HaveUsers : List (List ℕ) → List NamedGroup → Type 0
HaveUsers names [] = Unit {0}
HaveUsers names (group ∷ groups) = (has_stranger names group ≡ false) × HaveUsers names groups

more_known : (names more : List (List ℕ)) (members : List (List ℕ)) → list_any (λ member. not (list_any (bytes_eq member) names)) members ≡ false
    → list_any (λ member. not (list_any (bytes_eq member) (names ++ more))) members ≡ false
more_known names more [] none = refl
more_known names more (member ∷ members) none =
    ap (λ b. not b || list_any (λ m. not (list_any (bytes_eq m) (names ++ more))) members) (list_any-append (bytes_eq member) names more)
    ∙ by (list_any (bytes_eq member) names) (list_any (bytes_eq member) more) _ _ (more_known names more members) none where
      by : (here later : Bool) (some others : Bool) → (some ≡ false → others ≡ false) → (not here || some) ≡ false → (not (here || later) || others) ≡ false
      by true later some others on none = on none
      by false later some others on none = absurd (false≢true (sym none))

pub HaveUsers-more : (names more : List (List ℕ)) (groups : List NamedGroup) → HaveUsers names groups → HaveUsers (names ++ more) groups
HaveUsers-more names more [] have = tt
HaveUsers-more names more (group ∷ groups) have = (more_known names more group.members have.0, HaveUsers-more names more groups have.1)

pub HaveUsers-push : (names : List (List ℕ)) (groups : List NamedGroup) (group : NamedGroup) → HaveUsers names groups → has_stranger names group ≡ false → HaveUsers names (groups ++ group ∷ [])
HaveUsers-push names [] group have none = (none, tt)
HaveUsers-push names (first ∷ groups) group have none = (have.0, HaveUsers-push names groups group have.1 none)

-- a name of nobody is that of no member
no_member : (names : List (List ℕ)) (name : List ℕ) (members : List (List ℕ)) → list_any (bytes_eq name) names ≡ false
    → list_any (λ member. not (list_any (bytes_eq member) names)) members ≡ false → list_any (bytes_eq name) members ≡ false
no_member names name [] absent none = refl
no_member names name (member ∷ members) absent none =
    by (bytes_eq name member) (list_any (bytes_eq member) names) _ _ refl (λ same. ap (λ m. list_any (bytes_eq m) names) (sym ((bytes_eq-Decides name member).0 same)) ∙ absent) none
    (no_member names name members absent) where
      by : (same known some others : Bool) → bytes_eq name member ≡ same → (same ≡ true → known ≡ false) → (not known || some) ≡ false → (some ≡ false → others ≡ false) → (same || others) ≡ false
      by true true some others is apart none on = absurd (false≢true (sym (apart refl)))
      by true false some others is apart none on = absurd (false≢true (sym none))
      by false true some others is apart none on = on none
      by false false some others is apart none on = absurd (false≢true (sym none))

-- so a further user changes no group
same_group : (people : List User) (user : User) (group : NamedGroup) → list_any (bytes_eq user.name) (map (λ (other : User). other.name) people) ≡ false
    → has_stranger (map (λ (other : User). other.name) people) group ≡ false → numbered_group (people ++ user ∷ []) group ≡ numbered_group people group
same_group people user group absent none =
    ap (λ (members : List ℕ). record { name = group.name; members = members })
    (numbers-push (λ (other : User). list_any (bytes_eq other.name) group.members) 0 people user (no_member (map (λ (other : User). other.name) people) user.name group.members absent none))

pub same_groups : (people : List User) (user : User) (groups : List NamedGroup) → list_any (bytes_eq user.name) (map (λ (other : User). other.name) people) ≡ false
    → HaveUsers (map (λ (other : User). other.name) people) groups → map (numbered_group (people ++ user ∷ [])) groups ≡ map (numbered_group people) groups
same_groups people user [] absent have = refl
same_groups people user (group ∷ groups) absent have = λ i. same_group people user group absent have.0 i ∷ same_groups people user groups absent have.1 i

-- What some lines name, where none of them was refused: few users and groups, and members that are users.
pub record IsRead (entries : List Entry) : Type 0 where
  pub few : length (people_in entries) ≤ user_limit
  pub few_groups : length (groups_in entries) ≤ group_limit
  pub users : HaveUsers (names_in entries) (groups_in entries)

pub IsRead-user : (entries : List Entry) (user : User) → IsRead entries → length (people_in entries) < user_limit → IsRead (entries ++ a_user user ∷ [])
IsRead-user entries user read room = record {
  few = let more = ap length (people-push entries (a_user user)) in omega (arith, room, more, length_push (people_in entries) user);
  few_groups = let same = ap length (groups-push entries (a_user user) ∙ append-nil (groups_in entries)) in omega (arith, same, read.few_groups);
  users = subst (λ names. HaveUsers names (groups_in (entries ++ a_user user ∷ []))) (sym (names-push entries (a_user user)))
      (subst (HaveUsers (names_in entries ++ user.name ∷ [])) (sym (groups-push entries (a_user user) ∙ append-nil (groups_in entries)))
      (HaveUsers-more (names_in entries) (user.name ∷ []) (groups_in entries) read.users));
}

pub IsRead-group : (entries : List Entry) (group : NamedGroup) → IsRead entries → length (groups_in entries) < group_limit → has_stranger (names_in entries) group ≡ false
    → IsRead (entries ++ a_group group ∷ [])
IsRead-group entries group read room none = record {
  few = let same = ap length (people-push entries (a_group group) ∙ append-nil (people_in entries)) in omega (arith, same, read.few);
  few_groups = let more = ap length (groups-push entries (a_group group)) in omega (arith, room, more, length_push (groups_in entries) group);
  users = subst (λ names. HaveUsers names (groups_in (entries ++ a_group group ∷ []))) (sym (names-push entries (a_group group) ∙ append-nil (names_in entries)))
      (subst (HaveUsers (names_in entries)) (sym (groups-push entries (a_group group)))
      (HaveUsers-push (names_in entries) (groups_in entries) group read.users none));
}

or_first : (a b : Bool) → (a || b) ≡ false → a ≡ false
or_first true b none = none
or_first false b none = refl

-- with a user or a group more
pub users_named-user : (entries : List Entry) (user : User) → IsRead entries → has_name entries user.name ≡ false
    → and_user (users_named entries) user ≡ users_named (entries ++ a_user user ∷ [])
users_named-user entries user read absent =
    let people = people_in entries in
    let groups = groups_in entries in
    let new : list_any (bytes_eq user.name) (names_in entries) ≡ false =
    any-map (bytes_eq user.name) (λ (other : User). other.name) people ∙ or_first _ _ (any_named entries user.name ∙ absent) in
    let all = sym (people-push entries (a_user user)) in
    let same = sym (groups-push entries (a_user user) ∙ append-nil groups) in
    (λ i. record { people = people ++ user ∷ []; groups = sym (same_groups people user groups new read.users) i })
    ∙ (λ i. record { people = all i; groups = map (numbered_group (all i)) (same i) })

pub users_named-group : (entries : List Entry) (group : NamedGroup) → and_group (users_named entries) (numbered_group (people_in entries) group) ≡ users_named (entries ++ a_group group ∷ [])
users_named-group entries group =
    let people = people_in entries in
    let groups = groups_in entries in
    let same = sym (people-push entries (a_group group) ∙ append-nil people) in
    let all = sym (groups-push entries (a_group group)) in
    (λ i. record { people = people; groups = sym (map-append (numbered_group people) groups (group ∷ [])) i })
    ∙ (λ i. record { people = same i; groups = map (numbered_group (same i)) (all i) })
