-- The marks that names make, and the group whose members they are.
use Rattle.std.proofs.Common.{◌≡◌, ℕ, ◌<◌, ◌≤◌, Bool, true, false, not, ◌&&◌, ◌||◌, cond, ◌==◌, List, [], ◌∷◌, length, get_or, Option, Some, None, refl, sym, ap, ◌∙◌, subst, arith, inl, inr, set}
use Rattle.std.specs.Prelude.{bytes_eq, is_some, option_to_list, slice_get, unwrap_or}
use Rattle.std.specs.Option.{option_map}
use Rattle.std.specs.List.{list_any, list_all}
use Rattle.std.proofs.lemmas.Bool.{false≢true, cases_Bool, cases_lt, ne_eqb, eq-eqb, eqb-true}
use Rattle.std.proofs.lemmas.List.{length-set, length-replicate, get_or-replicate, get_or_past, get_or-set_same, get_or-set_other}
use Rattle.std.proofs.lemmas.List.Quantifiers.{position-Some}
use Rattle.std.proofs.lemmas.Option.{slice_get-get_or, slice_get_past}
use Rattle.std.proofs.lemmas.Slice.Eq.{bytes_eq-Decides}
use Rattle.cal_model.specs.State.ServerState.{directory_of}
use Rattle.cal_model.specs.State.UserNames.{AreToldApart}
use Rattle.cal_model.specs.Users.UsersFile.{User, Users, number_of, user_limit, are_apart, numbered_group}
use Rattle.privileges.specs.Marks.{marked, marked_group, no_marks, with_mark, with_marks}
use Rattle.privileges.proofs.Numbered.{numbers-same, passes_at}
use Rattle.privileges.proofs.KnownEntries.{same_names}
use Rattle.privileges.proofs.UserNumbers.{people_apart, name_in, name_of_user}

-- somebody of a number has a name
abbrev is_number : Users → ℕ → List ℕ → Bool
is_number users who name = elim (number_of users name) [ None ↦ false | Some number ↦ number == who ]

abbrev is_user : Users → List ℕ → Bool
is_user users name = is_some (number_of users name)

-- the marks are those of some names
record AreMarks (users : Users) (done : List (List ℕ)) (marks : List Bool) : Type 0 where
  size : length marks ≡ 32
  are : (who : ℕ) → get_or marks who false ≡ list_any (is_number users who) done

-- names that are users', none of which stands twice, or is among some others
abbrev can_follow : Users → List (List ℕ) → List (List ℕ) → Bool
can_follow users done [] = true
can_follow users done (name ∷ names) = is_user users name && not (list_any (bytes_eq name) done) && can_follow users (name ∷ done) names

-- what marking some names behind others comes to
abbrev IsMarking : Users → List (List ℕ) → List (List ℕ) → Option (List Bool) → Type 0
IsMarking users done names None = can_follow users done names ≡ false
IsMarking users done names (Some marks) =
    (can_follow users done names ≡ true) × (length marks ≡ 32) × ((who : ℕ) → get_or marks who false ≡ (list_any (is_number users who) names || list_any (is_number users who) done))

-- the name of a number is the only one that has it
name_of_number : (users : Users) (name : List ℕ) (who : ℕ) → number_of users name ≡ Some who → name ≡ name_in name_of_user users.people who
name_of_number users name who is =
    let none : User = record { name = []; digest = [] } in
    let found = position-Some (λ (user : User). bytes_eq name user.name) users.people who none is in
    (bytes_eq-Decides name (get_or users.people who none).name).0 found.1
    ∙ sym (ap (λ o. unwrap_or (option_map name_of_user o) []) (slice_get-get_or users.people who none found.0))

number_within : (users : Users) (name : List ℕ) (who : ℕ) → number_of users name ≡ Some who → who < length users.people
number_within users name who is = (position-Some (λ (user : User). bytes_eq name user.name) users.people who (record { name = []; digest = [] }) is).0

-- so of a user's name, others have its number where they are the same
other_name : (users : Users) (name other : List ℕ) (who : ℕ) → number_of users name ≡ Some who → is_number users who other ≡ bytes_eq name other
other_name users name other who is = by (number_of users other) refl where
  by : (o : Option ℕ) → number_of users other ≡ o → elim o [ None ↦ false | Some number ↦ number == who ] ≡ bytes_eq name other
  by None none = elim (cases_Bool (bytes_eq name other)) [
    | inl same ↦ absurd (some_none who (sym is ∙ ap (number_of users) ((bytes_eq-Decides name other).0 same) ∙ none))
    | inr differ ↦ sym differ
  ] where
    some_none : (n : ℕ) → Some n ≡ None → ⊥
    some_none n e = cc
  by (Some number) there = elim (cases_Bool (number == who)) [
    | inl same ↦
        let both : name ≡ other = name_of_number users name who is ∙ sym (name_of_number users other who (there ∙ ap Some (eqb-true number who same))) in
        same ∙ sym ((bytes_eq-Decides name other).1 both)
    | inr differ ↦ differ ∙ sym (elim (cases_Bool (bytes_eq name other)) [
      | inl same ↦ absurd (false≢true (sym differ ∙ eq-eqb number who (one number who (sym there ∙ ap (number_of users) (sym ((bytes_eq-Decides name other).0 same)) ∙ is))))
      | inr apart ↦ apart
    ])
  ] where
    one : (n m : ℕ) → Some n ≡ Some m → n ≡ m
    one n m e = cc

other_names : (users : Users) (name : List ℕ) (who : ℕ) (done : List (List ℕ)) → number_of users name ≡ Some who → list_any (is_number users who) done ≡ list_any (bytes_eq name) done
other_names users name who [] is = refl
other_names users name who (other ∷ done) is = λ i. other_name users name other who is i || other_names users name who done is i

-- one mark more
AreMarks-more : (users : Users) (done : List (List ℕ)) (marks : List Bool) (name : List ℕ) (number : ℕ) → length users.people ≤ user_limit → AreMarks users done marks → number_of users name ≡ Some number
    → AreMarks users (name ∷ done) (set marks number true)
AreMarks-more users done marks name number few are is =
    let within : number < length marks = omega (arith, number_within users name number is, few, are.size) in
    record {
      size = length-set marks number true ∙ are.size;
      are = λ who. elim (cases_Bool (number == who)) [
        | inl same ↦
            ap (λ n. get_or (set marks number true) n false) (sym (eqb-true number who same)) ∙ get_or-set_same marks number true false within
            ∙ sym (ap (λ (o : Option ℕ). elim o [ None ↦ false | Some n ↦ n == who ] || list_any (is_number users who) done) is ∙ ap (λ b. b || list_any (is_number users who) done) same)
        | inr differ ↦
            get_or-set_other marks number who true false (λ e. false≢true (sym differ ∙ eq-eqb number who (sym e))) ∙ are.are who
            ∙ sym (ap (λ (o : Option ℕ). elim o [ None ↦ false | Some n ↦ n == who ] || list_any (is_number users who) done) is ∙ ap (λ b. b || list_any (is_number users who) done) differ)
      ];
    }

-- Marking some names behind others.
with_marks-marking : (users : Users) (done names : List (List ℕ)) (marks : List Bool) → length users.people ≤ user_limit → AreMarks users done marks → IsMarking users done names (with_marks users names marks)
with_marks-marking users done [] marks few are = (refl, are.size, are.are)
with_marks-marking users done (name ∷ names) marks few are =
    by (number_of users name) refl
    (λ number is. with_marks-marking users (name ∷ done) names (set marks number true) few (AreMarks-more users done marks name number few are is)) where
      rest_of : Option (List Bool) → Option (List Bool)
      rest_of o = elim o [ None ↦ None | Some more ↦ with_marks users names more ]

      turned : (a b c : Bool) → (a || (b || c)) ≡ ((b || a) || c)
      turned true true c = refl
      turned true false c = refl
      turned false true c = refl
      turned false false c = refl

      behind : (number : ℕ) → is_user users name ≡ true → list_any (bytes_eq name) done ≡ false → (o : Option (List Bool)) → IsMarking users (name ∷ done) names o → IsMarking users done (name ∷ names) o
      behind number known absent None refused = (λ i. known i && not (absent i) && refused i)
      behind number known absent (Some all) marking = (
        (λ i. known i && not (absent i) && marking.0 i),
        marking.1,
        λ who. marking.2 who ∙ turned (list_any (is_number users who) names) (is_number users who name) (list_any (is_number users who) done),
      )

      by : (o : Option ℕ) → number_of users name ≡ o → ((number : ℕ) → number_of users name ≡ Some number → IsMarking users (name ∷ done) names (with_marks users names (set marks number true)))
          → IsMarking users done (name ∷ names) (elim (with_mark marks o) [ None ↦ None | Some more ↦ with_marks users names more ])
      by None none on = ap (λ o. is_some o && not (list_any (bytes_eq name) done) && can_follow users (name ∷ done) names) none
      by (Some number) is on = marked_before (get_or marks number false) (are.are number ∙ other_names users name number done is) where
        known : is_user users name ≡ true
        known = ap is_some is

        marked_before : (before : Bool) → before ≡ list_any (bytes_eq name) done
            → IsMarking users done (name ∷ names) (elim (cond before None (Some (set marks number true))) [ None ↦ None | Some more ↦ with_marks users names more ])
        marked_before true there = let here = sym there in λ i. known i && not (here i) && can_follow users (name ∷ done) names
        marked_before false absent = behind number known (sym absent) (with_marks users names (set marks number true)) (on number is)

-- Names can be marked where all are users' and none stands twice.
shuffled : (a b c d e f : Bool) → ((a && b) && (c && (d && (e && f)))) ≡ ((a && c) && ((e && d) && (b && f)))
shuffled false b c d e f = refl
shuffled true false false d e f = refl
shuffled true false true d false f = refl
shuffled true false true false true f = refl
shuffled true false true true true f = refl
shuffled true true false d e f = refl
shuffled true true true false false f = refl
shuffled true true true false true f = refl
shuffled true true true true false f = refl
shuffled true true true true true f = refl

absent_both : (name : List ℕ) (done names : List (List ℕ))
    → list_all (λ other. not (list_any (bytes_eq other) (name ∷ done))) names ≡ (not (list_any (bytes_eq name) names) && list_all (λ other. not (list_any (bytes_eq other) done)) names)
absent_both name done [] = refl
absent_both name done (other ∷ names) =
    (λ i. not (same_names other name i || list_any (bytes_eq other) done) && absent_both name done names i)
    ∙ by (bytes_eq name other) (list_any (bytes_eq other) done) (list_any (bytes_eq name) names) _ where
      by : (a b c d : Bool) → (not (a || b) && (not c && d)) ≡ (not (a || c) && (not b && d))
      by true b c d = refl
      by false true true d = refl
      by false true false d = refl
      by false false true d = refl
      by false false false d = refl

can_follow-all : (users : Users) (done names : List (List ℕ))
    → can_follow users done names ≡ (list_all (is_user users) names && (are_apart names && list_all (λ name. not (list_any (bytes_eq name) done)) names))
can_follow-all users done [] = refl
can_follow-all users done (name ∷ names) =
    (λ i. (is_user users name && not (list_any (bytes_eq name) done)) && (can_follow-all users (name ∷ done) names
    ∙ ap (λ b. list_all (is_user users) names && (are_apart names && b)) (absent_both name done names)) i)
    ∙ shuffled (is_user users name) (not (list_any (bytes_eq name) done)) (list_all (is_user users) names) (are_apart names) (not (list_any (bytes_eq name) names)) (list_all (λ other. not (list_any (bytes_eq other) done)) names)

all_absent : (names : List (List ℕ)) → list_all (λ name. not (list_any (bytes_eq name) [])) names ≡ true
all_absent [] = refl
all_absent (name ∷ names) = all_absent names

and_true : (a b : Bool) → b ≡ true → (a && b) ≡ a
and_true true b e = e
and_true false b e = refl

can_be_marked : (users : Users) (names : List (List ℕ)) → can_follow users [] names ≡ (list_all (is_user users) names && are_apart names)
can_be_marked users names = can_follow-all users [] names ∙ ap (λ b. list_all (is_user users) names && b) (and_true (are_apart names) _ (all_absent names))

-- Marks of nobody

no_mark : (who : ℕ) → get_or no_marks who false ≡ false
no_mark who = elim (cases_lt who 32) [
  | inl within ↦ get_or-replicate 32 who false false within
  | inr past ↦ get_or_past no_marks who false (omega (arith, past, length-replicate 32 false))
]

AreMarks-none : (users : Users) → AreMarks users [] no_marks
AreMarks-none users = record { size = length-replicate 32 false; are = no_mark }

marking : (users : Users) (names : List (List ℕ)) → length users.people ≤ user_limit → IsMarking users [] names (with_marks users names no_marks)
marking users names few = with_marks-marking users [] names no_marks few (AreMarks-none users)

-- Names that cannot be marked.
pub marks_lost : (users : Users) (names : List (List ℕ)) → length users.people ≤ user_limit → with_marks users names no_marks ≡ None → (list_all (is_user users) names && are_apart names) ≡ false
marks_lost users names few is = sym (can_be_marked users names) ∙ subst (IsMarking users [] names) is (marking users names few)

-- And those that can: who is marked are the members of a group with these names.
pub record AreMembers (users : Users) (names : List (List ℕ)) (marks : List Bool) : Type 0 where
  pub can : (list_all (is_user users) names && are_apart names) ≡ true
  pub members : (name : List ℕ) → marked_group name marks ≡ numbered_group users.people (record { name = name; members = names })

module _ (users : Users) (told : AreToldApart (directory_of users)) (few : length users.people ≤ user_limit) (names : List (List ℕ)) where
  or_none : (b : Bool) → (b || false) ≡ b
  or_none true = refl
  or_none false = refl

  abbrev is_named : User → Bool
  is_named user = list_any (bytes_eq user.name) names

  mark_passes : (marks : List Bool) (k : ℕ) → passes_at (λ (mark : Bool). mark) marks k ≡ get_or marks k false
  mark_passes marks k = elim (cases_lt k (length marks)) [
    | inl within ↦ ap (λ o. list_any (λ (mark : Bool). mark) (option_to_list o)) (slice_get-get_or marks k false within) ∙ or_none (get_or marks k false)
    | inr past ↦ ap (λ o. list_any (λ (mark : Bool). mark) (option_to_list o)) (slice_get_past marks k past) ∙ sym (get_or_past marks k false past)
  ]

  nobody : (k : ℕ) → length users.people ≤ k → (name : List ℕ) → is_number users k name ≡ false
  nobody k past name = by (number_of users name) refl where
    by : (o : Option ℕ) → number_of users name ≡ o → elim o [ None ↦ false | Some number ↦ number == k ] ≡ false
    by None is = refl
    by (Some number) is = ne_eqb number k (λ e. omega (arith, e, past, number_within users name number is))

  none_of : (k : ℕ) → length users.people ≤ k → (some : List (List ℕ)) → list_any (is_number users k) some ≡ false
  none_of k past [] = refl
  none_of k past (name ∷ some) = (λ i. nobody k past name i || none_of k past some i)

  user_passes : (k : ℕ) → list_any (is_number users k) names ≡ passes_at is_named users.people k
  user_passes k = elim (cases_lt k (length users.people)) [
    | inl within ↦
        let user : User = get_or users.people k (record { name = []; digest = [] }) in
        let there : slice_get users.people k ≡ Some user = slice_get-get_or users.people k (record { name = []; digest = [] }) within in
        let name : name_in name_of_user users.people k ≡ user.name = ap (λ o. unwrap_or (option_map name_of_user o) []) there in
        let number : number_of users user.name ≡ Some k = ap (number_of users) (sym name) ∙ (people_apart users told).own k within in
        other_names users user.name k names number
        ∙ sym (or_none (is_named user))
        ∙ sym (ap (λ o. list_any is_named (option_to_list o)) there)
    | inr past ↦ none_of k past names ∙ sym (ap (λ o. list_any is_named (option_to_list o)) (slice_get_past users.people k past))
  ]

  pub marks_found : (marks : List Bool) → with_marks users names no_marks ≡ Some marks → AreMembers users names marks
  marks_found marks is =
      let made = subst (IsMarking users [] names) is (marking users names few) in
      let same : marked marks ≡ (numbered_group users.people (record { name = []; members = names })).members =
      numbers-same (λ (mark : Bool). mark) is_named 0 marks users.people
      (λ k. mark_passes marks k ∙ made.2 k ∙ or_none (list_any (is_number users k) names) ∙ user_passes k) in
      let members = λ (name : List ℕ). ap (λ (numbers : List ℕ). record { name = name; members = numbers }) same in
      record {
        can = sym (can_be_marked users names) ∙ made.0;
        members = members;
      }
