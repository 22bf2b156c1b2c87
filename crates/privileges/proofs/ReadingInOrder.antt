-- The first fault of a users file is the one that is met when its lines are read in order.
use Rattle.std.proofs.Common.{◌≡◌, ℕ, zero, suc, ◌+◌, ◌-◌, ◌<◌, ◌≤◌, Bool, true, false, not, ◌&&◌, ◌||◌, cond, nat_lt, List, [], ◌∷◌, ◌++◌, length, drop, map, Option, Some, None, Result, Ok, Err, refl, sym, ap, ◌∙◌, arith, inl, inr, append_assoc, append-nil}
use Rattle.std.specs.Prelude.{filter, is_none, bytes_eq, option_to_list, if◌then◌else◌}
use Rattle.std.specs.Option.{option_map}
use Rattle.std.specs.List.{AllByRecursion, filter_map, cons_option, list_any}
use Rattle.std.proofs.lemmas.Bool.{cases_lt, lt-ltb, le-ltb, cases_Bool}
use Rattle.std.proofs.lemmas.List.{length_push, length-map}
use Rattle.std.proofs.lemmas.List.Folds.{list_any-append}
use Rattle.cal_base.specs.Lines.ContentLines.{pieces, least}
use Rattle.cal_base.specs.Texts.Octets.{line_feed}
use Rattle.cal_model.specs.Words.Lists.{is_empty}
use Rattle.cal_model.specs.Users.UsersFile.{User, NamedGroup, Users, Entry, a_user, a_group, name_of, user_in, group_in, user_limit, group_limit, entry_of_line, is_silent, is_bad_line, LineItem, placed_from, placed_lines, placed_by, placed_entries, of_sort, unended, without_last, last_of, places, repeated, has_stranger, with_strangers, numbered_group, users_named, users_fault, users_of}
use Rattle.privileges.specs.KnownUsers.{and_user, and_group}
use Rattle.privileges.specs.LineReading.{with_user, with_group, with_entry, after_line, read_on}
use Rattle.privileges.proofs.FirstFaults.{joined, joined-assoc, least-append, least-either, AtLeast, AtLeast-lesser, lesser-own, AtLeast-joined, least-past, first_of, first_of-push, first_of-here, EachAtLeast}
use Rattle.privileges.proofs.KnownEntries.{people_in, groups_in, names_in, has_name, is_taken-named, are_users-named, people-push, groups-push, names-push, IsRead, IsRead-user, IsRead-group, users_named-user, users_named-group}

-- The faults of the lines from a place on

-- the places of the lines that are outside the grammar, and of what stands behind the last line feed
abbrev bads : List (LineItem (List ℕ)) → List (LineItem (List ℕ))
bads lines = filter (λ (line : LineItem (List ℕ)). is_bad_line line.it) (without_last lines)

abbrev end : List (LineItem (List ℕ)) → Option ℕ
end lines = least (places (filter unended (last_of lines)))

abbrev entries_in : List (LineItem (List ℕ)) → List (LineItem Entry)
entries_in lines = filter_map (placed_by entry_of_line) (without_last lines)

-- those with a name that is known, and those that are too many
abbrev again : List Entry → List (LineItem Entry) → List ℕ
again known entries = places (filter (λ (entry : LineItem Entry). has_name known (name_of entry.it)) entries)

abbrev users_past : List Entry → List (LineItem Entry) → List ℕ
users_past known entries = places (drop (user_limit - length (people_in known)) (filter_map (of_sort user_in) entries))

abbrev groups_past : List Entry → List (LineItem Entry) → List ℕ
groups_past known entries = places (drop (group_limit - length (groups_in known)) (filter_map (of_sort group_in) entries))

abbrev faults : List Entry → List ℕ → Option ℕ → List (LineItem Entry) → List (Option ℕ)
faults known bad ended entries =
    least bad ∷ ended ∷ least (again known entries) ∷ least (repeated entries) ∷ least (users_past known entries) ∷ least (groups_past known entries)
    ∷ least (with_strangers (names_in known) entries) ∷ []

abbrev verdict_by : Option ℕ → Users → Result Users ℕ
verdict_by None users = Ok users
verdict_by (Some place) users = Err place

abbrev verdict : List Entry → List ℕ → Option ℕ → List (LineItem Entry) → Result Users ℕ
verdict known bad ended entries = verdict_by (first_of (faults known bad ended entries)) (users_named (known ++ map (λ (entry : LineItem Entry). entry.it) entries))

-- Places behind a place

abbrev AllFrom : {X : Type 0} → ℕ → List (LineItem X) → Type 0
AllFrom {X} n xs = AllByRecursion (λ (x : LineItem X). n ≤ x.place) xs

AllFrom-placed : (n place : ℕ) (lines : List (List ℕ)) → n ≤ place → AllFrom n (placed_from place lines)
AllFrom-placed n place [] past = tt
AllFrom-placed n place (line ∷ lines) past = (past, AllFrom-placed n (place + length line + 1) lines (omega arith))

AllFrom-filter : {X : Type 0} (n : ℕ) (test : LineItem X → Bool) (xs : List (LineItem X)) → AllFrom n xs → AllFrom n (filter test xs)
AllFrom-filter n test [] past = tt
AllFrom-filter n test (x ∷ xs) past =
    elim (test x) as (λ b. AllFrom n (cond b (x ∷ filter test xs) (filter test xs))) [ true ↦ (past.0, AllFrom-filter n test xs past.1) | false ↦ AllFrom-filter n test xs past.1 ]

AllFrom-without_last : {X : Type 0} (n : ℕ) (xs : List (LineItem X)) → AllFrom n xs → AllFrom n (without_last xs)
AllFrom-without_last n [] past = tt
AllFrom-without_last n (x ∷ []) past = tt
AllFrom-without_last n (x ∷ y ∷ xs) past = (past.0, AllFrom-without_last n (y ∷ xs) past.1)

AllFrom-last_of : {X : Type 0} (n : ℕ) (xs : List (LineItem X)) → AllFrom n xs → AllFrom n (last_of xs)
AllFrom-last_of n [] past = tt
AllFrom-last_of n (x ∷ []) past = past
AllFrom-last_of n (x ∷ y ∷ xs) past = AllFrom-last_of n (y ∷ xs) past.1

-- what is read of something stands at its place
AllFrom-some : {Y : Type 0} (n place : ℕ) (o : Option Y) (rest : List (LineItem Y)) → n ≤ place → AllFrom n rest
    → AllFrom n (cons_option (option_map (λ (it : Y). record { place = place; it = it }) o) rest)
AllFrom-some n place None rest past all = all
AllFrom-some n place (Some y) rest past all = (past, all)

AllFrom-entries : (n : ℕ) (lines : List (LineItem (List ℕ))) → AllFrom n lines → AllFrom n (filter_map (placed_by entry_of_line) lines)
AllFrom-entries n [] past = tt
AllFrom-entries n (line ∷ lines) past = AllFrom-some n line.place (entry_of_line line.it) (filter_map (placed_by entry_of_line) lines) past.0 (AllFrom-entries n lines past.1)

AllFrom-sort : {X : Type 0} (n : ℕ) (sort : Entry → Option X) (entries : List (LineItem Entry)) → AllFrom n entries → AllFrom n (filter_map (of_sort sort) entries)
AllFrom-sort n sort [] past = tt
AllFrom-sort n sort (entry ∷ entries) past = AllFrom-some n entry.place (sort entry.it) (filter_map (of_sort sort) entries) past.0 (AllFrom-sort n sort entries past.1)

AllFrom-drop : {X : Type 0} (n k : ℕ) (xs : List (LineItem X)) → AllFrom n xs → AllFrom n (drop k xs)
AllFrom-drop n zero [] past = tt
AllFrom-drop n zero (x ∷ xs) past = past
AllFrom-drop n (suc k) [] past = tt
AllFrom-drop n (suc k) (x ∷ xs) past = AllFrom-drop n k xs past.1

AtLeast-places : {X : Type 0} (n : ℕ) (xs : List (LineItem X)) → AllFrom n xs → AtLeast n (least (places xs))
AtLeast-places {X} n xs past = least-past n (places xs) (numbers xs past) where
  numbers : (xs : List (LineItem X)) → AllFrom n xs → AllByRecursion (λ m. n ≤ m) (places xs)
  numbers [] past = tt
  numbers (x ∷ xs) past = (past.0, numbers xs past.1)

AtLeast-repeated : (n : ℕ) (entries : List (LineItem Entry)) → AllFrom n entries → AtLeast n (least (repeated entries))
AtLeast-repeated n [] past = tt
AtLeast-repeated n (entry ∷ entries) past =
    let same : LineItem Entry → Bool = λ other. bytes_eq (name_of entry.it) (name_of other.it) in
    rw (least-append (places (filter same entries)) (repeated entries))
    (AtLeast-joined n _ _ (AtLeast-places n (filter same entries) (AllFrom-filter n same entries past.1)) (AtLeast-repeated n entries past.1))

-- whether a line has a stranger
abbrev has_strangers : List (List ℕ) → LineItem Entry → Bool
has_strangers names entry = list_any (has_stranger names) (option_to_list (group_in entry.it))

AtLeast-strangers : (n : ℕ) (names : List (List ℕ)) (entries : List (LineItem Entry)) → AllFrom n entries → AtLeast n (least (with_strangers names entries))
AtLeast-strangers n names [] past = tt
AtLeast-strangers n names (entry ∷ entries) past =
    let more = map (λ (user : User). user.name) (option_to_list (user_in entry.it)) ++ names in
    rw (least-append (places (filter (has_strangers names) (entry ∷ []))) (with_strangers more entries))
    (AtLeast-joined n _ _ (AtLeast-places n (filter (has_strangers names) (entry ∷ [])) (AllFrom-filter n (has_strangers names) (entry ∷ []) (past.0, tt))) (AtLeast-strangers n more entries past.1))

-- A line that is refused

faults_past : (known : List Entry) (place : ℕ) (bad : List ℕ) (ended : Option ℕ) (entries : List (LineItem Entry)) → AtLeast place (least bad) → AtLeast place ended → AllFrom place entries
    → EachAtLeast place (faults known bad ended entries)
faults_past known place bad ended entries past_bad past_end past = (
  past_bad,
  (
    past_end,
    (
      AtLeast-places place _ (AllFrom-filter place (λ (entry : LineItem Entry). has_name known (name_of entry.it)) entries past),
      (
        AtLeast-repeated place entries past,
        (
          AtLeast-places place _ (AllFrom-drop place (user_limit - length (people_in known)) _ (AllFrom-sort place user_in entries past)),
          (
            AtLeast-places place _ (AllFrom-drop place (group_limit - length (groups_in known)) _ (AllFrom-sort place group_in entries past)),
            (
              AtLeast-strangers place (names_in known) entries past,
              tt,
            ),
          ),
        ),
      ),
    ),
  ),
)

-- the first fault stands at this line
at_once : (known : List Entry) (place : ℕ) (bad : List ℕ) (ended : Option ℕ) (entries : List (LineItem Entry)) → first_of (faults known bad ended entries) ≡ Some place
    → Err place ≡ verdict known bad ended entries
at_once known place bad ended entries here = ap (λ fault. verdict_by fault (users_named (known ++ map (λ (entry : LineItem Entry). entry.it) entries))) (sym here)

module _ (known : List Entry) (place : ℕ) (bad : List ℕ) (ended : Option ℕ) (entries : List (LineItem Entry)) (past_bad : AtLeast place (least bad)) (past_end : AtLeast place ended)
    (past_entries : AllFrom place entries) where
  -- a line outside the grammar
  bad_line : Err place ≡ verdict known (place ∷ bad) ended entries
  bad_line =
      at_once known place (place ∷ bad) ended entries
      (first_of-here place (faults known (place ∷ bad) ended entries)
      (faults_past known place (place ∷ bad) ended entries (AtLeast-lesser place place (least bad) (omega arith) past_bad) past_end past_entries)
      (inl (lesser-own place (least bad) past_bad)))

  module _ (entry : Entry) where
    abbrev all : List (LineItem Entry)
    all = record { place = place; it = entry } ∷ entries

    past_all : EachAtLeast place (faults known bad ended all)
    past_all = faults_past known place bad ended all past_bad past_end (omega arith, past_entries)

    -- a name that is known
    known_name : has_name known (name_of entry) ≡ true → Err place ≡ verdict known bad ended all
    known_name there =
        let others : List (LineItem Entry) = filter (λ (other : LineItem Entry). has_name known (name_of other.it)) entries in
        let here : least (again known all) ≡ Some place =
        ap (λ b. least (places (cond b (record { place = place; it = entry } ∷ others) others))) there
        ∙ lesser-own place _ (AtLeast-places place others (AllFrom-filter place (λ (other : LineItem Entry). has_name known (name_of other.it)) entries past_entries)) in
        at_once known place bad ended all (first_of-here place (faults known bad ended all) past_all (inr (inr (inl here))))

  -- a user too many
  user_past : (user : User) → user_limit ≤ length (people_in known) → Err place ≡ verdict known bad ended (all (a_user user))
  user_past user full =
      let none : user_limit - length (people_in known) ≡ 0 = omega (arith, full) in
      let here : least (users_past known (all (a_user user))) ≡ Some place =
      ap (λ k. least (places (drop k (filter_map (of_sort user_in) (all (a_user user)))))) none
      ∙ lesser-own place _ (AtLeast-places place _ (AllFrom-sort place user_in entries past_entries)) in
      at_once known place bad ended (all (a_user user)) (first_of-here place (faults known bad ended (all (a_user user))) (past_all (a_user user)) (inr (inr (inr (inr (inl here))))))

  -- a group too many
  group_past : (group : NamedGroup) → group_limit ≤ length (groups_in known) → Err place ≡ verdict known bad ended (all (a_group group))
  group_past group full =
      let none : group_limit - length (groups_in known) ≡ 0 = omega (arith, full) in
      let here : least (groups_past known (all (a_group group))) ≡ Some place =
      ap (λ k. least (places (drop k (filter_map (of_sort group_in) (all (a_group group)))))) none
      ∙ lesser-own place _ (AtLeast-places place _ (AllFrom-sort place group_in entries past_entries)) in
      at_once known place bad ended (all (a_group group)) (first_of-here place (faults known bad ended (all (a_group group))) (past_all (a_group group)) (inr (inr (inr (inr (inr (inl here)))))))

  -- a group with a member who is no user so far
  stranger : (group : NamedGroup) → has_stranger (names_in known) group ≡ true → Err place ≡ verdict known bad ended (all (a_group group))
  stranger group there =
      let one : LineItem Entry = record { place = place; it = a_group group } in
      let here : least (with_strangers (names_in known) (all (a_group group))) ≡ Some place =
      ap (λ b. least (places (cond (b || false) (one ∷ []) []) ++ with_strangers (names_in known) entries)) there
      ∙ lesser-own place _ (AtLeast-strangers place (names_in known) entries past_entries) in
      at_once known place bad ended (all (a_group group)) (first_of-here place (faults known bad ended (all (a_group group))) (past_all (a_group group)) (inr (inr (inr (inr (inr (inr (inl here))))))))

-- A line that is taken

-- of the entries behind one, those of a name that is known or the entry's
again-push : (known : List Entry) (entry : Entry) (entries : List (LineItem Entry))
    → least (again (known ++ entry ∷ []) entries) ≡ joined (least (again known entries)) (least (places (filter (λ (other : LineItem Entry). bytes_eq (name_of entry) (name_of other.it)) entries)))
again-push known entry entries =
    ap (λ (test : LineItem Entry → Bool). least (places (filter test entries)))
    (λ i other. (list_any-append (λ (e : Entry). bytes_eq (name_of e) (name_of other.it)) known (entry ∷ [])
    ∙ ap (λ b. has_name known (name_of other.it) || b) (or_none (bytes_eq (name_of entry) (name_of other.it)))) i)
    ∙ least-either (λ (other : LineItem Entry). other.place) (λ other. has_name known (name_of other.it)) (λ other. bytes_eq (name_of entry) (name_of other.it)) entries where
      or_none : (b : Bool) → (b || false) ≡ b
      or_none true = refl
      or_none false = refl

-- the names that are known count, and not their order
strangers-same : (some other : List (List ℕ)) (entries : List (LineItem Entry)) → ((name : List ℕ) → list_any (bytes_eq name) some ≡ list_any (bytes_eq name) other)
    → with_strangers some entries ≡ with_strangers other entries
strangers-same some other [] same = refl
strangers-same some other (entry ∷ entries) same =
    let more = map (λ (user : User). user.name) (option_to_list (user_in entry.it)) in
    λ i. places (filter (λ (placed : LineItem Entry). list_any (λ (group : NamedGroup). list_any (λ member. not (same member i)) group.members) (option_to_list (group_in placed.it))) (entry ∷ []))
    ++ strangers-same (more ++ some) (more ++ other) entries
    (λ name. list_any-append (bytes_eq name) more some ∙ ap (λ b. list_any (bytes_eq name) more || b) (same name) ∙ sym (list_any-append (bytes_eq name) more other)) i

module _ (known : List Entry) (place : ℕ) (bad : List ℕ) (ended : Option ℕ) (entry : Entry) (entries : List (LineItem Entry)) where
  abbrev one : LineItem Entry
  one = record { place = place; it = entry }

  welcome : has_name known (name_of entry) ≡ false → users_past (known ++ entry ∷ []) entries ≡ users_past known (one ∷ entries)
      → groups_past (known ++ entry ∷ []) entries ≡ groups_past known (one ∷ entries)
      → with_strangers (names_in (known ++ entry ∷ [])) entries ≡ with_strangers (names_in known) (one ∷ entries)
      → verdict (known ++ entry ∷ []) bad ended entries ≡ verdict known bad ended (one ∷ entries)
  welcome absent users groups strangers =
      let same : List (LineItem Entry) = filter (λ (other : LineItem Entry). bytes_eq (name_of entry) (name_of other.it)) entries in
      let others : List (LineItem Entry) = filter (λ (other : LineItem Entry). has_name known (name_of other.it)) entries in
      let heard : again known (one ∷ entries) ≡ again known entries = ap (λ b. places (cond b (one ∷ others) others)) absent in
      let twice : least (repeated (one ∷ entries)) ≡ joined (least (places same)) (least (repeated entries)) = least-append (places same) (repeated entries) in
      let last : Option ℕ = first_of (least (users_past (known ++ entry ∷ []) entries) ∷ least (groups_past (known ++ entry ∷ []) entries) ∷ least (with_strangers (names_in (known ++ entry ∷ [])) entries) ∷ []) in
      let here : first_of (faults (known ++ entry ∷ []) bad ended entries) ≡ first_of (faults known bad ended (one ∷ entries)) =
      ap (λ o. joined (least bad) (joined ended (joined o (joined (least (repeated entries)) last)))) (again-push known entry entries)
      ∙ ap (λ o. joined (least bad) (joined ended o))
      (sym (joined-assoc (least (again known entries)) (least (places same)) (joined (least (repeated entries)) last))
      ∙ ap (joined (least (again known entries))) (joined-assoc (least (places same)) (least (repeated entries)) last)
      ∙ ap (λ o. joined (least (again known entries)) (joined o last)) (sym twice)
      ∙ ap (λ ns. joined (least ns) (joined (least (repeated (one ∷ entries))) last)) (sym heard)
      ∙ (λ i. joined (least (again known (one ∷ entries))) (joined (least (repeated (one ∷ entries))) (first_of (least (users i) ∷ least (groups i) ∷ least (strangers i) ∷ []))))) in
      ap (λ all. verdict_by (first_of (faults (known ++ entry ∷ []) bad ended entries)) (users_named all)) (append_assoc known (entry ∷ []) (map (λ (other : LineItem Entry). other.it) entries))
      ∙ ap (λ fault. verdict_by fault (users_named (known ++ entry ∷ map (λ (other : LineItem Entry). other.it) entries))) here

-- a user who is welcome
welcome_user : (known : List Entry) (place : ℕ) (bad : List ℕ) (ended : Option ℕ) (user : User) (entries : List (LineItem Entry)) → length (people_in known) < user_limit → has_name known user.name ≡ false
    → verdict (known ++ a_user user ∷ []) bad ended entries ≡ verdict known bad ended (record { place = place; it = a_user user } ∷ entries)
welcome_user known place bad ended user entries room absent =
    let all = known ++ a_user user ∷ [] in
    let k = user_limit - length (people_in all) in
    let more : length (people_in all) ≡ length (people_in known ++ user ∷ []) = ap length (people-push known (a_user user)) in
    let count : user_limit - length (people_in known) ≡ suc k = omega (arith, room, more, length_push (people_in known) user) in
    let groups : groups_in all ≡ groups_in known = groups-push known (a_user user) ∙ append-nil (groups_in known) in
    welcome known place bad ended (a_user user) entries absent
    (sym (ap (λ n. places (drop n (filter_map (of_sort user_in) (record { place = place; it = a_user user } ∷ entries)))) count))
    (ap (λ (gs : List NamedGroup). places (drop (group_limit - length gs) (filter_map (of_sort group_in) entries))) groups)
    (ap (λ names. with_strangers names entries) (names-push known (a_user user))
    ∙ strangers-same (names_in known ++ user.name ∷ []) (user.name ∷ names_in known) entries
    (λ name. list_any-append (bytes_eq name) (names_in known) (user.name ∷ []) ∙ turned (list_any (bytes_eq name) (names_in known)) (bytes_eq name user.name))) where
      turned : (a b : Bool) → (a || (b || false)) ≡ (b || a)
      turned true true = refl
      turned true false = refl
      turned false true = refl
      turned false false = refl

-- a group that is
welcome_group : (known : List Entry) (place : ℕ) (bad : List ℕ) (ended : Option ℕ) (group : NamedGroup) (entries : List (LineItem Entry)) → length (groups_in known) < group_limit
    → has_name known group.name ≡ false → has_stranger (names_in known) group ≡ false
    → verdict (known ++ a_group group ∷ []) bad ended entries ≡ verdict known bad ended (record { place = place; it = a_group group } ∷ entries)
welcome_group known place bad ended group entries room absent none =
    let one : LineItem Entry = record { place = place; it = a_group group } in
    let all = known ++ a_group group ∷ [] in
    let k = group_limit - length (groups_in all) in
    let more : length (groups_in all) ≡ length (groups_in known ++ group ∷ []) = ap length (groups-push known (a_group group)) in
    let count : group_limit - length (groups_in known) ≡ suc k = omega (arith, room, more, length_push (groups_in known) group) in
    let people : people_in all ≡ people_in known = people-push known (a_group group) ∙ append-nil (people_in known) in
    welcome known place bad ended (a_group group) entries absent
    (ap (λ (us : List User). places (drop (user_limit - length us) (filter_map (of_sort user_in) entries))) people)
    (sym (ap (λ n. places (drop n (filter_map (of_sort group_in) (one ∷ entries)))) count))
    (ap (λ names. with_strangers names entries) (names-push known (a_group group) ∙ append-nil (names_in known))
    ∙ sym (ap (λ b. places (cond (b || false) (one ∷ []) []) ++ with_strangers (names_in known) entries) none))

-- what a reading goes on with
abbrev then_on : Result Users ℕ → (Users → Result Users ℕ) → Result Users ℕ
then_on result rest = elim result [ Ok known ↦ rest known | Err refused ↦ Err refused ]

-- the lines of a place: what they are held against
module _ (place : ℕ) (bad : List (LineItem (List ℕ))) (ended : Option ℕ) (entries : List (LineItem Entry)) (rest : Users → Result Users ℕ)
    (past_bad : AllFrom place bad) (past_end : AtLeast place ended) (past_entries : AllFrom place entries)
    (on : (known : List Entry) → IsRead known → rest (users_named known) ≡ verdict known (places bad) ended entries) where
  of_user : (known : List Entry) (user : User) → IsRead known
      → then_on (with_user (users_named known) place user) rest ≡ verdict known (places bad) ended (record { place = place; it = a_user user } ∷ entries)
  of_user known user read =
      let users = users_named known in
      let bad_past = AtLeast-places place bad past_bad in
      ap (λ b. then_on (if nat_lt (length (people_in known)) user_limit && not b then Ok (and_user users user) else Err place) rest) (is_taken-named known user.name)
      ∙ elim (cases_lt (length (people_in known)) user_limit) [
        | inl room ↦ elim (cases_Bool (has_name known user.name)) [
          | inl there ↦
              (λ i. then_on (if lt-ltb (length (people_in known)) user_limit room i && not (there i) then Ok (and_user users user) else Err place) rest)
              ∙ known_name known place (places bad) ended entries bad_past past_end past_entries (a_user user) there
          | inr absent ↦
              (λ i. then_on (if lt-ltb (length (people_in known)) user_limit room i && not (absent i) then Ok (and_user users user) else Err place) rest)
              ∙ ap rest (users_named-user known user read absent)
              ∙ on (known ++ a_user user ∷ []) (IsRead-user known user read room)
              ∙ welcome_user known place (places bad) ended user entries room absent
        ]
        | inr full ↦
            ap (λ b. then_on (if b && not (has_name known user.name) then Ok (and_user users user) else Err place) rest) (le-ltb (length (people_in known)) user_limit full)
            ∙ user_past known place (places bad) ended entries bad_past past_end past_entries user full
      ]

  of_group : (known : List Entry) (group : NamedGroup) → IsRead known
      → then_on (with_group (users_named known) place group) rest ≡ verdict known (places bad) ended (record { place = place; it = a_group group } ∷ entries)
  of_group known group read =
      let users = users_named known in
      let bad_past = AtLeast-places place bad past_bad in
      let count : length users.groups ≡ length (groups_in known) = length-map (groups_in known) (numbered_group (people_in known)) in
      let more = and_group users (numbered_group (people_in known) group) in
      (λ i. then_on (if nat_lt (count i) group_limit && not (is_taken-named known group.name i) && are_users-named known group i then Ok more else Err place) rest)
      ∙ elim (cases_lt (length (groups_in known)) group_limit) [
        | inl room ↦ elim (cases_Bool (has_name known group.name)) [
          | inl there ↦
              (λ i. then_on (if lt-ltb (length (groups_in known)) group_limit room i && not (there i) && not (has_stranger (names_in known) group) then Ok more else Err place) rest)
              ∙ known_name known place (places bad) ended entries bad_past past_end past_entries (a_group group) there
          | inr absent ↦ elim (cases_Bool (has_stranger (names_in known) group)) [
            | inl strange ↦
                (λ i. then_on (if lt-ltb (length (groups_in known)) group_limit room i && not (absent i) && not (strange i) then Ok more else Err place) rest)
                ∙ stranger known place (places bad) ended entries bad_past past_end past_entries group strange
            | inr none ↦
                (λ i. then_on (if lt-ltb (length (groups_in known)) group_limit room i && not (absent i) && not (none i) then Ok more else Err place) rest)
                ∙ ap rest (users_named-group known group)
                ∙ on (known ++ a_group group ∷ []) (IsRead-group known group read room none)
                ∙ welcome_group known place (places bad) ended group entries room absent none
          ]
        ]
        | inr full ↦
            ap (λ b. then_on (if b && not (has_name known group.name) && not (has_stranger (names_in known) group) then Ok more else Err place) rest) (le-ltb (length (groups_in known)) group_limit full)
            ∙ group_past known place (places bad) ended entries bad_past past_end past_entries group full
      ]

  of_entry : (known : List Entry) (entry : Entry) → IsRead known
      → then_on (with_entry (users_named known) place entry) rest ≡ verdict known (places bad) ended (record { place = place; it = entry } ∷ entries)
  of_entry known (a_user user) read = of_user known user read
  of_entry known (a_group group) read = of_group known group read

  of_line : (known : List Entry) (line : List ℕ) (silent : Bool) (o : Option Entry) → IsRead known
      → then_on (after_line (users_named known) place silent o) rest
      ≡ verdict known (places (cond (not silent && is_none o) (record { place = place; it = line } ∷ bad) bad)) ended (cons_option (option_map (λ entry. record { place = place; it = entry }) o) entries)
  of_line known line true None read = on known read
  of_line known line false None read = bad_line known place (places bad) ended entries (AtLeast-places place bad past_bad) past_end past_entries
  of_line known line true (Some entry) read = of_entry known entry read
  of_line known line false (Some entry) read = of_entry known entry read

drop_none : {X : Type 0} (k : ℕ) → drop {A = X} k [] ≡ []
drop_none zero = refl
drop_none (suc k) = refl

-- where no lines are left
none_left : (known : List Entry) (bad : List ℕ) (ended : Option ℕ) → first_of (faults known bad ended []) ≡ first_of (least bad ∷ ended ∷ [])
none_left known bad ended =
    λ i. first_of (least bad ∷ ended ∷ None ∷ None ∷ least (places (drop_none {X = LineItem User} (user_limit - length (people_in known)) i)) ∷ least (places (drop_none {X = LineItem NamedGroup} (group_limit - length (groups_in known)) i)) ∷ None ∷ [])

all_read : (known : List Entry) → users_named known ≡ users_named (known ++ [])
all_read known = ap users_named (sym (append-nil known))

-- the last piece
of_last : (known : List Entry) (place : ℕ) (last : List ℕ)
    → (if is_empty last then Ok (users_named known) else Err place) ≡ verdict known [] (least (places (filter unended (record { place = place; it = last } ∷ [])))) []
of_last known place last =
    by_end (is_empty last)
    ∙ ap (λ o. verdict_by o (users_named (known ++ []))) (sym (none_left known [] (least (places (filter unended (record { place = place; it = last } ∷ [])))))) where
      one : LineItem (List ℕ)
      one = record { place = place; it = last }

      by_end : (empty : Bool) → (if empty then Ok (users_named known) else Err place) ≡ verdict_by (first_of (None ∷ least (places (cond (not empty) (one ∷ []) [])) ∷ [])) (users_named (known ++ []))
      by_end true = ap Ok (all_read known)
      by_end false = refl

read_on-verdict : (known : List Entry) (place : ℕ) (lines : List (List ℕ)) → IsRead known
    → read_on (users_named known) place lines ≡ verdict known (places (bads (placed_from place lines))) (end (placed_from place lines)) (entries_in (placed_from place lines))
read_on-verdict known place [] read = ap Ok (all_read known) ∙ ap (λ o. verdict_by o (users_named (known ++ []))) (sym (none_left known [] None))
read_on-verdict known place (last ∷ []) read = of_last known place last
read_on-verdict known place (line ∷ next ∷ more) read =
    let behind = place + length line + 1 in
    let rest = placed_from behind (next ∷ more) in
    let past : AllFrom place rest = AllFrom-placed place behind (next ∷ more) (omega arith) in
    let front = AllFrom-without_last place rest past in
    of_line place (bads rest) (end rest) (entries_in rest) (λ known. read_on known behind (next ∷ more))
    (AllFrom-filter place (λ (line : LineItem (List ℕ)). is_bad_line line.it) (without_last rest) front)
    (AtLeast-places place _ (AllFrom-filter place unended (last_of rest) (AllFrom-last_of place rest past)))
    (AllFrom-entries place (without_last rest) front)
    (λ known read. read_on-verdict known behind (next ∷ more) read)
    known line (is_silent line) (entry_of_line line) read

-- Whole files

nobody : (entries : List (LineItem Entry)) → again [] entries ≡ []
nobody [] = refl
nobody (entry ∷ entries) = nobody entries

whole : (bad last twice users groups strangers : List ℕ)
    → least (bad ++ last ++ twice ++ users ++ groups ++ strangers) ≡ first_of (least bad ∷ least last ∷ None ∷ least twice ∷ least users ∷ least groups ∷ least strangers ∷ [])
whole bad last twice users groups strangers =
    least-append (bad ++ last ++ twice ++ users ++ groups) strangers
    ∙ ap (λ o. joined o (least strangers))
    (least-append (bad ++ last ++ twice ++ users) groups
    ∙ ap (λ o. joined o (least groups))
    (least-append (bad ++ last ++ twice) users
    ∙ ap (λ o. joined o (least users))
    (least-append (bad ++ last) twice
    ∙ ap (λ o. joined o (least twice)) (least-append bad last ∙ sym (pair (least bad) (least last)))
    ∙ sym (first_of-push (least bad ∷ least last ∷ None ∷ []) (least twice)))
    ∙ sym (first_of-push (least bad ∷ least last ∷ None ∷ least twice ∷ []) (least users)))
    ∙ sym (first_of-push (least bad ∷ least last ∷ None ∷ least twice ∷ least users ∷ []) (least groups)))
    ∙ sym (first_of-push (least bad ∷ least last ∷ None ∷ least twice ∷ least users ∷ least groups ∷ []) (least strangers)) where
      pair : (a b : Option ℕ) → first_of (a ∷ b ∷ None ∷ []) ≡ joined a b
      pair a None = refl
      pair a (Some n) = refl

-- The users of a file, or the place of its first fault, are what the lines give when they are read in order.
pub users_of-read_on : (octets : List ℕ) → read_on (record { people = []; groups = [] }) 0 (pieces line_feed octets) ≡ users_of octets
unfolding users_of users_fault
users_of-read_on octets =
    let lines = placed_lines octets in
    let entries = entries_in lines in
    let all : Users = users_named (map (λ (entry : LineItem Entry). entry.it) entries) in
    read_on-verdict [] 0 (pieces line_feed octets) (record { few = omega arith; few_groups = omega arith; users = tt })
    ∙ ap (λ ns. verdict_by (first_of (least (places (bads lines)) ∷ end lines ∷ least ns ∷ least (repeated entries) ∷ least (users_past [] entries) ∷ least (groups_past [] entries) ∷ least (with_strangers [] entries) ∷ [])) all) (nobody entries)
    ∙ ap (λ fault. verdict_by fault all)
    (sym (whole (places (bads lines)) (places (filter unended (last_of lines))) (repeated entries) (users_past [] entries) (groups_past [] entries) (with_strangers [] entries)))
    ∙ as_result (users_fault octets) where
      as_result : (o : Option ℕ) → verdict_by o (users_named (map (λ (entry : LineItem Entry). entry.it) (placed_entries octets))) ≡ elim o [ None ↦ Ok (users_named (map (λ (entry : LineItem Entry). entry.it) (placed_entries octets))) | Some place ↦ Err place ]
      as_result None = refl
      as_result (Some place) = refl
