-- What an ACL body grants is granted to the server's users and groups, and is a set of the nine privileges.
use Rattle.std.proofs.Common.{◌≡◌, ℕ, ◌<◌, ◌^◌, Bool, true, false, cond, ◌||◌, List, [], ◌∷◌, ◌++◌, map, length, Option, Some, None, All, refl, sym, ap, subst, arith, ⊎_elim}
use Rattle.std.specs.Prelude.{filter, fold, flat_map, bit_or, bytes_eq, option_map, option_and_then, unwrap_or, codes, not}
use Rattle.std.specs.List.{filter_map, cons_option, list_any}
use Rattle.std.proofs.lemmas.Bool.{false≢true}
use Rattle.std.proofs.lemmas.List.{map-append}
use Rattle.std.proofs.lemmas.Option.{same_Some}
use Rattle.std.proofs.lemmas.List.Elements.{All-nil, All-cons, All-append}
use Rattle.std.proofs.lemmas.List.Quantifiers.{position-Some}
use Rattle.std.proofs.lemmas.Nat.{or_lt}
use Rattle.cal_base.specs.declared.element.Element.{Element}
use Rattle.cal_base.specs.Lines.ComponentTrees.{or_else}
use Rattle.cal_model.specs.Words.Lists.{is_empty}
use Rattle.cal_model.specs.Access.Privileges.{privileges, aggregates, united, same_name, sets_named, set_named}
use Rattle.cal_model.specs.declared.path.Path.{Path}
use Rattle.cal_model.specs.declared.path.Path.TheVariants.{Root, Principal as PrincipalPath, Home, Calendar, Object}
use Rattle.cal_model.specs.declared.privilege.Grant.{Grant}
use Rattle.cal_model.specs.declared.privilege.Who.{Who}
use Rattle.cal_model.specs.declared.privilege.Who.TheVariants.{Everyone, Owner, Principal, Group}
use Rattle.cal_model.specs.declared.property.PropName.{PropName}
use Rattle.cal_model.specs.declared.reply.Refusal.{Refusal}
use Rattle.cal_model.specs.declared.request.Content.{Content}
use Rattle.cal_model.specs.declared.request.Content.TheVariants.{Acl, Bad}
use Rattle.cal_model.specs.Words.Namespaces.{dav}
use Rattle.cal_model.specs.Bodies.AclBodies.{Meant, someone, nobody, other_form, principal_at, named_by, is_form, meant_by_form, meant_by, who_of, holds, lacks_part, granted_elements, granted_sets, bits_of, grants_of, aces, ace_refusals, acl_by, acl_content}
use Rattle.cal_model.specs.Bodies.ElementParts.{children, has_name, first_named, own_text}
use Rattle.cal_model.specs.Bodies.Refusals.{bad_request}
use Rattle.cal_model.specs.Bodies.AskedProperties.{property_name}
use Rattle.cal_model.specs.Paths.TargetPaths.{target_path}
use Rattle.cal_model.specs.Bodies.AclLaws.{IsAmong, IsGrantAmong, GrantsAreAmong}
use Rattle.cal_model.specs.Users.UsersFile.{User, Group as GroupOf, Users, number_of, group_number_of}
use Rattle.cal_model.proofs.Streams.StreamFronts.{bool_cases, none_some}

-- Sets of privileges

Small : ℕ → Type 0
Small set = set < 2 ^ 9

Each : {X : Type 0} → (X → Type 0) → List X → Type 0
Each P [] = Unit {0}
Each P (x ∷ xs) = P x × Each P xs

union_small : (sets : List ℕ) (front : ℕ) → Small front → Each Small sets → Small (fold bit_or front sets)
unfolding Small Each
union_small [] front h all = h
union_small (set ∷ sets) front h all = union_small sets (bit_or front set) (or_lt 9 front set h all.0) all.1

rows_small : (test : PropName × ℕ → Bool) (rows : List (PropName × ℕ)) → Each (λ (row : PropName × ℕ). Small row.1) rows → Each Small (map (λ (row : PropName × ℕ). row.1) (filter test rows))
unfolding Each
rows_small test [] all = tt
rows_small test (row ∷ rows) all =
    ⊎_elim
    (λ yes. subst (λ b. Each Small (map (λ (r : PropName × ℕ). r.1) (cond b (row ∷ filter test rows) (filter test rows)))) (sym yes) (all.0, rows_small test rows all.1))
    (λ fails. subst (λ b. Each Small (map (λ (r : PropName × ℕ). r.1) (cond b (row ∷ filter test rows) (filter test rows)))) (sym fails) (rows_small test rows all.1))
    (bool_cases (test row))

table_small : Each (λ (row : PropName × ℕ). Small row.1) (privileges ++ aggregates)
unfolding Small Each
table_small = (omega arith, (omega arith, (omega arith, (omega arith, (omega arith, (omega arith, (omega arith, (omega arith, (omega arith, (omega arith, (omega arith, (omega arith, tt))))))))))))

named_small : (name : PropName) (set : ℕ) → set_named name ≡ Some set → Small set
unfolding Small
named_small name set e = by (is_empty (sets_named name)) e
  where
    by : (b : Bool) → cond b None (Some (united (sets_named name))) ≡ Some set → Small set
    by true k = none_some set k
    by false k = subst Small (same_Some _ _ k) (union_small (sets_named name) 0 (omega arith) (rows_small (λ (row : PropName × ℕ). same_name row.0 name) (privileges ++ aggregates) table_small))

one_small : (o : Option ℕ) (rest : List ℕ) → ((set : ℕ) → o ≡ Some set → Small set) → Each Small rest → Each Small (cons_option o rest)
unfolding Each
one_small None rest h more = more
one_small (Some set) rest h more = (h set refl, more)

found_small : (name : Element → PropName) (names : List Element) → Each Small (filter_map (λ (set : Option ℕ). set) (map (λ privilege. set_named (name privilege)) names))
unfolding Each
found_small name [] = tt
found_small name (privilege ∷ names) =
    one_small (set_named (name privilege)) (filter_map (λ (set : Option ℕ). set) (map (λ p. set_named (name p)) names)) (λ set h. named_small (name privilege) set h) (found_small name names)

bits_small : (ace : Element) → Small (bits_of ace)
unfolding Small
bits_small ace = union_small (filter_map (λ (set : Option ℕ). set) (granted_sets ace)) 0 (omega arith) (found_small property_name (flat_map children (granted_elements ace)))

-- Users and groups

IsMeant : Users → Meant → Type 0
IsMeant users (someone who) = IsAmong users who
IsMeant users nobody = Unit {0}
IsMeant users other_form = Unit {0}

principal_among : (users : Users) (o : Option Path) (who : Who) → option_and_then (principal_at users) o ≡ Some who → IsAmong users who
principal_among users None who e = none_some who e
principal_among users (Some Root) who e = none_some who e
principal_among users (Some (PrincipalPath name)) who e = by (number_of users name) refl (group_number_of users name) refl e
  where
    some_who : (a b : Who) → Some a ≡ Some b → a ≡ b
    some_who a b same = ap (λ o. unwrap_or o a) same

    by : (user : Option ℕ) → number_of users name ≡ user → (group : Option ℕ) → group_number_of users name ≡ group → or_else (option_map Principal user) (option_map Group group) ≡ Some who → IsAmong users who
    by (Some n) is group other same = subst (IsAmong users) (some_who (Principal n) who same) (position-Some (λ (user : User). bytes_eq name user.name) users.people n (record { name = []; digest = [] }) is).0
    by None is (Some n) other same = subst (IsAmong users) (some_who (Group n) who same) (position-Some (λ (group : GroupOf). bytes_eq name group.name) users.groups n (record { name = []; members = [] }) other).0
    by None is None other same = none_some who same
principal_among users (Some (Home user)) who e = none_some who e
principal_among users (Some (Calendar user calendar)) who e = none_some who e
principal_among users (Some (Object user calendar object)) who e = none_some who e

named_among : (users : Users) (href : List ℕ) → IsMeant users (named_by users href)
unfolding IsMeant
named_among users href = by (option_and_then (principal_at users) (target_path href)) (λ who h. principal_among users (target_path href) who h)
  where
    by : (o : Option Who) → ((who : Who) → o ≡ Some who → IsAmong users who) → IsMeant users (elim o [ None ↦ nobody | Some who ↦ someone who ])
    by None h = tt
    by (Some who) h = h who refl

form_among : (users : Users) (form : Element) → IsMeant users (meant_by_form users form)
unfolding IsMeant
form_among users form =
    choose (has_name dav (codes "href") form) (named_by users (own_text form)) (cond (has_name dav (codes "property") form) (cond (holds (codes "owner") form) (someone Owner) other_form) (someone Everyone)) (named_among users (own_text form))
    (choose (has_name dav (codes "property") form) (cond (holds (codes "owner") form) (someone Owner) other_form) (someone Everyone) (choose (holds (codes "owner") form) (someone Owner) other_form tt tt) tt)
  where
    choose : (b : Bool) (x y : Meant) → IsMeant users x → IsMeant users y → IsMeant users (cond b x y)
    choose true x y h k = h
    choose false x y h k = k

meant_among : (users : Users) (forms : List Element) → IsMeant users (meant_by users forms)
unfolding IsMeant
meant_among users [] = tt
meant_among users (form ∷ more) = form_among users form

-- Grants

one_grant : (users : Users) (m : Meant) (bits : ℕ) → IsMeant users m → Small bits → All (IsGrantAmong users) (map (λ who. record { who = who; held = record { 0 = bits } }) (who_of m))
unfolding IsMeant Small
one_grant users (someone who) bits h k = All-cons (IsGrantAmong users) (record { who = who; held = record { 0 = bits } }) [] (h, omega (arith, k)) (All-nil (IsGrantAmong users))
one_grant users nobody bits h k = All-nil (IsGrantAmong users)
one_grant users other_form bits h k = All-nil (IsGrantAmong users)

some_grants : (users : Users) (principals : List Element) (bits : ℕ) → Small bits → All (IsGrantAmong users) (map (λ who. record { who = who; held = record { 0 = bits } }) (flat_map who_of (map (λ principal. meant_by users (filter is_form (children principal))) principals)))
some_grants users [] bits k = All-nil (IsGrantAmong users)
some_grants users (principal ∷ principals) bits k =
    let m = meant_by users (filter is_form (children principal)) in
    let rest = flat_map who_of (map (λ p. meant_by users (filter is_form (children p))) principals) in
    subst (All (IsGrantAmong users)) (sym (map-append (λ who. record { who = who; held = record { 0 = bits } }) (who_of m) rest))
    (All-append (IsGrantAmong users) (map (λ who. record { who = who; held = record { 0 = bits } }) (who_of m)) (map (λ who. record { who = who; held = record { 0 = bits } }) rest)
    (one_grant users m bits (meant_among users (filter is_form (children principal))) k) (some_grants users principals bits k))

all_grants : (users : Users) (kept : List Element) → All (IsGrantAmong users) (flat_map (grants_of users) kept)
all_grants users [] = All-nil (IsGrantAmong users)
all_grants users (ace ∷ kept) =
    All-append (IsGrantAmong users) (grants_of users ace) (flat_map (grants_of users) kept)
    (some_grants users (first_named dav (codes "principal") ace) (bits_of ace) (bits_small ace)) (all_grants users kept)

pub grants_are_among : GrantsAreAmong
unfolding acl_content
grants_are_among users root grants e = by (not (has_name dav (codes "acl") root) || list_any lacks_part (aces root)) e
  where
    given : List Grant
    given = flat_map (grants_of users) (aces root)

    by_refusals : (refusals : List Refusal) → acl_by refusals given ≡ Acl grants → All (IsGrantAmong users) grants
    by_refusals [] k = subst (All (IsGrantAmong users)) (ap (λ c. grants_of_content c) k) (all_grants users (aces root))
      where
        grants_of_content : Content → List Grant
        grants_of_content (Acl those) = those
        grants_of_content _ = []
    by_refusals (refusal ∷ more) k = absurd (bad_apart refusal k)
      where
        is_acl : Content → Bool
        is_acl (Acl those) = true
        is_acl _ = false

        bad_apart : (r : Refusal) → Bad r ≡ Acl grants → ⊥
        bad_apart r x = false≢true (ap is_acl x)

    by : (b : Bool) → cond b (Bad bad_request) (acl_by (ace_refusals users (aces root)) given) ≡ Acl grants → All (IsGrantAmong users) grants
    by true k = absurd (bad_is bad_request k)
      where
        is_acl : Content → Bool
        is_acl (Acl those) = true
        is_acl _ = false

        bad_is : (r : Refusal) → Bad r ≡ Acl grants → ⊥
        bad_is r x = false≢true (ap is_acl x)
    by false k = by_refusals (ace_refusals users (aces root)) k
