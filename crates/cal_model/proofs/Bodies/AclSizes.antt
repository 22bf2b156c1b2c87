-- An ACL body grants at most as much as it has aces, of which there are at most 64.
use Rattle.std.specs.Prelude.{◌≡◌, ℕ, ◌+◌, ◌*◌, ◌≤◌, ◌<◌, Bool, true, false, not, ◌||◌, if◌then◌else◌, List, [], ◌∷◌, ◌++◌, length, take, filter, flat_map, codes, Option, Some, None, option_to_list}
use Rattle.std.specs.List.{list_any, enumerate_from}
use Rattle.std.proofs.Common.{arith, refl}
use Rattle.std.proofs.lemmas.Bool.{leb-false}
use Rattle.std.proofs.lemmas.List.{length-append, length-map}
use Rattle.cal_base.specs.declared.element.Element.{Element}
use Rattle.cal_base.specs.Xml.XmlSizes.{element_size}
use Rattle.cal_model.specs.declared.privilege.Grant.{Grant}
use Rattle.cal_model.specs.declared.privilege.Who.{Who}
use Rattle.cal_model.specs.declared.reply.Refusal.{Refusal}
use Rattle.cal_model.specs.declared.request.Content.TheVariants.{Bad}
use Rattle.cal_model.specs.Words.Namespaces.{dav}
use Rattle.cal_model.specs.Bodies.AclBodies.{grant_limit, Meant, someone, nobody, other_form, is_form, meant_by, meant, who_of, lacks_part, is_kept, aces, ace_rows, ace_refusals, grants_of, bits_of, acl_by, acl_content}
use Rattle.cal_model.specs.Bodies.ElementParts.{children, has_name, named, first_named}
use Rattle.cal_model.specs.Bodies.Refusals.{bad_request, Row, first_row}
use Rattle.cal_model.specs.Users.UsersFile.{Users}
use Rattle.cal_model.specs.Bodies.ContentSizes.{ContentFits, AclsFit}
use Rattle.cal_model.proofs.Bodies.ElementSizes.{filter_sizes, named_sizes}
use Rattle.cal_model.proofs.Bodies.BodySizes.{count_sizes}

few_who : (those : List Meant) → length (flat_map who_of those) ≤ length those
few_who [] = omega arith
few_who (someone who ∷ those) = omega (arith, few_who those)
few_who (nobody ∷ those) = omega (arith, few_who those)
few_who (other_form ∷ those) = omega (arith, few_who those)

first_few : {X : Type 0} (xs : List X) → length (take 1 xs) ≤ 1
first_few [] = omega arith
first_few (x ∷ xs) = omega arith

one_grant : (users : Users) (ace : Element) → length (grants_of users ace) ≤ 1
one_grant users ace =
    let grant : Who → Grant = λ who. record { who = who; held = record { 0 = bits_of ace } } in
    omega (
      arith,
      length-map (flat_map who_of (meant users ace)) grant,
      few_who (meant users ace),
      length-map (first_named dav (codes "principal") ace) (λ principal. meant_by users (filter is_form (children principal))),
      first_few (named dav (codes "principal") ace),
    )

few_grants : (users : Users) (kept : List Element) → length (flat_map (grants_of users) kept) ≤ length kept
few_grants users [] = omega arith
few_grants users (ace ∷ kept) = omega (arith, length-append (grants_of users ace) (flat_map (grants_of users) kept), one_grant users ace, few_grants users kept)

-- The 65th kept ace is refused

abbrev pub NoneHolds : List Row → Type 0
NoneHolds [] = Unit {0}
NoneHolds (row ∷ rows) = (row.0 ≡ false) × NoneHolds rows

pub none_holds : (rows : List Row) → first_row rows ≡ None → NoneHolds rows
none_holds [] e = tt
none_holds (row ∷ rows) e = by row.0 refl e (none_holds rows)
  where
    by : (b : Bool) → row.0 ≡ b → (if b then Some row.1 else first_row rows) ≡ None → (first_row rows ≡ None → NoneHolds rows) → NoneHolds (row ∷ rows)
    by true h k more = absurd cc
    by false h k more = (h, more k)

none_listed : {X : Type 0} (found : Option X) (rest : List X) → option_to_list found ++ rest ≡ [] → (found ≡ None) × (rest ≡ [])
none_listed None rest e = (refl, e)
none_listed (Some x) rest e = absurd cc

still_room : (users : Users) (before : ℕ) (ace : Element) → first_row (ace_rows users before ace) ≡ None → before < 64
still_room users before ace e =
    leb-false 64 before (none_holds (ace_rows users before ace) e).1.1.1.1.1.0

few_aces : (users : Users) (before : ℕ) (kept : List Element) → before ≤ 64 →
    flat_map (λ (ace : ℕ × Element). option_to_list (first_row (ace_rows users ace.0 ace.1))) (enumerate_from before kept) ≡ [] → before + length kept ≤ 64
few_aces users before [] h e = omega arith
few_aces users before (ace ∷ kept) h e =
    let both = none_listed (first_row (ace_rows users before ace)) _ e in
    omega (arith, few_aces users (before + 1) kept (omega (arith, still_room users before ace both.0)) both.1)

pub grants_are_few : (users : Users) (root : Element) → ace_refusals users (aces root) ≡ [] → length (flat_map (grants_of users) (aces root)) ≤ grant_limit
grants_are_few users root e = omega (arith, few_grants users (aces root), few_aces users 0 (aces root) (omega arith) e)

grants_fit : (users : Users) (root : Element) → 4 * length (flat_map (grants_of users) (aces root)) ≤ element_size root
grants_fit users root =
    omega (arith, few_grants users (aces root), count_sizes (aces root), filter_sizes is_kept (named dav (codes "ace") root), named_sizes dav (codes "ace") root)

pub acls_fit : AclsFit
unfolding acl_content
acls_fit users root = by (not (has_name dav (codes "acl") root) || list_any lacks_part (aces root)) (ace_refusals users (aces root))
  where
    by : (b : Bool) (refusals : List Refusal) → ContentFits (element_size root) (if b then Bad bad_request else acl_by refusals (flat_map (grants_of users) (aces root)))
    by true refusals = tt
    by false [] = grants_fit users root
    by false (refusal ∷ more) = tt
