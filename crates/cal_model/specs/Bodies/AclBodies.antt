-- The body of ACL (RFC 3744, 5.5 and 8.1): the grants that it makes, and the table of its refusals.
-- Given: the users and groups of the server, and the root of a body. Gives: the grants in order, or the first refusal: that of the first ace that has one.
use Rattle.std.specs.Prelude.{ℕ, Bool, true, false, not, ◌&&◌, ◌||◌, nat_le, if◌then◌else◌, List, [], ◌∷◌, map, filter, flat_map, codes, Option, Some, None, is_none, option_map, option_and_then, option_to_list}
use Rattle.std.specs.List.{list_any, filter_map, enumerate_from}
use Rattle.cal_base.specs.declared.element.Element.{Element}
use Rattle.cal_base.specs.Lines.ComponentTrees.{or_else}
use Rattle.cal_model.specs.declared.path.Path.{Path}
use Rattle.cal_model.specs.declared.path.Path.TheVariants.{Principal as PrincipalPath}
use Rattle.cal_model.specs.declared.privilege.Grant.{Grant}
use Rattle.cal_model.specs.declared.privilege.Who.{Who}
use Rattle.cal_model.specs.declared.privilege.Who.TheVariants.{Everyone, Owner, Principal, Group}
use Rattle.cal_model.specs.declared.request.Content.{Content}
use Rattle.cal_model.specs.declared.request.Content.TheVariants.{Acl, Bad}
use Rattle.cal_model.specs.declared.reply.Refusal.{Refusal}
use Rattle.cal_model.specs.Words.Namespaces.{dav}
use Rattle.cal_model.specs.Words.Lists.{is_empty}
use Rattle.cal_model.specs.Access.Privileges.{set_named, united}
use Rattle.cal_model.specs.Bodies.Refusals.{bad_request, dav_refusal, Row, first_row}
use Rattle.cal_model.specs.Paths.TargetPaths.{target_path}
use Rattle.cal_model.specs.Users.UsersFile.{Users, number_of, group_number_of}
use Rattle.cal_model.specs.Bodies.ElementParts.{children, has_name, named, first_named, own_text}
use Rattle.cal_model.specs.Bodies.AskedProperties.{property_name}

-- the most grants of a calendar
abbrev pub grant_limit : ℕ
grant_limit = 64

abbrev pub holds : List ℕ → Element → Bool
holds name element = not (is_empty (named dav name element))

-- Principals (5.5.1)

-- whom a principal means: someone, an href that names nobody, or another form
pub data Meant : Type 0 where
  someone : Who → Meant
  nobody : Meant
  other_form : Meant

-- the user or the group whose principal's path it is
abbrev pub principal_at : Users → Path → Option Who
principal_at users (PrincipalPath name) = or_else (option_map Principal (number_of users name)) (option_map Group (group_number_of users name))
principal_at users _ = None

abbrev pub named_by : Users → List ℕ → Meant
named_by users href = elim (option_and_then (principal_at users) (target_path href)) [ None ↦ nobody | Some who ↦ someone who ]

-- the forms that are known
abbrev pub is_form : Element → Bool
is_form element =
    has_name dav (codes "href") element || has_name dav (codes "all") element
    || has_name dav (codes "authenticated") element || has_name dav (codes "property") element

abbrev pub meant_by_form : Users → Element → Meant
meant_by_form users form =
    if has_name dav (codes "href") form then named_by users (own_text form)
    else if has_name dav (codes "property") form then (if holds (codes "owner") form then someone Owner else other_form)
    else someone Everyone

-- the first known form counts
abbrev pub meant_by : Users → List Element → Meant
meant_by users [] = other_form
meant_by users (form ∷ more) = meant_by_form users form

-- whom the principal of an ace means, if it has one
abbrev pub meant : Users → Element → List Meant
meant users ace = map (λ principal. meant_by users (filter is_form (children principal))) (first_named dav (codes "principal") ace)

abbrev pub is_nobody : Meant → Bool
is_nobody (someone who) = false
is_nobody nobody = true
is_nobody other_form = false

abbrev pub is_other_form : Meant → Bool
is_other_form (someone who) = false
is_other_form nobody = false
is_other_form other_form = true

abbrev pub who_of : Meant → List Who
who_of (someone who) = who ∷ []
who_of nobody = []
who_of other_form = []

-- Privileges (5.5.2)

abbrev pub granted_elements : Element → List Element
granted_elements ace = flat_map (named dav (codes "privilege")) (first_named dav (codes "grant") ace)

-- the set of each privilege that an ace grants, if it is known
abbrev pub granted_sets : Element → List (Option ℕ)
granted_sets ace = map (λ privilege. set_named (property_name privilege)) (flat_map children (granted_elements ace))

-- Aces

-- one that is protected or inherited says nothing here (8.1)
abbrev pub is_kept : Element → Bool
is_kept ace = not (holds (codes "protected") ace || holds (codes "inherited") ace)

abbrev pub aces : Element → List Element
aces root = filter is_kept (named dav (codes "ace") root)

-- without whom, without what, or with a grant of nothing
abbrev pub lacks_part : Element → Bool
lacks_part ace =
    not (holds (codes "principal") ace) && not (holds (codes "invert") ace)
    || not (holds (codes "grant") ace) && not (holds (codes "deny") ace)
    || holds (codes "grant") ace && is_empty (granted_elements ace)
    || list_any (λ privilege. is_empty (children privilege)) (granted_elements ace)

-- the rows of an ace, before which there are so many
abbrev pub ace_rows : Users → ℕ → Element → List Row
ace_rows users before ace =
    (holds (codes "deny") ace, dav_refusal (codes "grant-only"))
    ∷ (holds (codes "invert") ace, dav_refusal (codes "no-invert"))
    ∷ (list_any is_nobody (meant users ace), dav_refusal (codes "recognized-principal"))
    ∷ (list_any is_other_form (meant users ace), dav_refusal (codes "allowed-principal"))
    ∷ (list_any is_none (granted_sets ace), dav_refusal (codes "not-supported-privilege"))
    ∷ (nat_le grant_limit before, dav_refusal (codes "limited-number-of-aces"))
    ∷ []

-- the first ace decides
abbrev pub ace_refusals : Users → List Element → List Refusal
ace_refusals users kept = flat_map (λ (ace : ℕ × Element). option_to_list (first_row (ace_rows users ace.0 ace.1))) (enumerate_from 0 kept)

-- what an ace grants, and to whom
abbrev pub bits_of : Element → ℕ
bits_of ace = united (filter_map (λ set. set) (granted_sets ace))

abbrev pub grants_of : Users → Element → List Grant
grants_of users ace = map (λ who. record { who = who; held = record { 0 = bits_of ace } }) (flat_map who_of (meant users ace))

abbrev pub acl_by : List Refusal → List Grant → Content
acl_by [] grants = Acl grants
acl_by (refusal ∷ more) grants = Bad refusal

unfoldable pub acl_content : Users → Element → Content
acl_content users root =
    if not (has_name dav (codes "acl") root) || list_any lacks_part (aces root) then Bad bad_request
    else acl_by (ace_refusals users (aces root)) (flat_map (grants_of users) (aces root))
