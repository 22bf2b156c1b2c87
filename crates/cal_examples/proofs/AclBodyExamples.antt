-- Bodies of ACL (RFC 3744, 5.5 and 8.1): the grants, and each refusal.
use Rattle.std.specs.Prelude.{◌≡◌, refl, ℕ, List, [], ◌∷◌, codes, replicate}
use Rattle.std.specs.Str.{is_utf8, chars}
use lib.Utf8.{encode}
use denote.Hole.Carrier as H
use Rattle.cal_base.specs.declared.element.Element.{Element}
use Rattle.cal_base.specs.declared.element.Item.{Item}
use Rattle.cal_base.specs.declared.element.Item as I
use Rattle.cal_base.specs.declared.element.Item.TheBlock as B
use Rattle.cal_base.specs.declared.element.Item.TheVariants.{Text}
use Rattle.percent_encoding.specs.Percent.{percent_decode}
use Rattle.cal_model.specs.declared.privilege.Grant.{Grant}
use Rattle.cal_model.specs.declared.privilege.Who.{Who}
use Rattle.cal_model.specs.declared.privilege.Who.TheVariants.{Everyone, Owner, Principal, Group}
use Rattle.cal_model.specs.declared.request.Content.TheVariants.{Acl, Bad}
use Rattle.cal_model.specs.Words.Cuts.{cut_at}
use Rattle.cal_model.specs.Paths.TargetPaths.{target_path}
use Rattle.cal_model.specs.Users.UsersFile.{Users}
use Rattle.cal_model.specs.Bodies.AclBodies.{acl_content}
use Rattle.cal_model.specs.Bodies.Refusals.{bad_request, dav_refusal}
use Rattle.cal_examples.proofs.BodySamples.{dav_root, dav_item}

abbrev users : Users
users = record {
  people = record { name = codes "alice"; digest = [] } ∷ record { name = codes "bob"; digest = [] } ∷ [];
  groups = record { name = codes "team"; members = 1 ∷ [] } ∷ [];
}

-- an ACL with these aces
abbrev acl : List Item → Element
acl aces = dav_root (codes "acl") aces

abbrev ace : List Item → Item
ace items = dav_item (codes "ace") items

abbrev principal : Item → Item
principal form = dav_item (codes "principal") (form ∷ [])

abbrev everyone : Item
everyone = principal (dav_item (codes "all") [])

abbrev user_at : List ℕ → Item
user_at href = principal (dav_item (codes "href") (Text href ∷ []))

-- a grant of one privilege
abbrev privilege : List ℕ → Item
privilege name = dav_item (codes "privilege") (dav_item name [] ∷ [])

abbrev grant_read : Item
grant_read = dav_item (codes "grant") (privilege (codes "read") ∷ [])

abbrev part : List ℕ → Item
part name = dav_item name []

-- read, and read-free-busy in it
abbrev read_for : Who → Grant
read_for who = record { who = who; held = record { 0 = 3 } }

-- Whom a grant is to

pub to_all : acl_content users (acl (ace (everyone ∷ grant_read ∷ []) ∷ [])) ≡ Acl (read_for Everyone ∷ [])
unfolding acl_content target_path cut_at percent_decode is_utf8 chars encode I.out-Item I.roll-Item B.shown-the_row-Item-0 B.hidden-the_row-Item-0 B.shape-the_row-Item-0 H.out H.roll H.shown H.hidden
to_all = refl

pub to_authenticated : acl_content users (acl (ace (principal (part (codes "authenticated")) ∷ grant_read ∷ []) ∷ [])) ≡ Acl (read_for Everyone ∷ [])
unfolding acl_content target_path cut_at percent_decode is_utf8 chars encode I.out-Item I.roll-Item B.shown-the_row-Item-0 B.hidden-the_row-Item-0 B.shape-the_row-Item-0 H.out H.roll H.shown H.hidden
to_authenticated = refl

pub to_owner : acl_content users (acl (ace (principal (dav_item (codes "property") (part (codes "owner") ∷ [])) ∷ grant_read ∷ []) ∷ [])) ≡ Acl (read_for Owner ∷ [])
unfolding acl_content target_path cut_at percent_decode is_utf8 chars encode I.out-Item I.roll-Item B.shown-the_row-Item-0 B.hidden-the_row-Item-0 B.shape-the_row-Item-0 H.out H.roll H.shown H.hidden
to_owner = refl

pub to_user : acl_content users (acl (ace (user_at (codes "http://h/principals/bob") ∷ grant_read ∷ []) ∷ [])) ≡ Acl (read_for (Principal 1) ∷ [])
unfolding acl_content target_path cut_at percent_decode is_utf8 chars encode I.out-Item I.roll-Item B.shown-the_row-Item-0 B.hidden-the_row-Item-0 B.shape-the_row-Item-0 H.out H.roll H.shown H.hidden
to_user = refl

pub to_group : acl_content users (acl (ace (user_at (codes "/principals/team/") ∷ grant_read ∷ []) ∷ [])) ≡ Acl (read_for (Group 0) ∷ [])
unfolding acl_content target_path cut_at percent_decode is_utf8 chars encode I.out-Item I.roll-Item B.shown-the_row-Item-0 B.hidden-the_row-Item-0 B.shape-the_row-Item-0 H.out H.roll H.shown H.hidden
to_group = refl

pub to_crew : acl_content users (acl (ace (user_at (codes "/principals/crew/") ∷ grant_read ∷ []) ∷ [])) ≡ Bad (dav_refusal (codes "recognized-principal"))
unfolding acl_content target_path cut_at percent_decode is_utf8 chars encode I.out-Item I.roll-Item B.shown-the_row-Item-0 B.hidden-the_row-Item-0 B.shape-the_row-Item-0 H.out H.roll H.shown H.hidden
to_crew = refl

pub to_nobody : acl_content users (acl (ace (user_at (codes "/principals/carol/") ∷ grant_read ∷ []) ∷ [])) ≡ Bad (dav_refusal (codes "recognized-principal"))
unfolding acl_content target_path cut_at percent_decode is_utf8 chars encode I.out-Item I.roll-Item B.shown-the_row-Item-0 B.hidden-the_row-Item-0 B.shape-the_row-Item-0 H.out H.roll H.shown H.hidden
to_nobody = refl

pub to_href_with_space : acl_content users (acl (ace (user_at (codes " /principals/bob/") ∷ grant_read ∷ []) ∷ [])) ≡ Bad (dav_refusal (codes "recognized-principal"))
unfolding acl_content target_path cut_at percent_decode is_utf8 chars encode I.out-Item I.roll-Item B.shown-the_row-Item-0 B.hidden-the_row-Item-0 B.shape-the_row-Item-0 H.out H.roll H.shown H.hidden
to_href_with_space = refl

pub to_self : acl_content users (acl (ace (principal (part (codes "self")) ∷ grant_read ∷ []) ∷ [])) ≡ Bad (dav_refusal (codes "allowed-principal"))
unfolding acl_content target_path cut_at percent_decode is_utf8 chars encode I.out-Item I.roll-Item B.shown-the_row-Item-0 B.hidden-the_row-Item-0 B.shape-the_row-Item-0 H.out H.roll H.shown H.hidden
to_self = refl

pub to_empty_principal : acl_content users (acl (ace (dav_item (codes "principal") [] ∷ grant_read ∷ []) ∷ [])) ≡ Bad (dav_refusal (codes "allowed-principal"))
unfolding acl_content target_path cut_at percent_decode is_utf8 chars encode I.out-Item I.roll-Item B.shown-the_row-Item-0 B.hidden-the_row-Item-0 B.shape-the_row-Item-0 H.out H.roll H.shown H.hidden
to_empty_principal = refl

-- What it grants

-- bits are united
pub several_privileges : acl_content users (acl (ace (everyone ∷ dav_item (codes "grant") (privilege (codes "bind") ∷ privilege (codes "unbind") ∷ []) ∷ []) ∷ [])) ≡ Acl (record { who = Everyone; held = record { 0 = 48 } } ∷ [])
unfolding acl_content target_path cut_at percent_decode is_utf8 chars encode I.out-Item I.roll-Item B.shown-the_row-Item-0 B.hidden-the_row-Item-0 B.shape-the_row-Item-0 H.out H.roll H.shown H.hidden
several_privileges = refl

pub unknown_privilege : acl_content users (acl (ace (everyone ∷ dav_item (codes "grant") (privilege (codes "unlock") ∷ []) ∷ []) ∷ [])) ≡ Bad (dav_refusal (codes "not-supported-privilege"))
unfolding acl_content target_path cut_at percent_decode is_utf8 chars encode I.out-Item I.roll-Item B.shown-the_row-Item-0 B.hidden-the_row-Item-0 B.shape-the_row-Item-0 H.out H.roll H.shown H.hidden
unknown_privilege = refl

pub grant_of_nothing : acl_content users (acl (ace (everyone ∷ part (codes "grant") ∷ []) ∷ [])) ≡ Bad bad_request
unfolding acl_content target_path cut_at percent_decode is_utf8 chars encode I.out-Item I.roll-Item B.shown-the_row-Item-0 B.hidden-the_row-Item-0 B.shape-the_row-Item-0 H.out H.roll H.shown H.hidden
grant_of_nothing = refl

pub privilege_of_nothing : acl_content users (acl (ace (everyone ∷ dav_item (codes "grant") (part (codes "privilege") ∷ []) ∷ []) ∷ [])) ≡ Bad bad_request
unfolding acl_content target_path cut_at percent_decode is_utf8 chars encode I.out-Item I.roll-Item B.shown-the_row-Item-0 B.hidden-the_row-Item-0 B.shape-the_row-Item-0 H.out H.roll H.shown H.hidden
privilege_of_nothing = refl

-- Aces

-- all grants are taken back
pub no_ace : acl_content users (acl []) ≡ Acl []
unfolding acl_content target_path cut_at percent_decode is_utf8 chars encode I.out-Item I.roll-Item B.shown-the_row-Item-0 B.hidden-the_row-Item-0 B.shape-the_row-Item-0 H.out H.roll H.shown H.hidden
no_ace = refl

pub grants_in_order : acl_content users (acl (ace (user_at (codes "/principals/bob/") ∷ grant_read ∷ []) ∷ ace (everyone ∷ grant_read ∷ []) ∷ [])) ≡ Acl (read_for (Principal 1) ∷ read_for Everyone ∷ [])
unfolding acl_content target_path cut_at percent_decode is_utf8 chars encode I.out-Item I.roll-Item B.shown-the_row-Item-0 B.hidden-the_row-Item-0 B.shape-the_row-Item-0 H.out H.roll H.shown H.hidden
grants_in_order = refl

-- it is not looked at
pub protected_ace : acl_content users (acl (ace (part (codes "protected") ∷ part (codes "deny") ∷ []) ∷ ace (everyone ∷ grant_read ∷ []) ∷ [])) ≡ Acl (read_for Everyone ∷ [])
unfolding acl_content target_path cut_at percent_decode is_utf8 chars encode I.out-Item I.roll-Item B.shown-the_row-Item-0 B.hidden-the_row-Item-0 B.shape-the_row-Item-0 H.out H.roll H.shown H.hidden
protected_ace = refl

pub deny : acl_content users (acl (ace (everyone ∷ part (codes "deny") ∷ []) ∷ [])) ≡ Bad (dav_refusal (codes "grant-only"))
unfolding acl_content target_path cut_at percent_decode is_utf8 chars encode I.out-Item I.roll-Item B.shown-the_row-Item-0 B.hidden-the_row-Item-0 B.shape-the_row-Item-0 H.out H.roll H.shown H.hidden
deny = refl

pub invert : acl_content users (acl (ace (part (codes "invert") ∷ grant_read ∷ []) ∷ [])) ≡ Bad (dav_refusal (codes "no-invert"))
unfolding acl_content target_path cut_at percent_decode is_utf8 chars encode I.out-Item I.roll-Item B.shown-the_row-Item-0 B.hidden-the_row-Item-0 B.shape-the_row-Item-0 H.out H.roll H.shown H.hidden
invert = refl

pub without_principal : acl_content users (acl (ace (grant_read ∷ []) ∷ [])) ≡ Bad bad_request
unfolding acl_content target_path cut_at percent_decode is_utf8 chars encode I.out-Item I.roll-Item B.shown-the_row-Item-0 B.hidden-the_row-Item-0 B.shape-the_row-Item-0 H.out H.roll H.shown H.hidden
without_principal = refl

pub without_grant : acl_content users (acl (ace (everyone ∷ []) ∷ [])) ≡ Bad bad_request
unfolding acl_content target_path cut_at percent_decode is_utf8 chars encode I.out-Item I.roll-Item B.shown-the_row-Item-0 B.hidden-the_row-Item-0 B.shape-the_row-Item-0 H.out H.roll H.shown H.hidden
without_grant = refl

-- Order: 400 of any ace, then the first ace that is refused, and of one ace the table

pub bad_ace_behind_refused : acl_content users (acl (ace (everyone ∷ part (codes "deny") ∷ []) ∷ ace (everyone ∷ []) ∷ [])) ≡ Bad bad_request
unfolding acl_content target_path cut_at percent_decode is_utf8 chars encode I.out-Item I.roll-Item B.shown-the_row-Item-0 B.hidden-the_row-Item-0 B.shape-the_row-Item-0 H.out H.roll H.shown H.hidden
bad_ace_behind_refused = refl

pub first_ace_decides : acl_content users (acl (ace (principal (part (codes "self")) ∷ grant_read ∷ []) ∷ ace (everyone ∷ part (codes "deny") ∷ []) ∷ [])) ≡ Bad (dav_refusal (codes "allowed-principal"))
unfolding acl_content target_path cut_at percent_decode is_utf8 chars encode I.out-Item I.roll-Item B.shown-the_row-Item-0 B.hidden-the_row-Item-0 B.shape-the_row-Item-0 H.out H.roll H.shown H.hidden
first_ace_decides = refl

pub principal_before_privilege : acl_content users (acl (ace (user_at (codes "/x") ∷ dav_item (codes "grant") (privilege (codes "x") ∷ []) ∷ []) ∷ [])) ≡ Bad (dav_refusal (codes "recognized-principal"))
unfolding acl_content target_path cut_at percent_decode is_utf8 chars encode I.out-Item I.roll-Item B.shown-the_row-Item-0 B.hidden-the_row-Item-0 B.shape-the_row-Item-0 H.out H.roll H.shown H.hidden
principal_before_privilege = refl

pub as_many_as_there_may_be : acl_content users (acl (replicate 64 (ace (everyone ∷ grant_read ∷ [])))) ≡ Acl (replicate 64 (read_for Everyone))
unfolding acl_content target_path cut_at percent_decode is_utf8 chars encode I.out-Item I.roll-Item B.shown-the_row-Item-0 B.hidden-the_row-Item-0 B.shape-the_row-Item-0 H.out H.roll H.shown H.hidden
as_many_as_there_may_be = refl

pub one_ace_too_many : acl_content users (acl (replicate 65 (ace (everyone ∷ grant_read ∷ [])))) ≡ Bad (dav_refusal (codes "limited-number-of-aces"))
unfolding acl_content target_path cut_at percent_decode is_utf8 chars encode I.out-Item I.roll-Item B.shown-the_row-Item-0 B.hidden-the_row-Item-0 B.shape-the_row-Item-0 H.out H.roll H.shown H.hidden
one_ace_too_many = refl
