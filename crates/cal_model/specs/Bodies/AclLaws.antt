-- The law of ACL bodies: what is granted is granted to the server's users and groups, and is a set of the nine privileges.
use Rattle.std.specs.Prelude.{◌≡◌, ◌<◌, List, All, length}
use Rattle.cal_base.specs.declared.element.Element.{Element}
use Rattle.cal_model.specs.declared.privilege.Grant.{Grant}
use Rattle.cal_model.specs.declared.privilege.Who.{Who}
use Rattle.cal_model.specs.declared.privilege.Who.TheVariants.{Everyone, Owner, Principal, Group}
use Rattle.cal_model.specs.declared.request.Content.TheVariants.{Acl}
use Rattle.cal_model.specs.Bodies.AclBodies.{acl_content}
use Rattle.cal_model.specs.Users.UsersFile.{Users}

-- a user or a group of these, or nobody in particular
abbrev pub IsAmong : Users → Who → Type 0
IsAmong users Everyone = Unit {0}
IsAmong users Owner = Unit {0}
IsAmong users (Principal number) = number < length users.people
IsAmong users (Group number) = number < length users.groups

abbrev pub IsGrantAmong : Users → Grant → Type 0
IsGrantAmong users grant = IsAmong users grant.who × (grant.held.0 < 512)

abbrev pub GrantsAreAmong : Type 0
GrantsAreAmong = (users : Users) (root : Element) (grants : List Grant) → acl_content users root ≡ Acl grants → All (IsGrantAmong users) grants
