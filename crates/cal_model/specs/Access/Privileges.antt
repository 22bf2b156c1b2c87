-- The privileges on a calendar: which there are and what each contains, and which of them a user holds (RFC 3744, 3, 5.3 and 5.5; RFC 4791, 6.1.1).
-- A set of privileges is a sum of their bits, and what is held is a union over all grants, whatever their order. Who asks is the number of a user and the numbers
-- of the groups that the user is in (RFC 3744, 2).
use Rattle.std.specs.Prelude.{ℕ, Bool, true, false, ◌&&◌, ◌==◌, if◌then◌else◌, List, [], ◌∷◌, ◌++◌, map, filter, fold, bit_and, bit_or, bytes_eq, Option, Some, None, codes}
use Rattle.std.specs.List.{list_any}
use Rattle.cal_model.specs.declared.privilege.Grant.{Grant}
use Rattle.cal_model.specs.declared.privilege.Who.{Who}
use Rattle.cal_model.specs.declared.privilege.Who.TheVariants.{Everyone, Owner, Principal, Group}
use Rattle.cal_model.specs.declared.property.PropName.{PropName}
use Rattle.cal_model.specs.Words.Namespaces.{dav, caldav}
use Rattle.cal_model.specs.Words.Lists.{is_empty}

-- Bits

-- each privilege that has a bit of its own
abbrev pub read_free_busy : ℕ
read_free_busy = 1

abbrev pub read : ℕ
read = 2

abbrev pub write_content : ℕ
write_content = 4

abbrev pub write_properties : ℕ
write_properties = 8

abbrev pub bind : ℕ
bind = 16

abbrev pub unbind : ℕ
unbind = 32

abbrev pub read_acl : ℕ
read_acl = 64

abbrev pub write_acl : ℕ
write_acl = 128

abbrev pub read_held : ℕ
read_held = 256

-- all that change what a calendar has, and all nine
abbrev pub write : ℕ
write = 60

abbrev pub all : ℕ
all = 511

-- Names

-- the elements of the nine, in the order in which they are listed (RFC 3744, 3.1 to 3.10; RFC 4791, 6.1.1)
abbrev pub privileges : List (PropName × ℕ)
privileges =
    (record { space = caldav; name = codes "read-free-busy" }, read_free_busy)
    ∷ (record { space = dav; name = codes "read" }, read)
    ∷ (record { space = dav; name = codes "write-content" }, write_content)
    ∷ (record { space = dav; name = codes "write-properties" }, write_properties)
    ∷ (record { space = dav; name = codes "bind" }, bind)
    ∷ (record { space = dav; name = codes "unbind" }, unbind)
    ∷ (record { space = dav; name = codes "read-acl" }, read_acl)
    ∷ (record { space = dav; name = codes "write-acl" }, write_acl)
    ∷ (record { space = dav; name = codes "read-current-user-privilege-set" }, read_held)
    ∷ []

-- those that contain others, with what they contain
abbrev pub aggregates : List (PropName × ℕ)
aggregates =
    (record { space = dav; name = codes "read" }, read_free_busy)
    ∷ (record { space = dav; name = codes "write" }, write)
    ∷ (record { space = dav; name = codes "all" }, all)
    ∷ []

-- the union of some sets
abbrev pub united : List ℕ → ℕ
united sets = fold bit_or 0 sets

abbrev pub same_name : PropName → PropName → Bool
same_name a b = bytes_eq a.space b.space && bytes_eq a.name b.name

-- what a grant of a privilege grants: its own bit and those that it contains; nothing where no privilege has the name
abbrev pub sets_named : PropName → List ℕ
sets_named name = map (λ (row : PropName × ℕ). row.1) (filter (λ (row : PropName × ℕ). same_name row.0 name) (privileges ++ aggregates))

abbrev pub set_named : PropName → Option ℕ
set_named name = if is_empty (sets_named name) then None else Some (united (sets_named name))

-- What is held

-- whether a grant is to a user, who is in these groups; one to the owner adds nothing, since the owner holds all
abbrev pub fits_user : List ℕ → ℕ → Who → Bool
fits_user groups user Everyone = true
fits_user groups user Owner = false
fits_user groups user (Principal number) = number == user
fits_user groups user (Group number) = list_any (λ group. number == group) groups

-- what the grants give to a user
abbrev pub granted : List ℕ → List Grant → ℕ → ℕ
granted groups grants user =
    united (map (λ (grant : Grant). grant.held.0) (filter (λ (grant : Grant). fits_user groups user grant.who) grants))

-- the privileges that a user holds on a calendar, and on its objects: the owner all, another user the union of the grants
unfoldable pub privileges_held : List ℕ → List Grant → ℕ → ℕ → ℕ
privileges_held groups grants owner user = if owner == user then all else granted groups grants user

-- a set has all of some privileges
abbrev pub has_all : ℕ → ℕ → Bool
has_all set wanted = bit_and set wanted == wanted
