-- Worked examples of privileges.
use Rattle.std.specs.Prelude.{◌≡◌, refl, ℕ, true, false, List, [], ◌∷◌, map, Some, None, codes}
use Rattle.cal_model.specs.declared.privilege.Grant.{Grant}
use Rattle.cal_model.specs.declared.privilege.Who.{Who}
use Rattle.cal_model.specs.declared.privilege.Who.TheVariants.{Everyone, Owner, Principal, Group}
use Rattle.cal_model.specs.Words.Namespaces.{dav, caldav}
use Rattle.cal_model.specs.Access.Privileges.{privileges, all, united, set_named, privileges_held, has_all, read, write, read_free_busy}
use Rattle.cal_model.specs.State.ServerState.{Directory, groups_of, is_member}

-- a grant of a sum of bits
abbrev grant : Who → ℕ → Grant
grant who bits = record { who = who; held = record { 0 = bits } }

-- three users by their numbers
abbrev alice : ℕ
alice = 0

abbrev bob : ℕ
bob = 1

abbrev carol : ℕ
carol = 2

-- a calendar of alice on which bob may see when she is busy
abbrev shared : List Grant
shared = grant (Principal bob) 1 ∷ []

of_each : (privileges_held [] shared alice alice ≡ 511) × (privileges_held [] shared alice bob ≡ 1) × (privileges_held [] shared alice carol ≡ 0)
unfolding privileges_held
of_each = (refl, refl, refl)

-- so bob may ask when she is busy and may not read
asks : (has_all (privileges_held [] shared alice bob) read_free_busy ≡ true) × (has_all (privileges_held [] shared alice bob) read ≡ false)
unfolding privileges_held
asks = (refl, refl)

-- grants are united, those to everyone among them; one to the owner adds nothing
several : (privileges_held [] (grant Everyone 1 ∷ grant (Principal bob) 68 ∷ grant Owner 2 ∷ grant (Principal carol) 8 ∷ grant (Principal bob) 65 ∷ []) alice bob ≡ 69)
    × (privileges_held [] (grant Owner 511 ∷ []) alice bob ≡ 0)
unfolding privileges_held
several = (refl, refl)

-- what a group of the user was granted is held too, and nothing of another group; the owner in a group holds no more by it
by_group : (privileges_held (0 ∷ []) (grant (Group 0) 2 ∷ grant (Principal bob) 64 ∷ []) alice bob ≡ 66)
    × (privileges_held [] (grant (Group 0) 2 ∷ []) alice bob ≡ 0)
    × (privileges_held (1 ∷ []) (grant (Group 0) 2 ∷ []) alice carol ≡ 0)
    × (privileges_held (0 ∷ []) (grant (Group 0) 2 ∷ []) alice alice ≡ 511)
unfolding privileges_held
by_group = (refl, refl, refl, refl)

-- the groups of each user, by their numbers
abbrev team : Directory
team = record {
  names = codes "alice" ∷ codes "bob" ∷ codes "carol" ∷ [];
  groups = record { name = codes "team"; members = bob ∷ carol ∷ [] } ∷ record { name = codes "g.2"; members = alice ∷ bob ∷ [] } ∷ [];
}

in_groups : (groups_of team alice ≡ 1 ∷ []) × (groups_of team bob ≡ 0 ∷ 1 ∷ []) × (groups_of team carol ≡ 0 ∷ [])
    × (is_member team 0 bob ≡ true) × (is_member team 0 alice ≡ false)
in_groups = (refl, refl, refl, refl, refl)

-- write is held with all four of its parts, and not with three
parts_of_write : (has_all 60 write ≡ true) × (has_all 52 write ≡ false)
parts_of_write = (refl, refl)

-- what the names grant
names : map set_named (record { space = caldav; name = codes "read-free-busy" } ∷ record { space = dav; name = codes "read" } ∷ record { space = dav; name = codes "write" }
    ∷ record { space = dav; name = codes "bind" } ∷ record { space = dav; name = codes "read-current-user-privilege-set" } ∷ record { space = dav; name = codes "all" }
    ∷ record { space = dav; name = codes "read-free-busy" } ∷ record { space = dav; name = codes "unlock" } ∷ [])
    ≡ Some 1 ∷ Some 3 ∷ Some 60 ∷ Some 16 ∷ Some 256 ∷ Some 511 ∷ None ∷ None ∷ []
names = refl

-- the nine are all there are
nine : united (map (λ row. row.1) privileges) ≡ all
nine = refl
