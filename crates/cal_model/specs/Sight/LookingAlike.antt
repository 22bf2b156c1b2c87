-- Two states look alike to a user: no difference between them can be read by the user, or seen as busy time (RFC 3744, 3; RFC 4791, 6.1.1).
-- Given: the users and groups, which are the same in both, two states, and the number of one user. It speaks of the states themselves, and not of what a request sees of them.
use Rattle.std.specs.Prelude.{◌≡◌, ℕ, true, false, List, ℤ, ◌≤ℤ◌}
use Rattle.std.specs.List.{AllZip, enumerate_from}
use Rattle.cal_model.specs.Words.Limits.{first_date, last_date}
use Rattle.cal_model.specs.Access.Privileges.{has_all, read, read_acl, read_free_busy}
use Rattle.cal_model.specs.State.ServerState.{Directory, Calendar, Home, ServerState}
use Rattle.cal_model.specs.Sight.Views.{held_on, contents_of, busy_class, visible_calendars}

-- two calendars of one owner look alike to a user
pub record CalendarsLookAlike (directory : Directory) (owner who : ℕ) (a b : Calendar) : Type 0 where
  -- the same privileges are held
  pub held : held_on directory owner who a ≡ held_on directory owner who b
  -- where read is held, the properties and the objects are equal
  pub contents : has_all (held_on directory owner who a) read ≡ true → contents_of a ≡ contents_of b
  -- where read-acl is held, the grants are equal
  pub grants : has_all (held_on directory owner who a) read_acl ≡ true → a.grants ≡ b.grants
  -- where read-free-busy is held without read, each second of the served dates has the same class
  pub busy : has_all (held_on directory owner who a) read_free_busy ≡ true → has_all (held_on directory owner who a) read ≡ false
      → (t : ℤ) → first_date ≤ℤ t → t ≤ℤ last_date → busy_class a t ≡ busy_class b t

-- the same names are visible, and the calendars of one name look alike
abbrev pub EntriesLookAlike : Directory → ℕ → ℕ → List ℕ × Calendar → List ℕ × Calendar → Type 0
EntriesLookAlike directory owner who a b = (a.0 ≡ b.0) × CalendarsLookAlike directory owner who a.1 b.1

abbrev pub HomesLookAlike : Directory → ℕ → ℕ × Home → ℕ × Home → Type 0
HomesLookAlike directory who a b =
    (a.0 ≡ b.0) × AllZip (EntriesLookAlike directory a.0 who) (visible_calendars directory a.0 who a.1) (visible_calendars directory b.0 who b.1)

-- Two states of the same users and the same groups look alike to one of the users.
abbrev pub LookAlike : Directory → ServerState → ServerState → ℕ → Type 0
LookAlike directory a b who = AllZip (HomesLookAlike directory who) (enumerate_from 0 a.homes) (enumerate_from 0 b.homes)
