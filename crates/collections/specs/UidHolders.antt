-- Which object of a calendar has a UID (RFC 4791, 5.3.2.1, no-uid-conflict).
-- Given: a state, a calendar and a UID.
use Rattle.std.specs.Prelude.{◌≡◌, ℕ, true, List, filter, Option, Some, option_and_then}
use Rattle.cal_base.specs.Lines.ComponentTrees.{first}
use Rattle.cal_base.specs.Lists.NameMap.{Named, value_at}
use Rattle.cal_model.specs.State.ServerState.{Calendar, ServerState, calendar_at}
use Rattle.cal_model.specs.Refusals.Preconditions.{has_uid}

-- the first object that has it, by name, and its octets
abbrev pub with_uid : Named (List ℕ) → List ℕ → Option (List ℕ × List ℕ)
with_uid objects uid = first (filter (λ (entry : List ℕ × List ℕ). has_uid (Some uid) entry.1) objects)

abbrev pub uid_holder_at : ServerState → ℕ → List ℕ → List ℕ → Option (List ℕ × List ℕ)
uid_holder_at state home calendar uid = option_and_then (λ (c : Calendar). with_uid c.objects uid) (calendar_at state home calendar)

-- no two objects have it
abbrev pub IsAloneWith : Named (List ℕ) → List ℕ → Type 0
IsAloneWith objects uid =
    (a b octets octets' : List ℕ) → value_at objects a ≡ Some octets → value_at objects b ≡ Some octets'
    → has_uid (Some uid) octets ≡ true → has_uid (Some uid) octets' ≡ true → a ≡ b

abbrev pub IsAloneWithAt : ServerState → ℕ → List ℕ → List ℕ → Type 0
IsAloneWithAt state home calendar uid = (c : Calendar) → calendar_at state home calendar ≡ Some c → IsAloneWith c.objects uid
