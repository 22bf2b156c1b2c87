-- What the threads of `load` did, added up.
-- Given: what each thread told at its end, in their order.
use Rattle.std.specs.Prelude.{◌≡◌, ℕ, true, false, List, [], ◌∷◌, length, map, flat_map, sum_by}
use Rattle.std.specs.List.{AllByRecursion}
use Rattle.atomic_table.specs.Seated.{TableId}
use Rattle.sha2.specs.Hashers.{Holds256}
use Rattle.caldav_server.specs.LoadJobs.{Known, IsLeaf}
use Rattle.caldav_server.specs.LoadTallies.{IsTally}
use Rattle.caldav_server.specs.declared.load_joins.Tally.{Tally}
use Rattle.caldav_server.specs.declared.load_sessions.Account.{Account}
use Rattle.caldav_server.specs.declared.load_sessions.Done.{Done}
use Rattle.caldav_server.specs.declared.load_sessions.Outcome.{Outcome}
use Rattle.caldav_server.specs.declared.load_sessions.Outcome.TheVariants.{Served, Worked, Failed}

abbrev pub passes_of : List Done → List Known
passes_of dones = map (λ (done : Done). done.pass) dones

-- a pass of the lock that may be joined into another, and split none off
abbrev pub IsBack : TableId → Known → Type 0
IsBack lock pass = (pass.lock ≡ lock) × (pass.holds_turn ≡ false) × IsLeaf pass

-- the accounts of the sessions
abbrev pub accounts_in : Outcome → List Account
accounts_in (Served account) = account ∷ []
accounts_in Worked = []
accounts_in Failed = []

abbrev pub accounts_of : List Done → List Account
accounts_of dones = flat_map (λ (done : Done). accounts_in done.outcome) dones

abbrev pub HasNotFailed : Outcome → Type 0
HasNotFailed (Served account) = Unit {0}
HasNotFailed Worked = Unit {0}
HasNotFailed Failed = ⊥

abbrev pub requests_in : List Done → ℕ
requests_in dones = sum_by (λ (account : Account). account.requests) (accounts_of dones)

abbrev pub accepted_in : List Done → ℕ
accepted_in dones = sum_by (λ (account : Account). account.accepted) (accounts_of dones)

abbrev pub written_in : List Done → List ℕ
written_in dones = flat_map (λ (account : Account). account.link.written) (accounts_of dones)

-- none failed, and the sums are those of the accounts
pub record IsSumOf (dones : List Done) (tally : Tally) : Type 0 where
  pub done : AllByRecursion (λ (done : Done). HasNotFailed done.outcome) dones
  pub requests_is : tally.requests ≡ requests_in dones
  pub accepted_is : tally.accepted ≡ accepted_in dones
  pub octets_is : tally.octets ≡ length (written_in dones)
  pub digest_is : Holds256 tally.digest (written_in dones)

-- where nothing went wrong
abbrev pub AreAdded : List Done → Tally → Type 0
AreAdded dones tally = tally.whole ≡ true → IsSumOf dones tally

-- the sums are those of the definition
pub record IsSummed (puts sessions : ℕ) (tally : Tally) : Type 0 where
  pub written : List ℕ
  pub sums : IsTally puts sessions sessions tally.requests tally.accepted tally.octets written
  pub digest_is : Holds256 tally.digest written
