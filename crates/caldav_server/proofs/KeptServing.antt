-- What the status of a server at a journal file says, by how it ended behind its journal.
use Rattle.std.proofs.Common.{◌≡◌, ℕ, Bool, true, false, refl, arith, inl, inr}
use Rattle.std.specs.Prelude.{◌⊎◌, Result, Ok, Err, IsErrOf, OnOk}
use Rattle.caldav_server.specs.KeptServers.{IsKeptServeStatus, IsKeptServedStatus, served_status}
use Rattle.caldav_server.specs.declared.threads.NotServed.{NotServed}
use Rattle.caldav_server.specs.declared.threads.NotServed.TheVariants.{Door, NoMemory, Over}

pub served_known : {T : Type 0} (broken : Bool) (served : Result T NotServed) → IsKeptServedStatus (served_status broken served)
served_known true served = inr refl
served_known false (Ok done) = inl (inl refl)
served_known false (Err Door) = inl (inr (inl refl))
served_known false (Err NoMemory) = inl (inr (inr refl))
served_known false (Err Over) = inl (inr (inr refl))

-- 0 is that of a server that served them all
pub served_all : {T : Type 0} (broken : Bool) (served : Result T NotServed) (P : Type 0) → OnOk served P → served_status broken served ≡ 0 → P
served_all true served P h is = absurd (omega (arith, is))
served_all false (Ok done) P h is = h
served_all false (Err Door) P h is = absurd (omega (arith, is))
served_all false (Err NoMemory) P h is = absurd (omega (arith, is))
served_all false (Err Over) P h is = absurd (omega (arith, is))

-- 4 that of one without a further door
pub without_door : {T : Type 0} (broken : Bool) (served : Result T NotServed) → served_status broken served ≡ 4 → IsErrOf served Door
without_door true served is = absurd (omega (arith, is))
without_door false (Ok done) is = absurd (omega (arith, is))
without_door false (Err Door) is = refl
without_door false (Err NoMemory) is = absurd (omega (arith, is))
without_door false (Err Over) is = absurd (omega (arith, is))

-- and 8 that of one whose book is broken
pub broken_at_eight : {T : Type 0} (broken : Bool) (served : Result T NotServed) → served_status broken served ≡ 8 → broken ≡ true
broken_at_eight true served is = refl
broken_at_eight false (Ok done) is = absurd (omega (arith, is))
broken_at_eight false (Err Door) is = absurd (omega (arith, is))
broken_at_eight false (Err NoMemory) is = absurd (omega (arith, is))
broken_at_eight false (Err Over) is = absurd (omega (arith, is))

pub unbroken_else : {T : Type 0} (broken : Bool) (served : Result T NotServed) → (served_status broken served ≡ 8 → ⊥) → broken ≡ false
unbroken_else true served other = absurd (other refl)
unbroken_else false served other = refl

-- which statuses there are in all, where those behind the journal are these
pub known_in_all : (status : ℕ) → IsKeptServedStatus status ⊎ (status ≡ 9) → IsKeptServeStatus status × (status ≡ 2 → ⊥)
known_in_all status (inl (inl (inl is))) = (inl (inl is), λ two. omega (arith, is, two))
known_in_all status (inl (inl (inr (inl is)))) = (inl (inr (inr (inr (inl is)))), λ two. omega (arith, is, two))
known_in_all status (inl (inl (inr (inr is)))) = (inl (inr (inr (inr (inr is)))), λ two. omega (arith, is, two))
known_in_all status (inl (inr is)) = (inr (inl is), λ two. omega (arith, is, two))
known_in_all status (inr is) = (inr (inr is), λ two. omega (arith, is, two))

-- 9 is not one of those behind the journal
pub not_nine : (status : ℕ) → IsKeptServedStatus status → status ≡ 9 → ⊥
not_nine status (inl (inl is)) nine = omega (arith, is, nine)
not_nine status (inl (inr (inl is))) nine = omega (arith, is, nine)
not_nine status (inl (inr (inr is))) nine = omega (arith, is, nine)
not_nine status (inr is) nine = omega (arith, is, nine)
