use Rattle.std.proofs.Common.{◌∙◌, refl, inl, inr, arith, ap, Err}
use Rattle.caldav_server.proofs.SlotFiles.{known_in_all, not_early, only_read}
use Rattle.caldav_server.proofs.slot.slot_of_files.Goals as goal

pub returns-in-Ok-clause-known : goal.returns-in-Ok-clause-known
returns-in-Ok-clause-known g c = known_in_all c.slot_of_journal.result.0.status c.slot_of_journal.ensures.end.known

pub returns-in-Ok-clause-users_refused : goal.returns-in-Ok-clause-users_refused
returns-in-Ok-clause-users_refused g c = λ is. absurd (not_early c.slot_of_journal.result.0.status 3 c.slot_of_journal.ensures.end.known (omega arith) (omega arith) is)

pub returns-in-Ok-clause-users_first : goal.returns-in-Ok-clause-users_first
returns-in-Ok-clause-users_first g c = λ is. elim is [
  | inl three ↦ absurd (not_early c.slot_of_journal.result.0.status 3 c.slot_of_journal.ensures.end.known (omega arith) (omega arith) three)
  | inr four ↦ absurd (not_early c.slot_of_journal.result.0.status 4 c.slot_of_journal.ensures.end.known (omega arith) (omega arith) four)
]

pub returns-in-Ok-clause-users_fault : goal.returns-in-Ok-clause-users_fault
returns-in-Ok-clause-users_fault g c = λ is. absurd (not_early c.slot_of_journal.result.0.status 4 c.slot_of_journal.ensures.end.known (omega arith) (omega arith) is)

pub returns-in-Ok-clause-behind : goal.returns-in-Ok-clause-behind
returns-in-Ok-clause-behind g c = inr (c.in-Ok.users, c.in-Ok.ensures.taken, c.slot_of_journal.ensures.end)

pub returns-in-Ok-clause-placed : goal.returns-in-Ok-clause-placed
returns-in-Ok-clause-placed g c = inr c.slot_of_journal.ensures.end.placed

pub returns-in-Err-Line-clause-only_read : goal.returns-in-Err-Line-clause-only_read
returns-in-Err-Line-clause-only_read g c = inr (only_read _ _ (inl refl))

pub returns-in-Err-Files-clause-only_read : goal.returns-in-Err-Files-clause-only_read
returns-in-Err-Files-clause-only_read g c = inr (only_read _ _ (inl refl))

pub returns-in-Err-NoMemory-clause-only_read : goal.returns-in-Err-NoMemory-clause-only_read
returns-in-Err-NoMemory-clause-only_read g c = inr (only_read _ _ (inl refl))

pub returns-in-Err-Line-clause-users_refused : goal.returns-in-Err-Line-clause-users_refused
returns-in-Err-Line-clause-users_refused g c = λ status.
    rw c.in-Err-Line.field-0-is (c.take_users.ensures.refused c.in-Err-Line.place (c.in-Err-Line.is ∙ ap (λ why. Err why) c.in-Err-Line.field-0-is))
