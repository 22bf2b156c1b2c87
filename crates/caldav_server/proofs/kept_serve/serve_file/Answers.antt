use Rattle.std.proofs.Common.{◌∙◌, inl, inr, ap, Err}
use Rattle.caldav_server.proofs.KeptServing.{known_in_all}
use Rattle.caldav_server.proofs.kept_serve.serve_file.Goals as goal

pub returns-in-Ok-clause-known : goal.returns-in-Ok-clause-known
returns-in-Ok-clause-known g c = known_in_all c.serve_at_journal.result.0.status c.serve_at_journal.ensures.known

pub returns-in-Ok-clause-journal_refused : goal.returns-in-Ok-clause-journal_refused
returns-in-Ok-clause-journal_refused g c = λ is.
    let h = c.serve_at_journal.ensures.journal_refused is in
    (h.0, c.in-Ok.users, c.in-Ok.ensures.taken, h.1)

pub returns-in-Ok-clause-journal_fault : goal.returns-in-Ok-clause-journal_fault
returns-in-Ok-clause-journal_fault g c = λ is. elim (c.serve_at_journal.ensures.journal_fault is) [
  | inl early ↦ inl early
  | inr served ↦ inr (c.in-Ok.users, c.in-Ok.ensures.taken, served)
]

pub returns-in-Ok-clause-door_behind_journal : goal.returns-in-Ok-clause-door_behind_journal
returns-in-Ok-clause-door_behind_journal g c = elim c.serve_at_journal.ensures.door_behind_journal [
  | inl early ↦ inl early
  | inr served ↦ inr (c.in-Ok.users, c.in-Ok.ensures.taken, served)
]

pub returns-in-Ok-clause-served : goal.returns-in-Ok-clause-served
returns-in-Ok-clause-served g c = λ is. (c.in-Ok.users, c.in-Ok.ensures.taken, c.serve_at_journal.ensures.served is)

pub returns-in-Err-Line-clause-users_refused : goal.returns-in-Err-Line-clause-users_refused
returns-in-Err-Line-clause-users_refused g c = λ status.
    rw c.in-Err-Line.field-0-is (c.take_users.ensures.refused c.in-Err-Line.place (c.in-Err-Line.is ∙ ap (λ why. Err why) c.in-Err-Line.field-0-is))
