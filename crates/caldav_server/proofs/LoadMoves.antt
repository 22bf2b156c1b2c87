-- What the threads of `load` are started with and tell at their end may go to another thread, since the book may, and what they share may be shared.
use denote.Param.Send.{IsSend, IsSync, recorded_send, recorded_sync, struct_send, struct_sync, view_sync, sendable}
use denote.Ref.{NamedLft}
use denote.Struct.Declared as structs
use Rattle.std.proofs.alloc.Global.TheSendSync as global
use Rattle.cal_session.specs.contracts.service.Service as Service
use Rattle.cal_session.specs.contracts.service.Service.TheInside as ServiceFields
use Rattle.privileges.proofs.users.Users.TheSendSync as users
use Rattle.turn_lock.proofs.lock.TurnLock.TheSendSync as lock
use Rattle.turn_lock.proofs.pass.Pass.TheSendSync as pass
use Rattle.cal_book.proofs.Moves.{book_send}
use Rattle.caldav_server.proofs.load_sessions.Role.TheSendSync as role
use Rattle.caldav_server.proofs.load_sessions.Outcome.TheSendSync as outcome
use Rattle.caldav_server.specs.contracts.load_sessions.Done as Done
use Rattle.caldav_server.specs.contracts.load_sessions.Context as Context
use Rattle.caldav_server.specs.contracts.load_sessions.Job as Job

pub job_send : IsSend Job.the_row
job_send =
    recorded_send Job.the_field.row _ _ Job.the_type.to_one
    (struct_send (structs.shape Job.the_type) (search (sendable, pass.the_send, book_send), (role.the_field_send, tt)))

pub done_send : IsSend Done.the_row
done_send =
    recorded_send Done.the_field.row _ _ Done.the_type.to_one
    (struct_send (structs.shape Done.the_type) (search (sendable, pass.the_send, book_send), (outcome.the_field_send, tt)))

service_sync : IsSync Service.the_row
service_sync =
    view_sync ServiceFields.the_row _ _ _ _
    (recorded_sync ServiceFields.the_field.row _ _ ServiceFields.the_type.to_one
    (struct_sync (structs.shape ServiceFields.the_type) (search (sendable, lock.the_sync, book_send), tt)))

pub context_sync : (κ : NamedLft) → IsSync (Context.the_row κ)
context_sync κ =
    recorded_sync (Context.the_field κ).row _ _ (Context.the_type κ).to_one
    (struct_sync (structs.shape (Context.the_type κ))
    (global.the_field_sync, (search (sendable, service_sync), (search (sendable, users.the_sync), (search sendable, tt)))))
