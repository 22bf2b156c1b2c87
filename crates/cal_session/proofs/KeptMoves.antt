-- A kept book may go to another thread, where its disk may.
use denote.RattleType.{RattleType}
use denote.Param.Send.{IsSend, recorded_send, struct_send, view_send}
use denote.Struct.Declared as structs
use Rattle.cal_book.proofs.Moves.{book_send}
use Rattle.cal_keeper.specs.declared.disk.Disk.{Ghosts}
use Rattle.cal_keeper.proofs.keeper.Keeper.TheSendSync as keeper
use Rattle.cal_session.specs.contracts.kept.Kept as Kept
use Rattle.cal_session.specs.contracts.kept.Kept.TheInside as KeptFields

pub kept_send : (D : RattleType) (g : Ghosts D.Denot) → IsSend D → IsSend (Kept.the_row D g)
kept_send D g disk =
    view_send (KeptFields.the_row D g) _ _ _ _
    (recorded_send (KeptFields.the_field D g).row _ _ (KeptFields.the_type D g).to_one
    (struct_send (structs.shape (KeptFields.the_type D g)) (book_send, (keeper.the_send D g disk, tt))))
