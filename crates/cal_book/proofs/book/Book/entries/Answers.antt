use Rattle.std.proofs.Common.{subst}
use Rattle.cal_model.specs.State.ServerState.{directory_of}
use Rattle.cal_book.specs.Books.{core_of}
use Rattle.cal_book.specs.Cores.{IsRightCore}
use Rattle.cal_book.proofs.LiveOctets.{live-octets, replay-sound}
use Rattle.cal_book.proofs.book.Book.entries.Goals as goal

pub returns-clause-kept : goal.returns-clause-kept
returns-clause-kept c =
    let history = c.self.inside.history in
    let claims = c.self.inside.claims in
    let step = c.entries.ensures.step in
    let right : IsRightCore (core_of history claims c.self.inside.room) = record {
      legal = step.legal;
      sound = replay-sound (directory_of history.users) step.told history.journal step.legal step.sound;
      live = live-octets (directory_of history.users) step.told history.journal step.legal step.sound;
      right = c.self.invariant.up_to_date.right;
      within = c.row_count-count.ensures.within;
    } in
    subst IsRightCore c.self.view_is right
