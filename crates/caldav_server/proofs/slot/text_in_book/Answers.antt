use Rattle.cal_book.specs.Cores.{directory_in, state_in}
use Rattle.caldav_server.proofs.SlotBooks.{seen_by_view}
use Rattle.caldav_server.proofs.slot.text_in_book.Goals as goal

pub text_in_view-requires-clause-served : goal.text_in_view-requires-clause-served
text_in_view-requires-clause-served c = (c.requires.served.0, c.requires.served.2)

pub returns : goal.returns
returns c =
    let said = c.args.said.now in
    let book = c.args.book.now in
    let view = c.view-view in
    seen_by_view (directory_in book) _ (state_in book) _ said.user.now said.range said.minutes said.most said.paths c.as_slice.result.now c.text_in_view.result view.ensures.directory view.ensures.state c.as_slice.ensures c.text_in_view.ensures.answer
