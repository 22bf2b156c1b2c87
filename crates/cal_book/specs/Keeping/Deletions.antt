-- The entry of a deletion: who asked for it, and its status (RFC 9110, 9.3.5).
use Rattle.cal_model.specs.History.Journal.{Entry}
use Rattle.cal_model.specs.State.Changes.{Change}
use Rattle.cal_book.specs.declared.history.Asked.{Asked}

abbrev pub asked_entry : Asked → Change → Entry
asked_entry asked change = record { session = asked.session; who = asked.who; moment = asked.moment; change = change; status = 204 }
