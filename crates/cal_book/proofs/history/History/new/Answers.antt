use Rattle.std.proofs.Common.{ap, subst, map}
use Rattle.cal_base.specs.Lists.Reserved.{Reserved}
use Rattle.cal_journal.specs.declared.entries.Entry.{Entry}
use Rattle.cal_journal.specs.KeptEntries.{kept_entry}
use Rattle.cal_model.specs.State.ServerState.{directory_of}
use Rattle.cal_model.specs.State.UserNames.{AreToldApart}
use Rattle.cal_model.specs.Users.UsersFile.{Users}
use Rattle.cal_book.proofs.Keeping.ShownLemmas.{opening_history}
use Rattle.cal_book.proofs.history.History.new.Goals as goal

pub invariant_of-result : goal.invariant_of-result
invariant_of-result c =
    let told = subst (λ (u : Users). AreToldApart (directory_of u)) c.deref.ensures c.len-count.ensures.told in
    let none = ap (λ (j : Reserved Entry). map kept_entry j.items) c.new-journal.ensures in
    let store = c.in_ok-store.ensures in
    let shown = c.in_ok-shown.ensures in
    opening_history c.args.users c.in_ok-store_users.store_users c.in_ok-shown_users.shown_users c.in_ok-store.store c.in_ok-shown.shown (map kept_entry c.new-journal.result.items) told none
    c.in_ok-store_users.ensures store.users store.state store.no_objects c.in_ok-shown_users.ensures shown.users shown.state shown.no_objects
